-- Entries of an index run, and the order of identifiers.
use Rattle.std.specs.Prelude.{◌≡◌, List}
use Rattle.std.specs.Cmp.Lexicographic.{slice_cmp}
use Rattle.std.specs.Ordering.{nat_cmp}
use Rattle.std.specs.declared.cmp.Ordering.TheVariants.{Less}
use Rattle.scrub_frame.specs.declared.locator.Locator.{Locator}
use Rattle.scrub_run.specs.declared.shard_id.ShardId.{ShardId}

-- a shard's identifier, and the locators of its chunks in order: none if the shard was deleted
pub record EntryValue : Type 0 where
  pub id : ShardId
  pub locators : List Locator

-- an identifier is less than another, compared byte by byte from the front
abbrev pub IsBelow : ShardId → ShardId → Type 0
IsBelow a b = slice_cmp nat_cmp a.0 b.0 ≡ Less
