-- The lines of the first shards.
use Rattle.std.proofs.Common.{◌≡◌, ◌++◌, take}
use Rattle.std.specs.Prelude.{string_bytes}
use Rattle.std.specs.List.{flat_map}
use Rattle.scrub_compare.specs.Compare.{owned_by, shard_change}
use Rattle.scrub_compare.specs.steps.Rows.{row_among}
use Rattle.scrub_compare.proofs.rows.append_shards.Given as goal

abbrev pub invariant-loop-id : goal.invariant-loop-id
invariant-loop-id g l =
    string_bytes l.text
    ≡ string_bytes l.fn.text
    ++ flat_map (λ id. shard_change (row_among l.before.all.now.extents l.before.copies.now) (row_among l.after.all.now.extents l.after.copies.now) (owned_by id l.before.shards.now) (owned_by id l.after.shards.now)) (take l.id-index l.ids)
