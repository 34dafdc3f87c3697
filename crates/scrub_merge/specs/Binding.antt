-- Bindings of identifiers over a list of index runs, newest first, and which of them is an identifier's newest.
use Rattle.std.specs.Prelude.{◌≡◌, ◌<◌, ◌↔◌, ℕ, Bool, IsTrue, Option, Some, None, List, Contains, slice_get}
use Rattle.scrub_frame.specs.declared.locator.Locator.{Locator}
use Rattle.scrub_run.specs.declared.shard_id.ShardId.{ShardId}
use Rattle.scrub_run.specs.Entry.{EntryValue}

-- an identifier, its locators, the number of the run that binds it, and whether that is doubtful
pub record BindingValue : Type 0 where
  pub id : ShardId
  pub locators : List Locator
  pub run : ℕ
  pub doubtful : Bool

-- the entries of each run, the newest run first, or None if the run is lost
abbrev pub Runs : Type 0
Runs = List (Option (List EntryValue))

-- the run with this number is read, and has this entry
pub record IsEntryOf (runs : Runs) (number : ℕ) (e : EntryValue) : Type 0 where
  pub entries : List EntryValue
  pub is_read : slice_get runs number ≡ Some (Some entries)
  pub among : Contains entries e

-- the newest binding of an identifier: its entry in the first run that isn't lost and has it, doubtful exactly if a
-- lost run comes before that run, and so is newer
pub record IsNewestBinding (runs : Runs) (b : BindingValue) : Type 0 where
  pub entry : IsEntryOf runs b.run (record { id = b.id; locators = b.locators })
  pub first : (k : ℕ) (e : EntryValue) → k < b.run → IsEntryOf runs k e → e.id ≡ b.id → ⊥
  pub doubt : IsTrue b.doubtful ↔ ((k : ℕ) × (k < b.run) × (slice_get runs k ≡ Some None))
