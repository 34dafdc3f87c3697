-- The entries so far fit and are written.
use Rattle.std.proofs.Common.{◌≡◌, ◌<◌, ◌++◌, ℕ, take, get_or}
use Rattle.std.specs.List.{flat_map}
use Rattle.scrub_run.specs.Entry.{EntryValue}
use Rattle.scrub_run.specs.steps.Parts.{entry_bytes, IsEntry}
use Rattle.scrub_run.proofs.writing.write_run.Given as goal

abbrev pub invariant-loop-entry : goal.invariant-loop-entry
invariant-loop-entry l = record {
  fit : (k : ℕ) (d : EntryValue) → k < l.entry-index → IsEntry (get_or l.entries k d);
  written : l.run ≡ l.initial.run ++ flat_map entry_bytes (take l.entry-index l.entries);
}
