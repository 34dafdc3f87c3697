-- The entries of the first bindings.
use Rattle.std.proofs.Common.{◌≡◌, ◌++◌, List, take}
use Rattle.std.specs.List.{flat_map}
use Rattle.scrub_run.specs.steps.Parts.{entry_bytes}
use Rattle.scrub_check.specs.declared.statuses.checked.Checked.{Checked}
use Rattle.scrub_check.specs.Checked.{AreBrokenShards}
use Rattle.scrub_report.specs.Index.{index_entries}
use Rattle.scrub_report.proofs.index.append_kept.Given as goal

abbrev pub invariant-loop-binding : goal.invariant-loop-binding
invariant-loop-binding l = (checked : List Checked) → AreBrokenShards checked l.broken →
    l.run ≡ l.fn.run ++ flat_map entry_bytes (index_entries checked (take l.binding-index l.bindings))
