-- The counts of the first bindings.
use Rattle.std.proofs.Common.{◌≡◌, ◌*◌, ◌≤◌, List, length, take}
use Rattle.scrub_check.specs.declared.statuses.checked.Checked.{Checked}
use Rattle.scrub_check.specs.Checked.{AreBrokenShards}
use Rattle.scrub_report.specs.Index.{index_entries}
use Rattle.scrub_report.specs.steps.IndexLocators.{all_locators}
use Rattle.scrub_report.proofs.index.kept_sizes.Given as goal

abbrev pub invariant-loop-binding : goal.invariant-loop-binding
invariant-loop-binding l = record {
  few : l.entries ≤ l.binding-index;
  bound : l.locators ≤ 64 * l.entries;
  counted : (checked : List Checked) → AreBrokenShards checked l.broken → l.entries ≡ length (index_entries checked (take l.binding-index l.bindings));
  summed : (checked : List Checked) → AreBrokenShards checked l.broken → l.locators ≡ length (all_locators (index_entries checked (take l.binding-index l.bindings)));
}
