use Rattle.std.proofs.Common.{◌≡◌, ◌++◌, ◌∷◌, List}
use Rattle.std.specs.List.Sorted.{IsStrictlyIncreasing}
use Rattle.scrub_scan.specs.Scanned.{Scanned}
use Rattle.scrub_scan.specs.AllFindings.{extent_numbers}
use Rattle.scrub_check.specs.declared.statuses.checked.Checked.{Checked}
use Rattle.scrub_check.specs.steps.LocatorIndex.{IsLocatorIndex}
use Rattle.scrub_check.specs.steps.LiveAndOrphans.{HasPassed, AreLiveAndOrphans}
use Rattle.scrub_check.proofs.lists.live_and_orphans.part_chunks.Given as goal

-- the extents before those that are left are added, and the cursor has passed no place in the next one
abbrev pub invariant-loop-found : goal.invariant-loop-found
invariant-loop-found g l = record {
  so_far : (checked : List Checked) → IsLocatorIndex checked l.fn.locators →
      (before : List Scanned) × (before ++ l.found-iterator ≡ l.all.extents) × AreLiveAndOrphans l.fn.geometry checked before l.so_far;
  over : l.cursor.starts.now ≡ l.fn.locators.sound;
  rising : IsStrictlyIncreasing (extent_numbers l.found-iterator);
  passed : (f : Scanned) (fs : List Scanned) → l.found-iterator ≡ f ∷ fs → HasPassed l.cursor f.extent 0;
}
