-- Those of the first chunks.
use Rattle.std.proofs.Common.{◌≡◌, List, take}
use Rattle.scrub_check.specs.declared.statuses.checked.Checked.{Checked}
use Rattle.scrub_check.specs.steps.LocatorIndex.{IsLocatorIndex}
use Rattle.scrub_reclaim.specs.Doubts.{safe_spares}
use Rattle.scrub_reclaim.proofs.spare_doubts.safe_spares.Given as goal

abbrev pub invariant-loop-spare : goal.invariant-loop-spare
invariant-loop-spare l = (checked : List Checked) → IsLocatorIndex checked l.locators →
    l.stay.items ≡ safe_spares checked l.extents (take l.spare-index l.some)
