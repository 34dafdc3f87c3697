use Rattle.std.proofs.Common.{◌≡◌, ◌++◌, List}
use Rattle.scrub_check.specs.declared.statuses.checked.Checked.{Checked}
use Rattle.scrub_check.specs.steps.LocatorIndex.{IsLocatorIndex, reclaimable}
use Rattle.scrub_check.proofs.lists.reclaiming.reclaimable_among.Given as goal

-- the candidates so far, and those of the extents that are left
abbrev pub invariant-loop-found : goal.invariant-loop-found
invariant-loop-found g l = (checked : List Checked) → IsLocatorIndex checked l.locators →
    l.candidates.items ++ reclaimable l.geometry l.found-iterator checked ≡ reclaimable l.geometry l.all.extents checked
