use Rattle.std.proofs.Common.{take, IfSome}
use Rattle.std.specs.List.{AllZip}
use Rattle.scrub_scan.specs.Slots.{AreFull, IsPlannedResult}
use Rattle.scrub_scan.proofs.scanning.scan_in_order.Given as goal

-- The slots so far have the results of the planned extents so far.
abbrev pub invariant-loop-extent : goal.invariant-loop-extent
invariant-loop-extent g l = record {
  are : AllZip (λ e slot. IfSome slot (λ r. IsPlannedResult (g.D.PageSource.image l.disk) l.plan e r)) (take l.extent-index l.extent-items) l.slots.items;
  full : AreFull l.slots.items;
}
