-- What was collected tiles the extent up to the place if the seals hold, and the tiling could go back to the first of them.
use Rattle.std.proofs.Common.{◌≡◌, ◌≤◌, ◌+◌, ◌-◌, ◌*◌, ◌/◌, false, None, IfSome}
use Rattle.scrub_scan.specs.steps.Pages.{target_of, Scans}
use Rattle.scrub_scan.specs.steps.Gathering.{Grows, IsCollected, HasReadTo}
use Rattle.scrub_scan.proofs.tiling.tile_on.Given as goal

abbrev pub invariant-loop-place : goal.invariant-loop-place
invariant-loop-place g l = record {
  scans : Scans (g.D.PageSource.image l.disk) l.target l.scanner;
  collected : IsCollected (target_of (g.D.PageSource.image l.disk) l.target) l.place l.payloads l.collected;
  read : HasReadTo (g.D.PageSource.image l.disk) l.target l.scanner.pages l.place;
  affordable : IfSome l.collected.trusted_from (λ first.
      l.scanner.pages.asked ≤ first / l.target.page * ((g.D.PageSource.image l.disk).geometry.pages + 5));
  never : l.trusting ≡ false → l.collected.trusted_from ≡ None;
  grows : Grows l.initial.payloads l.payloads;
}

abbrev pub decreases-loop-place : goal.decreases-loop-place
decreases-loop-place g l = l.target.pointer - l.place
