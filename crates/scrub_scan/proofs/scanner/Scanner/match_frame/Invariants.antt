-- The bytes so far have passed, and the near page stays.
use Rattle.std.proofs.Common.{◌≡◌, ◌<◌, ◌≤◌, ◌-◌, ◌+◌, ◌/◌, Some}
use Rattle.scrub_scan.specs.steps.Pages.{target_of, Scans, Passes, HasRead}
use Rattle.scrub_scan.proofs.scanner.Scanner.match_frame.Given as goal

abbrev pub invariant-loop-place : goal.invariant-loop-place
invariant-loop-place g l = record {
  scans : Scans (g.D.PageSource.image l.disk) l.target l.self;
  near : l.self.pages.near ≡ l.fn.self.pages.near;
  below : l.place < l.target.pointer;
  passes : Passes (target_of (g.D.PageSource.image l.disk) l.target) l.start l.place l.self.matcher;
  asked : l.fn.self.pages.near.number ≡ Some (l.start / l.target.page) →
      l.self.pages.asked ≤ l.fn.self.pages.asked + (l.place / l.target.page - (l.start / l.target.page + 1));
  read : HasRead l.fn.self.pages (l.start / l.target.page) → HasRead l.self.pages (l.place / l.target.page);
}

abbrev pub decreases-loop-place : goal.decreases-loop-place
decreases-loop-place g l = l.target.pointer - l.place
