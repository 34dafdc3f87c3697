-- The payload's bytes so far are in the batch, those of the seal beside it, and the near page stays.
use Rattle.std.proofs.Common.{◌≡◌, ◌<◌, ◌≤◌, ◌-◌, ◌+◌, ◌/◌, [], ℕ, List, Some, min, length, take}
use Rattle.scrub_disk.specs.Image.{AreBytesAt}
use Rattle.sha_lanes.specs.Gathered.{Gathers}
use Rattle.scrub_scan.specs.steps.Pages.{target_of, Scans, HasRead}
use Rattle.scrub_scan.proofs.scanner.Scanner.gather_frame.Given as goal

abbrev pub invariant-loop-place : goal.invariant-loop-place
invariant-loop-place g l = record {
  scans : Scans (g.D.PageSource.image l.disk) l.target l.self;
  near : l.self.pages.near ≡ l.fn.self.pages.near;
  low : l.start ≤ l.place;
  below : l.place < l.end;
  gathered : (messages : List (List ℕ)) → Gathers l.fn.batch messages [] →
      (next : List ℕ) × Gathers l.batch messages next × (length next ≡ min l.place l.last - l.first)
      × AreBytesAt (target_of (g.D.PageSource.image l.disk) l.target).byte l.first next;
  sealed : AreBytesAt (target_of (g.D.PageSource.image l.disk) l.target).byte l.sealed (take (min l.place l.first - l.sealed) l.seal);
  asked : l.fn.self.pages.near.number ≡ Some (l.start / l.target.page) →
      l.self.pages.asked ≤ l.fn.self.pages.asked + (l.place / l.target.page - (l.start / l.target.page + 1));
  read : HasRead l.fn.self.pages (l.start / l.target.page) → HasRead l.self.pages (l.place / l.target.page);
}

abbrev pub decreases-loop-place : goal.decreases-loop-place
decreases-loop-place g l = l.end - l.place
