use Rattle.scrub_check.specs.steps.Open.{IsSeenAt, IsReadPlace}
use Rattle.scrub_check.proofs.StatusByFrame.{judged_by_frame}
use Rattle.scrub_check.proofs.ClaimedFrames.{judged_by_claim}
use Rattle.scrub_check.proofs.statuses.open_place.OpenPlace.status.Given.{Over}
use Rattle.scrub_check.proofs.statuses.open_place.OpenPlace.status.Goals as goal
use Rattle.scrub_check.proofs.statuses.open_place.OpenPlace.status.Goals.{then-not-self+in_ok-self, else-not-self}

-- what is claimed at the place gives it
pub returns-in-Some-clause-status : goal.returns-in-Some-clause-status
returns-in-Some-clause-status g c =
    judged_by_claim (g.D.PageSource.image c.args.scan.now.disk.now) c.args.scan.now.plan.now c.args.locator.now
    c.args.self.now.claimed c.status_by_claim.result c.in-Some.status c.requires.left
    (rw c.requires.there at c.requires.read.claimed) c.status_by_claim.ensures c.in-Some.is

-- or the frame there does, which was hashed now or before
hashed : (g : Over) (c : goal.After-status_by_frame g) →
    IsReadPlace (g.D.PageSource.image c.args.scan.now.disk.now) c.args.scan.now.plan.now c.if-not-self.self
    × IsSeenAt (g.D.PageSource.image c.args.scan.now.disk.now) c.args.scan.now.plan.now c.args.self.now.place c.if-not-self.self.frame
hashed g c =
    elim c.if-not-self.branch [
      | then-not-self+in_ok-self w ↦
          rw w.self-is
          (record { claimed = c.requires.read.claimed; frame = λ now. w.in_ok-self.ensures }, w.in_ok-self.ensures)
      | else-not-self w ↦ rw w.self-is (c.requires.read, c.requires.read.frame w.if-not-self.false)
    ]

pub returns-clause-status : goal.returns-clause-status
returns-clause-status g c =
    judged_by_frame (g.D.PageSource.image c.args.scan.now.disk.now) c.args.scan.now.plan.now c.args.locator.now
    c.if-not-self.self.frame c.status_by_frame.result c.requires.left
    (rw c.requires.there at (hashed g c).1) c.status_by_frame.ensures

pub returns-clause-read : goal.returns-clause-read
returns-clause-read g c = (hashed g c).0
