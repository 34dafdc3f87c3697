use Rattle.std.proofs.lemmas.Slice.Zip.{AllZip-long}
use Rattle.scrub_check.specs.steps.Open.{IsKnownBefore}
use Rattle.scrub_check.proofs.statuses.checked.check_others.Goals as goal

-- something is said of each
pub check_each-requires-clause-count : goal.check_each-requires-clause-count
check_each-requires-clause-count g c =
    rw c.deref.ensures.value
    (AllZip-long (IsKnownBefore (g.D.PageSource.image c.args.scan.now.disk.now) c.args.scan.now.plan.now) c.args.named.now c.in_ok-known.known.items c.in_ok-known.ensures.known)

pub returns : goal.returns
returns g c =
    c.check_each.ensures (g.D.PageSource.image c.args.scan.now.disk.now) c.args.scan.now.plan.now
    (rw c.deref.ensures.value c.in_ok-known.ensures.known)
