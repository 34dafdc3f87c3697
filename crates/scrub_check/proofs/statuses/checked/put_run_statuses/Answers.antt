use Rattle.scrub_check.specs.declared.statuses.status.Status.TheVariants.{OutOfRange}
use Rattle.scrub_check.proofs.OpenPlaces.{run_known}
use Rattle.scrub_check.proofs.statuses.checked.put_run_statuses.Goals as goal

pub loop-i-preserved : goal.loop-i-preserved
loop-i-preserved c = λ image plan map are known.
    run_known image plan map c.args.statuses.now c.loop-i.known c.loop-i.i OutOfRange c.loop-i-test.true are
    (c.loop-i.invariant image plan map are known)
