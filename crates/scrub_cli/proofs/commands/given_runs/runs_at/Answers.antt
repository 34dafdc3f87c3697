-- One more place, at which there is a run or none.
use Rattle.std.proofs.Common.{[], arith}
use Rattle.std.proofs.lemmas.List.{get_or_default}
use Rattle.scrub_cli.proofs.GivenRunsAnswers.{all_runs, first_runs_more, no_run_there, no_runs_yet, one_place_each, place_of}
use Rattle.scrub_cli.proofs.commands.given_runs.runs_at.Goals as goal

pub loop-number-init : goal.loop-number-init
loop-number-init g c = rw c.new-runs.ensures.items (no_runs_yet (g.D.PageSource.image c.args.disk.now) c.args.places.now)

pub bounds-places-number : goal.bounds-places-number
bounds-places-number g c =
    omega (arith, one_place_each (g.D.PageSource.image c.args.disk.now).geometry c.args.args.now c.args.places.now c.requires, c.loop-number-test.true)

pub bounds-places-number-in-loop-number : goal.bounds-places-number-in-loop-number
bounds-places-number-in-loop-number g c =
    omega (arith, one_place_each (g.D.PageSource.image c.args.disk.now).geometry c.args.args.now c.args.places.now c.requires, c.loop-number-test.true)

pub run_at-requires-clause-in_disk : goal.run_at-requires-clause-in_disk
run_at-requires-clause-in_disk g c κs within =
    (place_of (g.D.PageSource.image c.args.disk.now).geometry c.args.args.now c.args.places.now c.loop-number.number (record { ref_ptr = (0, 0); now = [] }) (0, 0) c.requires c.loop-number-test.true).in_extents

pub returns-in_default-clause-runs : goal.returns-in_default-clause-runs
returns-in_default-clause-runs g c =
    no_run_there (g.D.PageSource.image c.args.disk.now) c.args.args.now c.args.places.now c.loop-number.number c.loop-number.runs.items
    _ (0, 0) c.requires c.loop-number-test.true
    (get_or_default c.args.args.now c.loop-number.number (record { ref_ptr = (0, 0); now = [] }) _ c.loop-number-test.true) c.loop-number.invariant
    (rw c.in_default.is at c.in_ok-run.ensures.none)

pub loop-number-preserved : goal.loop-number-preserved
loop-number-preserved g c =
    first_runs_more (g.D.PageSource.image c.args.disk.now) c.args.places.now c.loop-number.number c.loop-number.runs.items c.add_run.new.runs.items (0, 0)
    c.in-Some.run'
    (omega (arith, one_place_each (g.D.PageSource.image c.args.disk.now).geometry c.args.args.now c.args.places.now c.requires, c.loop-number-test.true))
    c.loop-number.invariant (rw c.in-Some.is at c.in_ok-run.ensures.found) (rw c.in-Some.is at c.in_ok-run.ensures.in_range) c.in_ok-add_run.ensures

pub returns-clause-runs : goal.returns-clause-runs
returns-clause-runs g c =
    all_runs (g.D.PageSource.image c.args.disk.now) c.args.args.now c.args.places.now c.loop-number.number c.loop-number.runs.items c.requires
    (omega (arith, c.loop-number-test.false)) c.loop-number.invariant
