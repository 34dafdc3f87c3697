use Rattle.std.proofs.Common.{◌∙◌}
use Rattle.std.proofs.lemmas.List.{take_all}
use Rattle.list_facts.proofs.Zips.{AllZip-take_more}
use Rattle.scrub_check.specs.steps.RunWithStatus.{IsRunWithStatus}
use Rattle.scrub_check.specs.Runs.{AreReadRuns}
use Rattle.scrub_check.proofs.Listed.{are_read, counted}
use Rattle.scrub_check.proofs.runs.read_runs.Given.{Over}
use Rattle.scrub_check.proofs.runs.read_runs.Goals as goal

pub loop-locator-init : goal.loop-locator-init
loop-locator-init g c = rw c.in_ok-judged.ensures.items tt

pub loop-locator-preserved : goal.loop-locator-preserved
loop-locator-preserved g c =
    AllZip-take_more (IsRunWithStatus (g.D.PageSource.image c.args.disk.now) c.args.plan.now) c.runs-locators.result.now
    c.loop-locator.judged.items c.push.new.self.items c.loop-locator.locator-index _ c.in_ok-one.one c.loop-locator-test.true
    c.loop-locator.invariant
    (rw c.locator-item.is at c.in_ok-one.ensures) c.in_ok-push.ensures.items

all_read : (g : Over) (c : goal.After-drop-branch g) → AreReadRuns (g.D.PageSource.image c.args.disk.now) c.args.plan.now
    (record { runs = c.in_ok-runs.runs.items; states = c.in_ok-runs.states.items })
all_read g c =
    are_read (g.D.PageSource.image c.args.disk.now) c.args.plan.now c.loop-locator.judged.items c.in_ok-runs.runs.items
    c.in_ok-runs.states.items c.in_ok-runs.ensures.runs c.in_ok-runs.ensures.states
    (rw (take_all c.loop-locator.locator-index c.runs-locators.result.now c.loop-locator-test.false ∙ c.runs-locators.ensures.runs) at c.loop-locator.invariant)

pub invariant_of-result : goal.invariant_of-result
invariant_of-result g c =
    counted (g.D.PageSource.image c.args.disk.now) c.args.plan.now _ c.runs-locators.ensures.located.count (all_read g c)

pub returns : goal.returns
returns g c = all_read g c
