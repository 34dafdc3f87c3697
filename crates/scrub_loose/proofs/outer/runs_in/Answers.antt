-- At first there is no run.
use Rattle.std.proofs.Common.{List, arith, subst, sym}
use Rattle.scrub_loose.specs.declared.outer.FoundRun.{FoundRun}
use Rattle.scrub_loose.specs.steps.Held.{extent_held}
use Rattle.scrub_loose.specs.steps.Walk.{AreRunsBefore}
use Rattle.scrub_loose.proofs.RunsFound.{runs_none}
use Rattle.scrub_loose.proofs.outer.runs_in.Goals as goal

pub loop-place-init : goal.loop-place-init
loop-place-init c = record {
  within = omega arith;
  runs =
      subst (λ (rs : List FoundRun). AreRunsBefore (extent_held c.args.inside.now) c.args.extent 0 rs) (sym c.new-found.ensures.items)
      (runs_none (extent_held c.args.inside.now) c.args.extent);
}
