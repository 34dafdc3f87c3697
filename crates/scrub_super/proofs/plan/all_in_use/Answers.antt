-- One extent more, in use or not.
use Rattle.std.proofs.Common.{◌≡◌, ◌∙◌, ◌-◌, arith, refl, sym}
use Rattle.scrub_super.proofs.Extents.{one_retired, one_in_use}
use Rattle.scrub_super.proofs.plan.all_in_use.Goals as goal
use Rattle.scrub_super.proofs.plan.all_in_use.Goals.{then-not-has_extent+in_ok-push, else-not-has_extent}

pub loop-extent-preserved : goal.loop-extent-preserved
loop-extent-preserved c = record {
  low = omega arith;
  so_far = elim c.if-not-has_extent.branch [
    | then-not-has_extent+in_ok-push w ↦
        rw (w.in_use-is, w.in_ok-push.ensures.items, c.loop-extent.invariant.so_far)
        (sym (one_in_use c.args.retired.now c.loop-extent.extent _ refl c.loop-extent.invariant.low
        (sym c.has_extent.ensures ∙ w.if-not-has_extent.true)))
    | else-not-has_extent w ↦
        rw (w.in_use-is, c.loop-extent.invariant.so_far)
        (sym (one_retired c.args.retired.now c.loop-extent.extent _ refl c.loop-extent.invariant.low
        (sym c.has_extent.ensures ∙ w.if-not-has_extent.false)))
  ];
}

pub returns : goal.returns
returns c =
    let all : c.loop-extent.extent - 1 ≡ c.args.extents - 1 = omega arith in
    rw all at c.loop-extent.invariant.so_far
