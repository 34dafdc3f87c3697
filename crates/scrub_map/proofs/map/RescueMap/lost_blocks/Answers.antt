use Rattle.std.proofs.Common.{arith, refl, ◌∙◌, ap}
use Rattle.std.specs.Int.{div_ceil}
use Rattle.scrub_map.proofs.Lost.{gaps_more_in, gaps_none, length_marked, lost_marked_in}
use Rattle.scrub_map.proofs.map.RescueMap.lost_blocks.Goals as goal

pub loop-gap-init : goal.loop-gap-init
loop-gap-init c = gaps_none c.deref-gap-items.result.now _ _ _ _ (c.in_ok-marks.ensures.items_if_clones_equal (λ _ e. e))

pub loop-gap-preserved : goal.loop-gap-preserved
loop-gap-preserved c =
    gaps_more_in c.loop-gap.marks _ _ _ _ _ _ _ _ c.loop-gap-test.true c.gap-item.is
    c.deref_mut.ensures.value c.mark.auto.marks c.loop-gap.invariant c.mark.ensures

pub returns-clause-one_each : goal.returns-clause-one_each
returns-clause-one_each c =
    length_marked c.loop-gap.marks _ _ _ c.deref_mut-2.ensures.value c.mark-2.auto.marks c.loop-gap.invariant.one_each
    ∙ c.div_ceil-count.ensures ∙ ap (λ n. div_ceil c.args.bytes n) c.from.ensures

pub returns-clause-lost : goal.returns-clause-lost
returns-clause-lost c =
    lost_marked_in c.loop-gap.marks c.args.self.now _ _ _ _ _ _ _ _ c.deref-gap-items.ensures.value
    c.loop-gap-test.false refl (omega arith)
    (c.div_ceil-count.ensures ∙ ap (λ n. div_ceil c.args.bytes n) c.from.ensures)
    c.deref_mut-2.ensures.value c.mark-2.auto.marks c.loop-gap.invariant c.mark-2.ensures
