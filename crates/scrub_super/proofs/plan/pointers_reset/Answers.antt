-- One more extent, and at the end all.
use Rattle.std.proofs.Common.{◌∙◌, ap, arith, map}
use Rattle.std.specs.List.{enumerate_from}
use Rattle.std.proofs.lemmas.List.{take_all}
use Rattle.std.proofs.lemmas.List.FromFn.{length-enumerate_from}
use Rattle.scrub_super.specs.Reset.{pointer_reset}
use Rattle.scrub_super.proofs.Resets.{reset_more}
use Rattle.scrub_super.proofs.plan.pointers_reset.Goals as goal

pub loop-i-preserved : goal.loop-i-preserved
loop-i-preserved c =
    reset_more c.args.extents.now c.args.pointers.now c.loop-i.i _ c.pointer_reset.result c.loop-i.reset.items c.push.new.self.items
    c.loop-i-test.true c.loop-i.invariant c.pointer_reset.ensures c.in_ok-push.ensures.items

pub returns : goal.returns
returns c =
    c.loop-i.invariant
    ∙ ap (map (pointer_reset c.args.extents.now))
    (take_all c.loop-i.i (enumerate_from 0 c.args.pointers.now) (omega (arith, c.loop-i-test.false, length-enumerate_from 0 c.args.pointers.now)))
