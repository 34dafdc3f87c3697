-- The next number is above the last and below E, or the numbers aren't such extents.
use Rattle.std.proofs.Common.{arith}
use Rattle.std.proofs.lemmas.Bool.{false≢true}
use Rattle.scrub_super.proofs.Extents.{read_number, not_above, not_below, rise_more}
use Rattle.scrub_super.proofs.record.are_extents.Goals as goal
use Rattle.scrub_super.proofs.record.are_extents.Goals.{then-extent-last-via-then-extent-last, then-extent-last-via-else-extent-last+then-extent-extents}

pub returns-then-extent-last : goal.returns-then-extent-last
returns-then-extent-last c =
    let next = read_number c.args.bytes.now c.loop-i.i c.read_u32-extent.ensures in (
      (λ no. absurd (false≢true no)),
      λ s. absurd (elim c.then-extent-last.branch [
        | then-extent-last-via-then-extent-last w ↦
            not_above c.loop-i.i c.loop-i.invariant next (omega (arith, c.loop-i-test.true))
            (omega (arith, w.if-extent-last.true)) s
        | then-extent-last-via-else-extent-last+then-extent-extents w ↦
            not_below c.loop-i.i next (omega (arith, c.loop-i-test.true)) (omega (arith, w.if-extent-extents.true)) s
      ]),
    )

pub loop-i-preserved : goal.loop-i-preserved
loop-i-preserved c =
    rise_more c.loop-i.invariant (read_number c.args.bytes.now c.loop-i.i c.read_u32-extent.ensures)
    (omega (arith, c.if-extent-last.false)) (omega (arith, c.if-extent-extents.false))
