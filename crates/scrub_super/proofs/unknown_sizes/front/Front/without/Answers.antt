-- One more block is lost, or isn't; and what all marks make of the front.
use Rattle.std.proofs.Common.{rules, arith, ◌≡◌, ◌≤◌, get_or, length, true, false}
use Rattle.scrub_super.proofs.BlocksFront.{front_without, marks_fit, marks_too_more, marks_too_none, marks_too_same, marks_without}
use Rattle.scrub_super.proofs.unknown_sizes.front.Front.without.Goals as goal
use Rattle.scrub_super.proofs.unknown_sizes.front.Front.without.Goals.{then-is_lost, else-is_lost}

pub loop-number-init : goal.loop-number-init
loop-number-init c = marks_too_none _ _

pub index_mut-requires : goal.index_mut-requires
index_mut-requires c =
    let fit = marks_fit c.args.lost.now c.args.self.bytes.items c.args.self.lost.items c.requires c.args.self.marks in
    let same = c.loop-number.invariant.one_each in
    omega (arith, fit, same)

pub loop-number-preserved : goal.loop-number-preserved
loop-number-preserved c =
    elim c.if-is_lost.branch [
      | then-is_lost w ↦
          let fit = marks_fit c.args.lost.now c.args.self.bytes.items c.args.self.lost.items c.requires c.args.self.marks in
          let same = c.loop-number.invariant.one_each in
          let gone : get_or c.args.lost.now c.loop-number.number false ≡ true = search rules in
          rw w.marks-is
          (marks_too_more c.args.lost.now c.loop-number.number _ c.loop-number.marks.items gone (omega (arith, fit, same)) c.loop-number.invariant)
      | else-is_lost w ↦
          let kept : get_or c.args.lost.now c.loop-number.number false ≡ false = search rules in
          rw w.marks-is (marks_too_same c.args.lost.now c.loop-number.number _ _ kept c.loop-number.invariant)
    ]

pub invariant_of-result : goal.invariant_of-result
invariant_of-result c = record {
  marks =
      marks_without c.args.lost.now c.loop-number.number c.args.self.bytes.items c.args.self.lost.items c.loop-number.marks.items
      c.requires c.loop-number.invariant c.args.self.marks;
}

pub returns : goal.returns
returns c = λ raw fails failures front lacking lacks.
    let all : length c.args.lost.now ≤ c.loop-number.number = omega (arith, c.loop-number-test.false) in
    front_without front c.args.self.marks c.loop-number.invariant all c.requires lacks
