use Rattle.std.proofs.Common.{◌≡◌, ◌+◌, ◌-◌, ◌∙◌, ap, arith, inl, inr, drop, take, slice_index}
use Rattle.std.proofs.lemmas.List.{get_or-set_same, get_or-set_other, length-set}
use Rattle.std.proofs.lemmas.Bool.{cases_lt}
use Rattle.sha2.specs.Sha256.{word_at}
use Rattle.sha_lanes.proofs.block.words_at.Goals as goal

pub lanes-preserved : goal.lanes-preserved
lanes-preserved c = (
  length-set c.lanes.words c.lanes.l c.word_at.result ∙ c.lanes.invariant.0,
  λ j lt. elim (cases_lt j c.lanes.l) [
    | inl a ↦ get_or-set_other c.lanes.words c.lanes.l j c.word_at.result 0 (omega arith) ∙ c.lanes.invariant.1 j a
    | inr b ↦
        let e : c.lanes.l ≡ j = omega arith in
        let p = slice_index c.args.places.now c.lanes.l in
        let size : p + 64 - p ≡ 64 = omega arith in
        rw (← e) (get_or-set_same c.lanes.words c.lanes.l c.word_at.result 0 (omega arith) ∙ c.word_at.ensures
        ∙ ap (λ n. word_at (take n (drop p c.args.bytes.now)) c.args.at) size)
  ],
)
