use Rattle.std.proofs.Common.{◌≡◌, ◌∙◌, arith, inl, inr, sym, slice_index, slice_set}
use Rattle.std.proofs.lemmas.Bool.{cases_eq}
use Rattle.std.proofs.lemmas.List.{get_or-set_same, get_or-set_other, get_or_default}
use Rattle.sha_lanes.proofs.Carrying.{Carries_begun, Carries_same}
use Rattle.sha_lanes.proofs.lanes.Lanes.begin.Goals as goal

pub returns-clause-lanes : goal.returns-clause-lanes
returns-clause-lanes c = λ bytes spans is below old.
    let self = c.args.self.now in
    let l = c.args.l in
    let index = c.args.index in
    record {
      carried = λ j span lt in_spans is_span. elim (cases_eq j l) [
        | inl e ↦
            let at : slice_index (slice_set self.index l index) j ≡ index = rw e (get_or-set_same self.index l index 0 (omega arith)) in
            let same : span ≡ c.args.span = sym (rw at at is_span) ∙ get_or_default spans index span c.args.span below ∙ is in
            rw (e, same) (Carries_begun (get_or-set_same self.place l c.args.span.start 0 (omega arith))
            (get_or-set_same self.left l c.args.span.blocks 0 (omega arith)) c.put_lane.ensures.put)
        | inr ne ↦
            let same = get_or-set_other self.index l j index 0 ne in
            Carries_same (get_or-set_other self.place l j c.args.span.start 0 ne)
            (get_or-set_other self.left l j c.args.span.blocks 0 ne) (c.put_lane.ensures.others j ne)
            (old.carried j span lt (rw same at in_spans) (rw same at is_span))
      ];
      idle = λ j lt out. elim (cases_eq j l) [
        | inl e ↦
            let at : slice_index (slice_set self.index l index) j ≡ index = rw e (get_or-set_same self.index l index 0 (omega arith)) in
            absurd (omega arith)
        | inr ne ↦
            let same = get_or-set_other self.index l j index 0 ne in
            get_or-set_other self.left l j c.args.span.blocks 0 ne ∙ old.idle j lt (rw same at out)
      ];
    }
