use Rattle.std.proofs.Common.{◌≡◌, ◌<◌, ◌++◌, ◌∙◌, arith, inl, inr, sym, ap, drop, take, length, slice_index, slice_index_or, map, [], List, ℕ, ◌+◌}
use Rattle.std.proofs.lemmas.Bool.{cases_lt}
use Rattle.std.proofs.lemmas.List.{get_or-map, get_or_default, length-map, same_lists, take_at}
use Rattle.std.proofs.lemmas.List.Elements.{All-get_or}
use Rattle.sha_lanes.specs.Lanes.{digest_of}
use Rattle.sha_lanes.specs.declared.lanes.Span.{Span}
use Rattle.sha_lanes.proofs.Placing.{placed_on}
use Rattle.sha_lanes.proofs.lanes.digests.Goals as goal

pub spans-preserved : goal.spans-preserved
spans-preserved c =
    let bytes = c.args.bytes.now in
    let spans = c.args.spans.now in
    let inv = c.spans.invariant in
    let order = c.in_ok-order.order.items in
    let m = c.index-i.result.now in
    let low : c.spans.k < length order = omega arith in
    let at : m ≡ slice_index order c.spans.k = c.index-i.ensures ∙ get_or_default order c.spans.k m 0 low in
    let number : (j : ℕ) → j < length order → slice_index order j < length spans =
    λ j lt. All-get_or (λ i. i < length spans) order j 0 lt c.in_ok-order.ensures.below in
    let below : m < length spans = omega (arith, at, number c.spans.k low) in
    let l = c.shortest-l.result in
    let was = c.spans.lanes.index in
    let long : length c.end.new.digests ≡ c.spans.digests.len = omega arith in
    let whole : take c.spans.digests.len (c.end.new.digests ++ drop (length c.end.new.digests) c.spans.digests.items) ≡ c.end.new.digests =
    take_at c.end.new.digests _ c.spans.digests.len long in
    rw whole
    (record {
      size = omega arith;
      lanes = c.begin.ensures.lanes bytes spans (get_or_default spans m _ (record { start = 0; blocks = 0; length = 0 }) below) below c.end.ensures.lanes;
      placed = λ i lt. elim (cases_lt i c.spans.k) [
        | inl less ↦
            placed_on bytes spans was c.begin.new.self.index c.spans.digests.items c.end.new.digests l 0 0 (slice_index order i) (number i (omega arith))
            c.end.ensures.written
            (λ k ne. c.end.ensures.others k ne ∙ ap (λ (d : List (List ℕ)). slice_index_or d k []) c.as_mut_slice.ensures.value)
            (λ j _ _ ne. (omega arith, c.begin.ensures.others j ne ∙ ap (λ (xs : List ℕ). slice_index xs j) c.end.ensures.index))
            (inv.placed i less)
        | inr ge ↦ λ span is.
            let e : c.spans.k ≡ i = omega arith in
            inl (l, omega arith, c.shortest-l.ensures, c.begin.ensures.index ∙ at ∙ ap (λ j. slice_index order j) e)
      ];
    })

pub rest-init : goal.rest-init
rest-init c =
    let order = c.in_ok-order.order.items in
    let inv = c.spans.invariant in
    record {
      size = inv.size;
      lanes = inv.lanes;
      placed = λ i lt.
          let found = c.in_ok-order.ensures.each i lt in
          let is : slice_index order found.0 ≡ i = get_or_default order found.0 0 i found.1 ∙ found.2 in
          rw is at (inv.placed found.0 (omega (arith, found.1)));
    }

pub rest-preserved : goal.rest-preserved
rest-preserved c =
    let bytes = c.args.bytes.now in
    let spans = c.args.spans.now in
    let inv = c.rest.invariant in
    let l = c.rest.l in
    let was = c.rest.lanes.index in
    let more = c.end-in-rest.new.digests in
    let long : length more ≡ c.rest.digests.len = omega arith in
    let whole : take c.rest.digests.len (more ++ drop (length more) c.rest.digests.items) ≡ more =
    take_at more _ c.rest.digests.len long in
    rw whole
    (record {
      size = omega arith;
      lanes = c.end-in-rest.ensures.lanes;
      placed = λ i lt.
          placed_on bytes spans was c.end-in-rest.new.self.index c.rest.digests.items more l l (l + 1) i lt
          c.end-in-rest.ensures.written
          (λ k ne. c.end-in-rest.ensures.others k ne ∙ ap (λ (d : List (List ℕ)). slice_index_or d k []) c.as_mut_slice-in-rest.ensures.value)
          (λ j le _ ne. (omega arith, ap (λ (xs : List ℕ). slice_index xs j) c.end-in-rest.ensures.index))
          (inv.placed i lt);
    })

pub returns : goal.returns
returns c =
    same_lists c.rest.digests.items (map (digest_of c.args.bytes.now) c.args.spans.now)
    (c.rest.invariant.size ∙ sym (length-map c.args.spans.now (digest_of c.args.bytes.now)))
    (λ k d lt.
    let below : k < length c.args.spans.now = omega (arith, c.rest.invariant.size) in
    let span : Span = slice_index_or c.args.spans.now k (record { start = 0; blocks = 0; length = 0 }) in
    elim (c.rest.invariant.placed k below span (get_or_default c.args.spans.now k span _ below)) [
      | inl at ↦ absurd (omega (arith, at.1, at.2))
      | inr done ↦
          get_or_default c.rest.digests.items k d [] lt ∙ done
          ∙ sym (get_or-map (digest_of c.args.bytes.now) c.args.spans.now k (record { start = 0; blocks = 0; length = 0 }) d below)
    ])
