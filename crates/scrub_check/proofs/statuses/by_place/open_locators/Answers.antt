use Rattle.std.proofs.Common.{◌≡◌, ◌∙◌, ◌++◌, ◌∷◌, [], ℕ, None, not, map, get_or, arith, ap, All}
use Rattle.std.specs.List.Sorted.{IsPermutation}
use Rattle.std.proofs.lemmas.List.{get_or_default}
use Rattle.std.proofs.lemmas.List.Sorted.{All-permutation, Contains-permutation, IsPermutation-map}
use Rattle.std.proofs.lemmas.Result.{IfOk-weaker}
use Rattle.scrub_check.specs.declared.statuses.by_place.OpenLocator.{OpenLocator}
use Rattle.scrub_check.specs.steps.Open.{IsOpenAt, HasEachUnknown}
use Rattle.scrub_check.proofs.JudgedPlaces.{unknown_more, unknown_same}
use Rattle.scrub_check.proofs.OpenPlaces.{open_more}
use Rattle.scrub_check.proofs.statuses.by_place.open_locators.Goals as goal
use Rattle.scrub_check.proofs.statuses.by_place.open_locators.Goals.{then-is_none+in_ok-push, else-is_none}

-- one more of which nothing is known, or one whose status is known
pub loop-index-preserved : goal.loop-index-preserved
loop-index-preserved c =
    let i = c.loop-index.index in
    let left = c.loop-index.left.items in
    let known = get_or c.args.known.now i None in
    elim c.if-is_none.branch [
      | then-is_none+in_ok-push w ↦
          let name = get_or c.args.named.now i w.index-named-index.result in
          let one : OpenLocator = record { place = w.named_by-place.result; index = i } in
          let grown : c.if-is_none.left.items ≡ left ++ one ∷ [] = ap (λ v. v.items) w.left-is ∙ w.in_ok-push.ensures.items in
          record {
            left =
                open_more c.args.named.now c.args.known.now i name known w.named_by-place.result left c.if-is_none.left.items
                c.loop-index-test.true
                (get_or_default c.args.named.now i w.index-named-index.result name c.loop-index-test.true)
                (get_or_default c.args.known.now i None known (omega (arith, c.requires, c.loop-index-test.true)))
                (c.is_none.ensures ∙ ap not w.if-is_none.true)
                w.named_by-place.ensures grown c.loop-index.invariant.left;
            all = unknown_more c.args.known.now one left c.if-is_none.left.items grown c.loop-index.invariant.all;
          }
      | else-is_none w ↦
          record {
            left = λ image plan h. rw (ap (λ v. v.items) w.left-is) (c.loop-index.invariant.left image plan h);
            all =
                unknown_same c.args.known.now i left c.if-is_none.left.items (c.is_none.ensures ∙ ap not w.if-is_none.false)
                (ap (λ v. v.items) w.left-is) c.loop-index.invariant.all;
          }
    ]

pub returns-clause-open : goal.returns-clause-open
returns-clause-open c = λ image plan known.
    let IsLeft : OpenLocator → Type 0 = IsOpenAt image plan c.args.named.now in
    IfOk-weaker c.into_sorted.result (λ v. IsPermutation c.loop-index.left.items v.items) (λ v. All IsLeft v.items)
    (λ v same. All-permutation IsLeft c.loop-index.left.items v.items same (c.loop-index.invariant.left image plan known)) c.into_sorted.ensures.same

pub returns-clause-all : goal.returns-clause-all
returns-clause-all c =
    let left = c.loop-index.left.items in
    let index : OpenLocator → ℕ = λ one. one.index in
    IfOk-weaker c.into_sorted.result (λ v. IsPermutation left v.items) (λ v. HasEachUnknown c.args.known.now v.items)
    (λ v same i below none.
    Contains-permutation (map index left) (map index v.items) i (IsPermutation-map index left v.items same)
    (c.loop-index.invariant.all i (omega (arith, below, c.requires, c.loop-index-test.false)) none)) c.into_sorted.ensures.same
