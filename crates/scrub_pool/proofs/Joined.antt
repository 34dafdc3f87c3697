-- Members that have ended, joined one by one.
use Rattle.std.proofs.Common.{◌≡◌, Some, ◌+◌, ◌-◌, ◌++◌, ◌∷◌, ◌∙◌, ℕ, List, [], All, map, length, subst, arith, sym, ap, append_assoc, append-nil, length-append, Vec, Global}
use Rattle.std.specs.List.Sorted.{IsPermutation, IsStrictlyIncreasing}
use Rattle.std.proofs.lemmas.List.{map-append}
use Rattle.std.proofs.lemmas.List.Concat.{flat_map-append}
use Rattle.std.proofs.lemmas.List.Elements.{All-append, All-push, All-same}
use Rattle.std.proofs.lemmas.List.Sorted.{IsPermutation-trans, IsPermutation-append_comm}
use Rattle.scrub_disk.specs.Image.{Image}
use Rattle.scrub_super.specs.Plan.{PlanValue, pointer_of}
use Rattle.scrub_scan.specs.declared.extent_result.ExtentResult.{ExtentResult}
use Rattle.scrub_scan.specs.Scanned.{result_image}
use Rattle.scrub_book.specs.Extents.{extents_in}
use Rattle.scrub_pool.specs.Passes.{PassValue, one_list, taken_in, HasTakenAll}
use Rattle.scrub_pool.specs.Takings.{IsPartition}
use Rattle.scrub_pool.specs.steps.Working.{AreResults}

-- one more list
pub one_list_push : (lists : List (List ℕ)) (xs : List ℕ) → one_list (lists ++ xs ∷ []) ≡ one_list lists ++ xs
one_list_push lists xs =
    flat_map-append (λ (l : List ℕ). l) lists (xs ∷ []) ∙ ap (λ l. one_list lists ++ l) (append-nil xs)

-- the items of one more list
pub items_push : (lists more : List (Vec ℕ Global)) (v : Vec ℕ Global) (own : List ℕ) → more ≡ lists ++ v ∷ [] →
    v.items ≡ own → map (λ l. l.items) more ≡ map (λ l. l.items) lists ++ own ∷ []
items_push lists more v own is has =
    ap (λ (ls : List (Vec ℕ Global)). map (λ l. l.items) ls) is ∙ map-append (λ l. l.items) lists (v ∷ [])
    ∙ ap (λ l. map (λ x. x.items) lists ++ l ∷ []) has

-- a pass with n others joined into it, and one more
pub one_more_joined : (was f g : PassValue) (ls ms : List (List ℕ)) (n m : ℕ) (own : List ℕ) →
    f ≡ record was { joined = was.joined ++ ls; out = was.out - n } →
    g ≡ record f { joined = f.joined ++ own ∷ []; out = f.out - 1 } → ms ≡ ls ++ own ∷ [] → m ≡ n + 1 →
    g ≡ record was { joined = was.joined ++ ms; out = was.out - m }
one_more_joined was f g ls ms n m own before after lists count =
    let joined : (was.joined ++ ls) ++ own ∷ [] ≡ was.joined ++ ms =
    append_assoc was.joined ls (own ∷ []) ∙ ap (λ l. was.joined ++ l) (sym lists) in
    let out : was.out - n - 1 ≡ was.out - m = omega (arith, count) in
    after ∙ ap (λ (p : PassValue). record p { joined = p.joined ++ own ∷ []; out = p.out - 1 }) before
    ∙ ap (λ (p : List (List ℕ) × ℕ). record was { joined = p.0; out = p.1 }) (λ i. (joined i, out i))

module _ {D : Type 0} {s : _} where
  -- the extents of more results
  pub extents_append : (all found more : List (ExtentResult D s)) (xs ys : List ℕ) → all ≡ found ++ more →
      extents_in found ≡ xs → extents_in more ≡ ys → extents_in all ≡ xs ++ ys
  extents_append all found more xs ys is first then =
      ap (λ (rs : List (ExtentResult D s)). extents_in rs) is ∙ map-append _ found more ∙ (λ i. first i ++ then i)

  -- the results of the passes joined into the first, and its own, are of all planned extents
  pub all_scanned : (pass : PassValue) (all theirs mine : List (ExtentResult D s)) (planned : List ℕ) →
      all ≡ theirs ++ mine → extents_in theirs ≡ one_list pass.joined → extents_in mine ≡ pass.own →
      pass.planned ≡ planned → HasTakenAll pass → IsPermutation (extents_in all) planned
  all_scanned pass all theirs mine planned is joined own same whole =
      rw (extents_append all theirs mine (one_list pass.joined) pass.own is joined own)
      (IsPermutation-trans (one_list pass.joined ++ pass.own) (taken_in pass) planned (IsPermutation-append_comm (one_list pass.joined) pass.own) (rw same at whole))

  -- If `all` is `found ++ more`, it has as many results as both together.
  pub long_append : (all found more : List (ExtentResult D s)) → all ≡ found ++ more →
      length all ≡ length found + length more
  long_append all found more is = ap (λ (rs : List (ExtentResult D s)). length rs) is ∙ length-append found more

  -- The empty list of results meets `AreResults` for any image and plan.
  pub no_results : (image : Image) (plan : PlanValue) (rs : List (ExtentResult D s)) → rs ≡ [] →
      AreResults image plan rs
  no_results image plan rs none =
      let long : length rs ≡ 0 = ap (λ (l : List (ExtentResult D s)). length l) none in
      ((λ k d below. absurd (omega (arith, below, long))), λ k d below. absurd (omega (arith, below, long)))

  -- results of an image, appended to each other, are results of it
  pub results_append : (image : Image) (plan : PlanValue) (all found more : List (ExtentResult D s)) →
      all ≡ found ++ more → AreResults image plan found → AreResults image plan more → AreResults image plan all
  results_append image plan all found more is first then = (
    All-same (λ r. result_image r ≡ image) all (found ++ more) is
        (All-append (λ r. result_image r ≡ image) found more first.0 then.0),
    All-same (λ r. pointer_of plan r.extent ≡ Some r.pointer) all (found ++ more) is
        (All-append (λ r. pointer_of plan r.extent ≡ Some r.pointer) found more first.1 then.1),
  )

-- the lists of all, the caller's last, are a partition if all was taken
pub partition_of : (planned own : List ℕ) (joined lists : List (List ℕ)) → lists ≡ joined ++ own ∷ [] →
    IsStrictlyIncreasing own → All IsStrictlyIncreasing joined → IsPermutation (own ++ one_list joined) planned →
    IsPartition planned lists
partition_of planned own joined lists is own_rises joined_rise whole = record {
  rising =
      All-same IsStrictlyIncreasing lists (joined ++ own ∷ []) is
      (All-push IsStrictlyIncreasing joined own joined_rise own_rises);
  whole =
      subst (λ (all : List ℕ). IsPermutation all planned) (sym (ap one_list is ∙ one_list_push joined own))
      (IsPermutation-trans (one_list joined ++ own) (own ++ one_list joined) planned (IsPermutation-append_comm (one_list joined) own) whole);
}
