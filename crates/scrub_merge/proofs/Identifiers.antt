-- Identifiers as keys, and ascending entries of them.
use Rattle.std.proofs.Common.{◌≡◌, ◌<◌, ℕ, true, false, List, length, get_or, Contains, refl, sym, ◌∙◌, ap, arith, inl, inr}
use Rattle.std.specs.Cmp.{IsTotalOrder}
use Rattle.std.specs.Cmp.Lexicographic.{on_texts}
use Rattle.std.specs.Ordering.{is_eq, ordering_reverse}
use Rattle.std.specs.declared.cmp.Ordering.{Ordering}
use Rattle.std.specs.declared.cmp.Ordering.TheVariants.{Less, Equal, Greater}
use Rattle.std.proofs.lemmas.Bool.{cases_lt, false≢true}
use Rattle.std.proofs.lemmas.List.{get_or_default}
use Rattle.std.proofs.lemmas.Cmp.{tied_itself}
use Rattle.std.proofs.lemmas.Map.Lookups.{CmpEqualImpliesEq, exact_bytes}
use Rattle.std.proofs.lemmas.Map.Views.{tells_apart}
use Rattle.scrub_run.specs.declared.shard_id.ShardId.{ShardId}
use Rattle.scrub_run.specs.Entry.{EntryValue, IsBelow}
use Rattle.scrub_run.specs.Run.{RisesById}
use Rattle.scrub_merge.specs.steps.Cursors.{id_cmp}

-- identifiers are in a total order
pub id_cmp_total : IsTotalOrder id_cmp
id_cmp_total = on_texts (λ s. s.0)

-- two that compare as equal are equal
pub id_cmp_exact : CmpEqualImpliesEq id_cmp
id_cmp_exact a b h = λ i. record { 0 = exact_bytes a.0 b.0 h i }

-- two identifiers that compare as equal are equal
pub same_id : (a b : ShardId) → is_eq (id_cmp a b) ≡ true → a ≡ b
same_id a b h = tells_apart id_cmp_exact a b h

-- each compares as equal to itself
pub itself : (a : ShardId) → is_eq (id_cmp a a) ≡ true
itself a = ap is_eq (tied_itself id_cmp_total a)

-- no identifier is below itself
pub not_below_itself : (a : ShardId) → IsBelow a a → ⊥
not_below_itself a h = false≢true (ap is_eq (sym h) ∙ itself a)

-- of two different identifiers one is below the other
pub not_less : (a b : ShardId) → is_eq (id_cmp a b) ≡ false → (IsBelow a b → ⊥) → IsBelow b a
not_less a b differ not_below = id_cmp_total.antisymm b a ∙ ap ordering_reverse (greater (id_cmp a b) refl)
  where
    greater : (o : Ordering) → id_cmp a b ≡ o → o ≡ Greater
    greater Less h = absurd (not_below h)
    greater Equal h = absurd (false≢true (sym differ ∙ ap is_eq h))
    greater Greater h = refl

-- in ascending entries, two with the same identifier are the same
pub same_entry : (entries : List EntryValue) {e f : EntryValue} → RisesById entries → Contains entries e →
    Contains entries f → e.id ≡ f.id → e ≡ f
same_entry entries {e} {f} rising (i, hi, is) (j, hj, js) same = elim (cases_lt i j) [
  | inl before ↦ absurd (not_below_itself f.id (rw same at (below i j before hj is js)))
  | inr not_before ↦ elim (cases_lt j i) [
    | inl after ↦ absurd (not_below_itself f.id (rw same at (below j i after hi js is)))
    | inr not_after ↦
        let at : i ≡ j = omega (arith, not_before, not_after) in
        sym is ∙ rw (at, get_or_default entries j e f hj) js
  ]
]
  where
    below : (k l : ℕ) {v w : EntryValue} → k < l → l < length entries → get_or entries k v ≡ v →
        get_or entries l w ≡ w → IsBelow v.id w.id
    below k l {v} {w} order here hv hw = rw (hv, get_or_default entries l v w here, hw) at (rising k l v order here)
