-- Binary search among ascending identifiers finds one exactly if it is there.
use Rattle.std.proofs.Common.{◌≡◌, ◌+◌, ℕ, List, Bool, length, get_or, AllPairs, Contains, IsTrue, ◌↔◌, Result, Ok, Err, is_ok, arith, sym, ◌∙◌, ap, inl, inr}
use Rattle.std.specs.List.Sorted.{IsBinarySearchResult, IsSearchInRange, IsNonDecreasingBy, IsPartitionPoint, IsSortedBy}
use Rattle.std.specs.Ordering.{is_eq, is_lt, ordering_index, ordering_reverse}
use Rattle.std.specs.declared.cmp.Ordering.{Ordering}
use Rattle.std.specs.declared.cmp.Ordering.TheVariants.{Less, Greater}
use Rattle.std.proofs.lemmas.Bool.{cases_lt, false≢true}
use Rattle.std.proofs.lemmas.List.Sorted.{searchable_from_sorted}
use Rattle.scrub_run.specs.declared.shard_id.ShardId.{ShardId}
use Rattle.scrub_run.specs.Entry.{IsBelow}
use Rattle.scrub_merge.specs.steps.Cursors.{id_cmp}
use Rattle.scrub_merge.proofs.Identifiers.{id_cmp_total, id_cmp_exact, itself}

-- a search that ends between the lesser and the greater identifiers finds none
absent : (ids : List ShardId) (id : ShardId) (i : ℕ) → AllPairs IsBelow ids →
    (IsNonDecreasingBy (λ y. ordering_index (id_cmp y id)) ids → IsPartitionPoint (λ y. id_cmp y id ≡ Less) (λ y. id_cmp y id ≡ Greater) ids i) →
    Contains ids id → ⊥
absent ids id i rising search_ends c = elim (cases_lt c.0 i) [
  | inl before ↦ false≢true (ap is_eq (sym (at Less (ends.0 c.0 id (omega arith) before))) ∙ itself id)
  | inr after ↦ false≢true (ap is_eq (sym (at Greater (ends.1 c.0 id after c.1))) ∙ itself id)
]
  where
    sorted : IsSortedBy (λ x y. is_lt (id_cmp x y)) ids
    sorted k d low high =
        ap is_lt
        (id_cmp_total.antisymm (get_or ids (k + 1) d) (get_or ids k d) ∙ ap ordering_reverse (rising k (k + 1) d (omega arith) high))

    ends : IsPartitionPoint (λ y. id_cmp y id ≡ Less) (λ y. id_cmp y id ≡ Greater) ids i
    ends = search_ends (searchable_from_sorted id_cmp_total (λ (y : ShardId). y) ids id sorted)

    at : (o : Ordering) → id_cmp (get_or ids c.0 id) id ≡ o → id_cmp id id ≡ o
    at o h = ap (λ q. id_cmp q id) (sym c.2) ∙ h

-- a search among ascending identifiers finds one that is there
pub found_among : (ids : List ShardId) (id : ShardId) (r : Result ℕ ℕ) (b : Bool) → AllPairs IsBelow ids →
    IsSearchInRange r (length ids) →
    IsBinarySearchResult (λ y. id_cmp y id) ids r → b ≡ is_ok r → IsTrue b ↔ Contains ids id
found_among ids id (Ok i) b rising within result e =
    (λ t. (i, within, id_cmp_exact (get_or ids i id) id (result id)), λ h. e)
found_among ids id (Err i) b rising within result e = (λ t. absurd (cc), λ h. absurd (absent ids id i rising result h))
