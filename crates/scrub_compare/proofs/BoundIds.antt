-- The identifiers bound on one of two disks: found among those of both, and one list at most.
use Rattle.std.proofs.Common.{◌≡◌, ◌⊎◌, ◌++◌, List, map, sym, ◌∙◌, ap, inl, inr}
use Rattle.std.specs.List.{AllPairs, Contains}
use Rattle.std.specs.Ordering.{ordering_reverse}
use Rattle.std.specs.declared.cmp.Ordering.{Ordering}
use Rattle.std.specs.declared.cmp.Ordering.TheVariants.{Less, Greater}
use Rattle.std.proofs.lemmas.List.Elements.{Contains-append_cases, Contains-append_left, Contains-append_right}
use Rattle.std.proofs.lemmas.Map.Keys.{Less-from_sorted}
use Rattle.list_facts.proofs.Sorted.{same_if_ordered}
use Rattle.scrub_run.specs.declared.shard_id.ShardId.{ShardId}
use Rattle.scrub_run.specs.Entry.{IsBelow}
use Rattle.scrub_merge.specs.Binding.{BindingValue}
use Rattle.scrub_merge.specs.steps.Cursors.{id_cmp}
use Rattle.scrub_merge.proofs.Identifiers.{id_cmp_total}
use Rattle.scrub_check.specs.steps.Distinct.{AreDistinct}
use Rattle.scrub_compare.specs.Compare.{AreBoundIds}

abbrev ids_of : List BindingValue → List ShardId
ids_of bindings = map (λ b. b.id) bindings

-- the identifiers of both, each once and ascending
pub bound_found : (old new : List BindingValue) (ids : List ShardId) → AreDistinct id_cmp (ids_of old ++ ids_of new) ids →
    AreBoundIds old new ids
bound_found old new ids distinct = record {
  rising = λ i j d lt within. Less-from_sorted id_cmp ids i j d distinct.rising lt within;
  exact = λ id. (
    (λ there. Contains-append_cases (ids_of old) (ids_of new) id ((distinct.same id).0 there)),
    (λ there. (distinct.same id).1 (by id there)),
  );
}
  where
    by : (id : ShardId) → Contains (ids_of old) id ⊎ Contains (ids_of new) id → Contains (ids_of old ++ ids_of new) id
    by id (inl there) = Contains-append_left (ids_of old) (ids_of new) id there
    by id (inr there) = Contains-append_right (ids_of old) (ids_of new) id there

-- ---- one list

-- of two identifiers only one is below the other
one_way : (a b : ShardId) → IsBelow a b → IsBelow b a → ⊥
one_way a b below above = clash (sym above ∙ id_cmp_total.antisymm b a ∙ ap ordering_reverse below)
  where
    clash : ◌≡◌ {A = Ordering} Less Greater → ⊥
    clash e = cc

-- Two ascending lists of identifiers with the same elements are equal.
pub one_rising : (xs ys : List ShardId) → AllPairs IsBelow xs → AllPairs IsBelow ys → ((id : ShardId) → Contains xs id → Contains ys id) →
    ((id : ShardId) → Contains ys id → Contains xs id) → xs ≡ ys
one_rising xs ys = same_if_ordered IsBelow one_way xs ys

-- Only one ascending list holds just the identifiers that one of two disks binds.
pub one_list_of_ids : (old new : List BindingValue) (ids others : List ShardId) → AreBoundIds old new ids → AreBoundIds old new others →
    ids ≡ others
one_list_of_ids old new ids others x y =
    one_rising ids others x.rising y.rising (λ id there. (y.exact id).1 ((x.exact id).0 there)) (λ id there. (x.exact id).1 ((y.exact id).0 there))
