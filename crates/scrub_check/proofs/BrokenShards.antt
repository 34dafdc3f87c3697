-- Shards with a dangling locator, found among the owners of the dangling ones.
use Rattle.std.proofs.Common.{◌≡◌, ◌&&◌, ◌||◌, Bool, true, false, None, List, [], ◌∷◌, suc, arith, refl, sym, ◌∙◌, ap, if◌then◌else◌}
use Rattle.std.specs.Ordering.{eq_by_cmp}
use Rattle.std.specs.Str.{bytes_eq}
use Rattle.std.specs.List.{AllPairs, Contains, filter_map, list_any, cons_option}
use Rattle.std.specs.List.Sorted.{IsStrictlySortedBy}
use Rattle.std.specs.declared.cmp.Ordering.TheVariants.{Less}
use Rattle.std.proofs.lemmas.List.Elements.{recursion_from_All}
use Rattle.std.proofs.lemmas.List.Folds.{Any-from_list_any, list_any_at}
use Rattle.std.proofs.lemmas.Map.Keys.{Less-from_sorted}
use Rattle.std.proofs.lemmas.Map.Text.{is_eq-slice_cmp}
use Rattle.std.proofs.lemmas.Slice.Eq.{bytes_eq-Decides}
use Rattle.scrub_run.specs.declared.shard_id.ShardId.{ShardId}
use Rattle.scrub_run.specs.Entry.{IsBelow}
use Rattle.scrub_merge.specs.steps.Cursors.{id_cmp}
use Rattle.scrub_check.specs.declared.named.Owner.{Owner}
use Rattle.scrub_check.specs.declared.named.Owner.TheVariants.{Run, Shard}
use Rattle.scrub_check.specs.declared.statuses.checked.Checked.{Checked}
use Rattle.scrub_check.specs.Checked.{is_dangling, is_owned_by, is_broken, AreBrokenShards}
use Rattle.scrub_check.specs.steps.Distinct.{AreDistinct}
use Rattle.scrub_check.specs.steps.BrokenShards.{shard_of, broken_owner}

-- identifiers each below all later ones are sorted
pub sorted_by_id : (ids : List ShardId) → AllPairs IsBelow ids → IsStrictlySortedBy id_cmp ids
unfolding IsStrictlySortedBy
sorted_by_id [] rising = tt
sorted_by_id (id ∷ ids) rising = (
  recursion_from_All (λ other. id_cmp id other ≡ Less) ids (λ k d lt. rising 0 (suc k) d (omega arith) (omega (arith, lt))),
  sorted_by_id ids (λ i j d lt within. rising (suc i) (suc j) d (omega (arith, lt)) (omega (arith, within))),
)

-- identifiers are equal exactly if their order makes them equal
pub id_ties : (a b : ShardId) → bytes_eq a.0 b.0 ≡ eq_by_cmp id_cmp a b
id_ties a b = sym (is_eq-slice_cmp a.0 b.0)

abbrev is_id : ShardId → ShardId → Bool
is_id id other = bytes_eq other.0 id.0

one_owner : (id : ShardId) (dangles : Bool) (owner : Owner) (rest : List ShardId) →
    list_any (is_id id) (cons_option (if dangles then shard_of owner else None) rest) ≡ ((is_owned_by id owner && dangles) || list_any (is_id id) rest)
one_owner id true (Shard other) rest = by (bytes_eq other.0 id.0)
  where
    by : (t : Bool) → (t || list_any (is_id id) rest) ≡ ((t && true) || list_any (is_id id) rest)
    by true = refl
    by false = refl
one_owner id true (Run k) rest = refl
one_owner id false (Shard other) rest = by (bytes_eq other.0 id.0)
  where
    by : (t : Bool) → list_any (is_id id) rest ≡ ((t && false) || list_any (is_id id) rest)
    by true = refl
    by false = refl
one_owner id false (Run k) rest = refl

-- a shard is broken exactly if it is among the owners of dangling locators
broken_is : (checked : List Checked) (id : ShardId) →
    list_any (is_id id) (filter_map broken_owner checked) ≡ is_broken checked id
broken_is [] id = refl
broken_is (c ∷ cs) id =
    one_owner id (is_dangling c.status) c.owner (filter_map broken_owner cs)
    ∙ ap (λ b. (is_owned_by id c.owner && is_dangling c.status) || b) (broken_is cs id)

same_id : (id other : ShardId) → is_id id other ≡ true → other ≡ id
same_id id other e = λ i. record { 0 = (bytes_eq-Decides other.0 id.0).0 e i }

among_owners : (checked : List Checked) (id : ShardId) → is_broken checked id ≡ true →
    Contains (filter_map broken_owner checked) id
among_owners checked id broken =
    let owners = filter_map broken_owner checked in
    let found = Any-from_list_any (is_id id) owners (broken_is checked id ∙ broken) in
    rw (← (same_id id found.1 found.4)) (found.0, found.2, found.3)

owner_broken : (checked : List Checked) (id : ShardId) → Contains (filter_map broken_owner checked) id →
    is_broken checked id ≡ true
owner_broken checked id (i, inside, is) =
    sym (broken_is checked id)
    ∙ list_any_at (is_id id) (filter_map broken_owner checked) i id inside ((bytes_eq-Decides _ id.0).1 (ap (λ other. other.0) is))

-- so the owners, each once and ascending, are the broken shards
pub broken_found : (checked : List Checked) (ids : List ShardId) → AreDistinct id_cmp (filter_map broken_owner checked) ids →
    AreBrokenShards checked ids
broken_found checked ids distinct = record {
  rising = λ i j d lt within. Less-from_sorted id_cmp ids i j d distinct.rising lt within;
  exact = λ id. (
    λ there. owner_broken checked id ((distinct.same id).0 there),
    λ broken. (distinct.same id).1 (among_owners checked id broken),
  );
}
