-- An identifier has one newest binding, and runs have one shard map.
use Rattle.std.proofs.Common.{◌≡◌, ◌<◌, ◌+◌, ℕ, List, length, get_or, Contains, arith, sym, ◌∙◌, ap, inl, inr}
use Rattle.std.proofs.lemmas.Bool.{cases_lt, false≢true}
use Rattle.std.proofs.lemmas.Bool.Decides.{same_from_decides}
use Rattle.std.proofs.lemmas.List.Elements.{All-contains}
use Rattle.std.proofs.lemmas.List.Sorted.{searchable_from_sorted}
use Rattle.std.specs.List.Sorted.{IsNonDecreasingBy, IsPartitionPoint, IsSortedBy}
use Rattle.std.specs.Ordering.{is_eq, is_lt, ordering_index, ordering_reverse}
use Rattle.std.specs.declared.cmp.Ordering.{Ordering}
use Rattle.std.specs.declared.cmp.Ordering.TheVariants.{Less, Greater}
use Rattle.list_facts.proofs.Sorted.{same_if_ordered}
use Rattle.scrub_run.specs.declared.shard_id.ShardId.{ShardId}
use Rattle.scrub_run.specs.Entry.{EntryValue, IsBelow}
use Rattle.scrub_merge.specs.Binding.{BindingValue, Runs, IsNewestBinding}
use Rattle.scrub_merge.specs.ShardMap.{AreRuns, AreBindings, IsShardMap}
use Rattle.scrub_merge.specs.steps.Cursors.{id_cmp, AreRising}
use Rattle.scrub_merge.proofs.Identifiers.{id_cmp_total, itself, not_below_itself, same_entry}

-- ---- newest bindings

-- the entry that a binding comes from
abbrev pub entry_of : BindingValue → EntryValue
entry_of b = record { id = b.id; locators = b.locators }

-- an identifier has at most one newest binding
pub one_newest : {runs : Runs} {b c : BindingValue} → AreRising runs → IsNewestBinding runs b → IsNewestBinding runs c →
    b.id ≡ c.id → b ≡ c
one_newest {runs} {b} {c} rise hb hc same =
    λ i. record { id = same i; locators = (value i).locators; run = run i; doubtful = doubt i }
  where
    run : b.run ≡ c.run
    run = elim (cases_lt b.run c.run) [
      | inl before ↦ absurd (hc.first b.run (entry_of b) before hb.entry same)
      | inr not_before ↦ elim (cases_lt c.run b.run) [
        | inl after ↦ absurd (hb.first c.run (entry_of c) after hc.entry (sym same))
        | inr not_after ↦ omega (arith, not_before, not_after)
      ]
    ]

    entries : hb.entry.entries ≡ hc.entry.entries
    entries = cc (run, hb.entry.is_read, hc.entry.is_read)

    value : entry_of b ≡ entry_of c
    value =
        same_entry _ (rise c.run hc.entry.entries hc.entry.is_read) (rw entries at hb.entry.among) hc.entry.among same

    doubt : b.doubtful ≡ c.doubtful
    doubt = same_from_decides _ _ (rw run at hb.doubt) hc.doubt

-- The bindings of a shard map rise, and each has a locator.
pub bindings_of : {runs : Runs} {bindings : List BindingValue} → IsShardMap runs bindings → AreBindings bindings
bindings_of map = record { rising = map.rising; bound = map.bound }

-- a search that ends between the lesser and the greater identifiers finds none
pub none_found : (bindings : List BindingValue) (id : ShardId) (i : ℕ) (b : BindingValue) → AreBindings bindings →
    (IsNonDecreasingBy (λ y. ordering_index (id_cmp y.id id)) bindings → IsPartitionPoint (λ y. id_cmp y.id id ≡ Less) (λ y. id_cmp y.id id ≡ Greater) bindings i) →
    Contains bindings b → b.id ≡ id → ⊥
none_found bindings id i b are search_ends (k, here, is) same = elim (cases_lt k i) [
  | inl before ↦ false≢true (ap is_eq (sym (at Less (ends.0 k b (omega arith) before))) ∙ itself id)
  | inr after ↦ false≢true (ap is_eq (sym (at Greater (ends.1 k b after here))) ∙ itself id)
]
  where
    sorted : IsSortedBy (λ x y. is_lt (id_cmp x.id y.id)) bindings
    sorted j d low high =
        ap is_lt
        (id_cmp_total.antisymm (get_or bindings (j + 1) d).id (get_or bindings j d).id
        ∙ ap ordering_reverse (are.rising j (j + 1) d (omega arith) high))

    ends : IsPartitionPoint (λ y. id_cmp y.id id ≡ Less) (λ y. id_cmp y.id id ≡ Greater) bindings i
    ends = search_ends (searchable_from_sorted id_cmp_total (λ (y : BindingValue). y.id) bindings id sorted)

    at : (o : Ordering) → id_cmp (get_or bindings k b).id id ≡ o → id_cmp id id ≡ o
    at o h = rw (is, same) at h

-- ---- one map

-- a binding of one shard map is in every other
in_map : {runs : Runs} (xs ys : List BindingValue) (b : BindingValue) → IsShardMap runs xs → IsShardMap runs ys →
    Contains xs b → Contains ys b
in_map {runs} xs ys b hx hy c =
    hy.all b (All-contains (IsNewestBinding runs) xs b hx.newest c)
    (All-contains (λ v. 0 < length v.locators) xs b hx.bound c)

-- runs have one shard map
pub one_shard_map_lem : (runs : Runs) (xs ys : List BindingValue) → AreRuns runs → IsShardMap runs xs →
    IsShardMap runs ys → xs ≡ ys
one_shard_map_lem runs xs ys rise hx hy =
    same_if_ordered (λ v w. IsBelow v.id w.id)
    (λ v w below above. not_below_itself v.id (id_cmp_total.trans v.id w.id v.id below above)) xs ys
    hx.rising hy.rising (λ b. in_map xs ys b hx hy) (λ b. in_map ys xs b hy hx)
