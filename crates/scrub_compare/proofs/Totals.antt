-- The shards of two disks by their bindings and by the locators that they name, and how many there are.
use Rattle.std.proofs.Common.{◌≡◌, ◌<◌, ◌++◌, ◌∷◌, [], ℕ, suc, Bool, true, false, List, length, get_or, map, arith, refl, sym, ◌∙◌, ap}
use Rattle.std.specs.List.{All, AllPairs, filter, flat_map}
use Rattle.std.proofs.lemmas.List.{length-append, length-map}
use Rattle.std.proofs.lemmas.List.Elements.{All-cons, All-head, All-tail, filter-append}
use Rattle.std.proofs.lemmas.Slice.Eq.{bytes_eq-Decides}
use Rattle.list_facts.proofs.Filters.{filter_all, filter_mapped, filter_none}
use Rattle.list_facts.proofs.Elements.{same_behind_first, same_first}
use Rattle.scrub_run.specs.declared.shard_id.ShardId.{ShardId}
use Rattle.scrub_run.specs.Entry.{IsBelow}
use Rattle.scrub_merge.specs.Binding.{BindingValue}
use Rattle.scrub_check.specs.declared.named.Named.{Named}
use Rattle.scrub_check.specs.declared.named.Owner.TheVariants.{Shard}
use Rattle.scrub_check.specs.declared.statuses.checked.Checked.{Checked}
use Rattle.scrub_check.specs.Checked.{is_owned_by, named_of}
use Rattle.scrub_check.specs.Named.{named_by_shard}
use Rattle.scrub_check.proofs.Owners.{All-named_by_shard, All-named_by_shards, not_owned_by_above, not_owned_by_below, owned_by_itself}
use Rattle.scrub_compare.specs.Compare.{HasBinding, owned_by}
use Rattle.scrub_compare.proofs.OwnedBy.{name_by}

abbrev Rising : List BindingValue → Type 0
Rising bs = AllPairs (λ b c. IsBelow b.id c.id) bs

-- Whether the shard is the owner of the name.
abbrev pub owns : ShardId → Named → Bool
owns id n = is_owned_by id n.owner

-- ---- names

-- a shard owns as many names as it has locators
pub names_owned : (bs : List BindingValue) → Rising bs →
    All (λ (b : BindingValue). length (filter (owns b.id) (flat_map named_by_shard bs)) ≡ length b.locators) bs
names_owned [] rising = λ i d below. absurd (omega (arith, below))
names_owned (b ∷ bs) rising =
    All-cons (λ (v : BindingValue). length (filter (owns v.id) (flat_map named_by_shard (b ∷ bs))) ≡ length v.locators) b bs first
    (rest (names_owned bs (λ j k e order inside. rising (suc j) (suc k) e (omega (arith, order)) (omega (arith, inside)))))
  where
    above : All (λ (v : BindingValue). IsBelow b.id v.id) bs
    above = λ i d below. rising 0 (suc i) d (omega arith) (omega (arith, below))

    first : length (filter (owns b.id) (named_by_shard b ++ flat_map named_by_shard bs)) ≡ length b.locators
    first =
        ap (λ (ns : List Named). length ns)
        (filter-append (owns b.id) (named_by_shard b) (flat_map named_by_shard bs)
        ∙ ap (λ (ns : List Named). ns ++ filter (owns b.id) (flat_map named_by_shard bs)) (filter_all (owns b.id) (named_by_shard b) (All-named_by_shard (λ o. is_owned_by b.id o ≡ true) b (owned_by_itself b.id)))
        ∙ ap (λ (ns : List Named). named_by_shard b ++ ns) (filter_none (owns b.id) (flat_map named_by_shard bs) (All-named_by_shards (λ o. is_owned_by b.id o ≡ false) bs (λ i d below. not_owned_by_below b.id (get_or bs i d).id (above i d below)))))
        ∙ (let e : length (named_by_shard b ++ []) ≡ length b.locators = omega (arith, length-append (named_by_shard b) [], length-map b.locators (name_by b.id)) in e)

    behind : (v : BindingValue) → IsBelow b.id v.id → length (filter (owns v.id) (flat_map named_by_shard bs)) ≡ length v.locators →
        length (filter (owns v.id) (named_by_shard b ++ flat_map named_by_shard bs)) ≡ length v.locators
    behind v below size =
        ap (λ (ns : List Named). length ns)
        (filter-append (owns v.id) (named_by_shard b) (flat_map named_by_shard bs)
        ∙ ap (λ (ns : List Named). ns ++ filter (owns v.id) (flat_map named_by_shard bs)) (filter_none (owns v.id) (named_by_shard b) (All-named_by_shard (λ o. is_owned_by v.id o ≡ false) b (not_owned_by_above b.id v.id below))))
        ∙ size

    rest : All (λ (v : BindingValue). length (filter (owns v.id) (flat_map named_by_shard bs)) ≡ length v.locators) bs →
        All (λ (v : BindingValue). length (filter (owns v.id) (flat_map named_by_shard (b ∷ bs))) ≡ length v.locators) bs
    rest sizes i d below = behind (get_or bs i d) (above i d below) (sizes i d below)

-- a shard that owns a name is bound
pub owner_bound : (bs : List BindingValue) (id : ShardId) → 0 < length (filter (owns id) (flat_map named_by_shard bs)) → HasBinding bs id
owner_bound [] id some = absurd (omega (arith, some))
owner_bound (b ∷ bs) id some = by (is_owned_by id (Shard b.id)) refl (owner_bound bs id)
  where
    behind : HasBinding bs id → HasBinding (b ∷ bs) id
    behind there = (suc there.0, omega (arith, there.1), there.2)

    by : (t : Bool) → is_owned_by id (Shard b.id) ≡ t → (0 < length (filter (owns id) (flat_map named_by_shard bs)) → HasBinding bs id) →
        HasBinding (b ∷ bs) id
    by true is later = (0, omega arith, λ i. record { 0 = (bytes_eq-Decides b.id.0 id.0).0 is i })
    by false is later =
        let same : filter (owns id) (named_by_shard b ++ flat_map named_by_shard bs) ≡ filter (owns id) (flat_map named_by_shard bs) =
        filter-append (owns id) (named_by_shard b) (flat_map named_by_shard bs)
        ∙ ap (λ (ns : List Named). ns ++ filter (owns id) (flat_map named_by_shard bs)) (filter_none (owns id) (named_by_shard b) (All-named_by_shard (λ o. is_owned_by id o ≡ false) b is)) in
        let long : length (filter (owns id) (flat_map named_by_shard (b ∷ bs))) ≡ length (filter (owns id) (flat_map named_by_shard bs)) = ap (λ (ns : List Named). length ns) same in
        behind (later (omega (arith, some, long)))

-- ---- locators

module _ (cs : List Checked) (bs : List BindingValue) (same : map named_of cs ≡ flat_map named_by_shard bs) where
  -- as many locators are owned as names
  pub owned_size : (id : ShardId) → length (owned_by id cs) ≡ length (filter (owns id) (flat_map named_by_shard bs))
  owned_size id =
      let mapped : length (map named_of (owned_by id cs)) ≡ length (filter (owns id) (flat_map named_by_shard bs)) =
      ap (λ (ns : List Named). length ns) (filter_mapped (owns id) named_of cs ∙ ap (filter (owns id)) same) in
      omega (arith, mapped, length-map (owned_by id cs) named_of)

  -- There are as many locators as names.
  pub shards_size : length cs ≡ length (flat_map named_by_shard bs)
  shards_size =
      let mapped : length (map named_of cs) ≡ length (flat_map named_by_shard bs) = ap (λ (ns : List Named). length ns) same in
      omega (arith, mapped, length-map cs named_of)

  -- Each shard that is bound owns as many locators as its binding has.
  pub each_size : Rising bs → All (λ (b : BindingValue). length (owned_by b.id cs) ≡ length b.locators) bs
  each_size rising i d below = owned_size (get_or bs i d).id ∙ names_owned bs rising i d below

-- bindings of the same identifiers with as many locators have as many names
pub totals_alike : (size : ShardId → ℕ) (bs vs : List BindingValue) → map (λ b. b.id) bs ≡ map (λ b. b.id) vs →
    All (λ (b : BindingValue). size b.id ≡ length b.locators) bs → All (λ (b : BindingValue). size b.id ≡ length b.locators) vs →
    length (flat_map named_by_shard bs) ≡ length (flat_map named_by_shard vs)
totals_alike size [] [] ids old new = refl
totals_alike size [] (v ∷ vs) ids old new =
    let long : 0 ≡ length (map (λ (b : BindingValue). b.id) (v ∷ vs)) = ap (λ (xs : List ShardId). length xs) ids in absurd (omega (arith, long))
totals_alike size (b ∷ bs) [] ids old new =
    let long : length (map (λ (b : BindingValue). b.id) (b ∷ bs)) ≡ 0 = ap (λ (xs : List ShardId). length xs) ids in absurd (omega (arith, long))
totals_alike size (b ∷ bs) (v ∷ vs) ids old new =
    let head : b.id ≡ v.id = same_first b.id v.id (map (λ c. c.id) bs) (map (λ c. c.id) vs) ids in
    let rest = totals_alike size bs vs (same_behind_first b.id v.id (map (λ c. c.id) bs) (map (λ c. c.id) vs) ids) (All-tail (λ (c : BindingValue). size c.id ≡ length c.locators) b bs old) (All-tail (λ (c : BindingValue). size c.id ≡ length c.locators) v vs new) in
    let one : length b.locators ≡ length v.locators =
    sym (All-head (λ (c : BindingValue). size c.id ≡ length c.locators) b bs old) ∙ ap size head ∙ All-head (λ (c : BindingValue). size c.id ≡ length c.locators) v vs new in
    omega (
      arith,
      rest,
      one,
      length-append (named_by_shard b) (flat_map named_by_shard bs),
      length-append (named_by_shard v) (flat_map named_by_shard vs),
      length-map b.locators (name_by b.id),
      length-map v.locators (name_by v.id),
    )
