-- The locators of shards are in the order of their owners, and those of one shard are one part of them.
use Rattle.std.proofs.Common.{◌≡◌, ◌⊎◌, ◌<◌, ◌≤◌, ◌-◌, ◌++◌, ◌∷◌, [], ℕ, suc, Bool, true, false, List, length, get_or, map, take, drop, arith, refl, sym, subst, ◌∙◌, ap, inl, inr, Ordering, Less, Equal, Greater, is_eq, is_lt, is_le}
use Rattle.std.specs.Bool.{⊤}
use Rattle.std.specs.List.{All, AllPairs, flat_map}
use Rattle.std.specs.List.Sorted.{IsPartitionPoint, IsPartitionedBy}
use Rattle.std.proofs.lemmas.Bool.{cases_eq, cases_lt, false≢true}
use Rattle.std.proofs.lemmas.List.{get_or-map}
use Rattle.std.proofs.lemmas.List.Elements.{All-append, All-head, All-map, All-tail}
use Rattle.std.proofs.lemmas.List.{length-map}
use Rattle.std.proofs.lemmas.List.Kept.{AllPairs-cons}
use Rattle.std.proofs.lemmas.Map.Text.{is_eq-slice_cmp}
use Rattle.std.proofs.lemmas.Slice.{between_is}
use Rattle.list_facts.proofs.Filters.{filter_between}
use Rattle.list_facts.proofs.Orders.{Less_from_is_lt, eq_if_neither_lt_nor_gt, is_le_from_lt, not_eq_from_lt, not_eq_from_not_le}
use Rattle.scrub_frame.specs.declared.locator.Locator.{Locator}
use Rattle.scrub_run.specs.declared.shard_id.ShardId.{ShardId}
use Rattle.scrub_run.specs.Entry.{IsBelow}
use Rattle.scrub_merge.specs.Binding.{BindingValue}
use Rattle.scrub_merge.specs.steps.Cursors.{id_cmp}
use Rattle.scrub_merge.proofs.Identifiers.{id_cmp_total, same_id}
use Rattle.scrub_check.specs.declared.named.Named.{Named}
use Rattle.scrub_check.specs.declared.named.Owner.{Owner}
use Rattle.scrub_check.specs.declared.named.Owner.TheVariants.{Run, Shard}
use Rattle.scrub_check.specs.declared.statuses.checked.Checked.{Checked}
use Rattle.scrub_check.specs.declared.statuses.status.Status.TheVariants.{Sound}
use Rattle.scrub_check.specs.Checked.{is_owned_by, named_of}
use Rattle.scrub_check.specs.Named.{named_by_shard}
use Rattle.scrub_compare.specs.Compare.{owned_by}
use Rattle.scrub_compare.specs.steps.Rows.{AreByOwner, owner_cmp}

-- ---- owners in order

-- the second owner isn't below the first
abbrev Stands : Owner → Owner → Type 0
Stands (Run k) o = ⊤
Stands (Shard a) (Run k) = ⊥
Stands (Shard a) (Shard b) = (a ≡ b) ⊎ IsBelow a b

-- what is below an identifier has nothing in front of it that isn't
lt_stands : (m n : Owner) (id : ShardId) → Stands m n → is_lt (owner_cmp n id) ≡ true → is_lt (owner_cmp m id) ≡ true
lt_stands (Run k) n id s is = refl
lt_stands (Shard a) (Run k) id s is = absurd s
lt_stands (Shard a) (Shard b) id (inl same) is = ap (λ (c : ShardId). is_lt (id_cmp c id)) same ∙ is
lt_stands (Shard a) (Shard b) id (inr below) is = ap is_lt (id_cmp_total.trans a b id below (Less_from_is_lt (id_cmp b id) is))

le_stands : (m n : Owner) (id : ShardId) → Stands m n → is_le (owner_cmp n id) ≡ true → is_le (owner_cmp m id) ≡ true
le_stands (Run k) n id s is = refl
le_stands (Shard a) (Run k) id s is = absurd s
le_stands (Shard a) (Shard b) id (inl same) is = ap (λ (c : ShardId). is_le (id_cmp c id)) same ∙ is
le_stands (Shard a) (Shard b) id (inr below) is = by (id_cmp b id) refl is
  where
    by : (r : Ordering) → id_cmp b id ≡ r → is_le r ≡ true → is_le (id_cmp a id) ≡ true
    by Less e i = ap is_le (id_cmp_total.trans a b id below e)
    by Equal e i =
        let same : b ≡ id = same_id b id (ap is_eq e) in
        ap is_le (subst (λ (c : ShardId). IsBelow a c) same below)
    by Greater e i = absurd (false≢true i)

abbrev Stand : Named → Named → Type 0
Stand m n = Stands m.owner n.owner

-- the name that a shard gives a locator
abbrev pub name_by : ShardId → Locator → Named
name_by id l = record { owner = Shard id; locator = l }

-- the names of a shard in front of others that aren't below
group : (id : ShardId) (ls : List Locator) (rest : List Named) → All (λ (n : Named). Stands (Shard id) n.owner) rest →
    AllPairs Stand rest → AllPairs Stand (map (name_by id) ls ++ rest)
group id [] rest above ordered = ordered
group id (l ∷ ls) rest above ordered =
    AllPairs-cons Stand (name_by id l) (map (name_by id) ls ++ rest)
    (All-append (λ (n : Named). Stands (Shard id) n.owner) (map (name_by id) ls) rest (All-map (λ (n : Named). Stands (Shard id) n.owner) (name_by id) ls (λ i d below. inl refl)) above)
    (group id ls rest above ordered)

-- those of later shards are above
later : (id : ShardId) (bs : List BindingValue) → All (λ (b : BindingValue). IsBelow id b.id) bs →
    All (λ (n : Named). Stands (Shard id) n.owner) (flat_map named_by_shard bs)
later id [] all = λ i d below. absurd (omega (arith, below))
later id (b ∷ bs) all =
    All-append (λ (n : Named). Stands (Shard id) n.owner) (named_by_shard b) (flat_map named_by_shard bs)
    (All-map (λ (n : Named). Stands (Shard id) n.owner) (name_by b.id) b.locators (λ i d below. inr (All-head (λ (v : BindingValue). IsBelow id v.id) b bs all)))
    (later id bs (All-tail (λ (v : BindingValue). IsBelow id v.id) b bs all))

ordered_names : (bs : List BindingValue) → AllPairs (λ b c. IsBelow b.id c.id) bs → AllPairs Stand (flat_map named_by_shard bs)
ordered_names [] rising = λ i j d order below. absurd (omega (arith, below))
ordered_names (b ∷ bs) rising =
    group b.id b.locators (flat_map named_by_shard bs)
    (later b.id bs (λ i d below. rising 0 (suc i) d (omega arith) (omega (arith, below))))
    (ordered_names bs (λ i j d order below. rising (suc i) (suc j) d (omega (arith, order)) (omega (arith, below))))

-- ---- the locators

-- what holds of each two names holds of the locators with them
pairs_of_names : (cs : List Checked) (ns : List Named) → map named_of cs ≡ ns → AllPairs Stand ns →
    AllPairs (λ (b c : Checked). Stands b.owner c.owner) cs
pairs_of_names cs ns same ordered i j d order below =
    subst (λ (n : Named). Stands (get_or cs i d).owner n.owner) (get_or-map named_of cs j d (named_of d) below)
    (subst (λ (n : Named). Stands n.owner (get_or (map named_of cs) j (named_of d)).owner) (get_or-map named_of cs i d (named_of d) (omega (arith, order, below)))
    (pairs i j (named_of d) order (long below)))
  where
    pairs : AllPairs Stand (map named_of cs)
    pairs = subst (λ (names : List Named). AllPairs Stand names) (sym same) ordered

    long : j < length cs → j < length (map named_of cs)
    long h = grind (arith, length-map cs named_of, h)

parted : (p : Checked → Bool) (cs : List Checked) → AllPairs (λ b c. p c ≡ true → p b ≡ true) cs → IsPartitionedBy p cs
parted p cs pairs i j d order below is = elim (cases_eq i j) [
  | inl same ↦ subst (λ (n : ℕ). p (get_or cs n d) ≡ true) (sym same) is
  | inr other ↦ pairs i j d (omega (arith, order, other)) below is
]

-- Locators that ascending bindings name are in the order of their owners.
pub by_owner : (cs : List Checked) (bs : List BindingValue) → map named_of cs ≡ flat_map named_by_shard bs →
    AllPairs (λ b c. IsBelow b.id c.id) bs → AreByOwner cs
by_owner cs bs same rising id =
    let pairs : AllPairs (λ (b c : Checked). Stands b.owner c.owner) cs = pairs_of_names cs (flat_map named_by_shard bs) same (ordered_names bs rising) in (
      parted (λ c. is_lt (owner_cmp c.owner id)) cs
          (λ i j d order below. lt_stands (get_or cs i d).owner (get_or cs j d).owner id (pairs i j d order below)),
      parted (λ c. is_le (owner_cmp c.owner id)) cs
          (λ i j d order below. le_stands (get_or cs i d).owner (get_or cs j d).owner id (pairs i j d order below)),
    )

-- ---- the part of one shard

-- a shard names a locator exactly if its owner is neither below nor above it
owner_is : (o : Owner) (id : ShardId) → is_owned_by id o ≡ is_eq (owner_cmp o id)
owner_is (Run k) id = refl
owner_is (Shard other) id = sym (is_eq-slice_cmp other.0 id.0)

-- A locator for where a list needs one past its end.
pub some_checked : Checked
some_checked = record {
  owner = Run 0;
  locator = record { extent = 0; offset = 0; length = 0; uuid = []; digest = [] };
  status = Sound;
}

module _ (ys : List Checked) (id : ShardId) (low high : ℕ)
    (lows : IsPartitionPoint (λ c. is_lt (owner_cmp c.owner id) ≡ true) (λ c. is_lt (owner_cmp c.owner id) ≡ false) ys low)
    (highs : IsPartitionPoint (λ c. is_le (owner_cmp c.owner id) ≡ true) (λ c. is_le (owner_cmp c.owner id) ≡ false) ys high) where
  -- The part of a shard's locators doesn't end before it begins.
  pub in_order : low ≤ length ys → low ≤ high
  in_order inside = elim (cases_lt high low) [
    | inl less ↦
        absurd
        (false≢true
        (sym (highs.1 high some_checked (omega arith) (omega (arith, less, inside)))
        ∙ is_le_from_lt (owner_cmp (get_or ys high some_checked).owner id) (lows.0 high some_checked (omega arith) less)))
    | inr more ↦ more
  ]

  -- The part between these two places is just the locators of the shard, in their order.
  pub own_part : low ≤ high → high ≤ length ys → take (high - low) (drop low ys) ≡ owned_by id ys
  own_part order inside =
      between_is ys low high
      ∙ sym
      (filter_between (λ c. is_owned_by id c.owner) ys low high order inside
      (λ k d lt. owner_is (get_or ys k d).owner id ∙ not_eq_from_lt (owner_cmp (get_or ys k d).owner id) (lows.0 k d (omega arith) lt))
      (λ k d from lt. owner_is (get_or ys k d).owner id ∙ eq_if_neither_lt_nor_gt (owner_cmp (get_or ys k d).owner id) (lows.1 k d from (omega (arith, lt, inside))) (highs.0 k d (omega arith) lt))
      (λ k d from lt. owner_is (get_or ys k d).owner id ∙ not_eq_from_not_le (owner_cmp (get_or ys k d).owner id) (highs.1 k d from lt)))
