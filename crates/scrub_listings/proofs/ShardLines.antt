-- The lines of a manifest, one shard after another, are those of each shard's locators among all named ones.
use Rattle.std.proofs.Common.{◌≡◌, ◌<◌, ◌≤◌, ◌+◌, ◌&&◌, ◌++◌, ◌∷◌, [], ℕ, zero, suc, Bool, true, false, List, length, map, take, drop, get_or, AllPairs, arith, refl, sym, ◌∙◌, ap, subst, append-nil, append_assoc}
use Rattle.std.proofs.Math.Bool.{and-false}
use Rattle.std.proofs.Math.Path.{ap₂}
use Rattle.std.specs.List.{All, count_by, filter, flat_map, take-map}
use Rattle.std.proofs.Math.ListN.{drop_of_length-le}
use Rattle.std.proofs.Math.Seq.{drop-append_seam, drop-cons, take-append_seam}
use Rattle.std.proofs.lemmas.List.{drop-map, length-append, length-map, length-take-le, take-append-drop}
use Rattle.std.proofs.lemmas.List.Elements.{All-append, All-cons, All-head, All-map, All-nil, All-tail, All-weaker, filter-append}
use Rattle.std.proofs.lemmas.List.Sums.{count_by-le-length, length-filter}
use Rattle.list_facts.proofs.Filters.{filter_all, filter_none}
use Rattle.scrub_frame.specs.declared.locator.Locator.{Locator}
use Rattle.scrub_run.specs.declared.shard_id.ShardId.{ShardId}
use Rattle.scrub_run.specs.Entry.{IsBelow}
use Rattle.scrub_merge.specs.Binding.{BindingValue}
use Rattle.scrub_check.specs.declared.named.Named.{Named}
use Rattle.scrub_check.specs.declared.named.Owner.{Owner}
use Rattle.scrub_check.specs.declared.named.Owner.TheVariants.{Run, Shard}
use Rattle.scrub_check.specs.declared.statuses.checked.Checked.{Checked}
use Rattle.scrub_check.specs.declared.statuses.status.Status.{Status}
use Rattle.scrub_check.specs.Checked.{is_owned_by, named_of}
use Rattle.scrub_check.specs.Named.{named_locators, named_by_runs, named_by_shard}
use Rattle.scrub_check.proofs.Owners.{All-named_by_shard, All-named_by_shards, not_owned_by_above, not_owned_by_below, owned_by_itself}
use Rattle.scrub_listings.specs.Manifest.{is_of_shard, numbered_line, numbered_lines, shard_lines}
use Rattle.scrub_listings.proofs.SpareLines.{flat_same}

-- ---- which shard owns which locators

-- what holds of what is made of each element holds of the elements
All-map-back : {X Y : Type 0} (P : Y → Type 0) (f : X → Y) (xs : List X) → All P (map f xs) → All (λ (x : X). P (f x)) xs
All-map-back P f [] all = λ i d below. absurd (omega (arith, below))
All-map-back {X} P f (x ∷ xs) all =
    All-cons (λ (y : X). P (f y)) x xs (All-head P (f x) (map f xs) all)
    (All-map-back P f xs (All-tail P (f x) (map f xs) all))

-- K holds of the owner of each of these locators
abbrev pub Owners : (Owner → Type 0) → List Checked → Type 0
Owners K cs = All (λ (c : Checked). K c.owner) cs

-- What holds of the owners of some names holds of the owners of the locators with these names.
pub of_names : (K : Owner → Type 0) (cs : List Checked) (ns : List Named) → map named_of cs ≡ ns →
    All (λ (n : Named). K n.owner) ns → Owners K cs
of_names K cs ns same all =
    All-map-back (λ (n : Named). K n.owner) named_of cs
    (subst (λ (names : List Named). All (λ (n : Named). K n.owner) names) (sym same) all)

of_runs : (K : Owner → Type 0) → ((k : ℕ) → K (Run k)) → (k : ℕ) (ls : List Locator) →
    All (λ (n : Named). K n.owner) (named_by_runs k ls)
of_runs K run k [] = λ i d below. absurd (omega (arith, below))
of_runs K run k (l ∷ ls) =
    All-cons (λ (n : Named). K n.owner) (record { owner = Run k; locator = l }) (named_by_runs (k + 1) ls) (run k)
    (of_runs K run (k + 1) ls)

-- ---- the locators of one shard after another

-- the lines of shards whose locators stand one after another, by what follows a locator's status
abbrev pub lines_along : (Checked → List ℕ) → List BindingValue → List Checked → List ℕ
lines_along after [] cs = []
lines_along after (b ∷ bs) cs =
    numbered_lines after (take (length b.locators) cs) ++ lines_along after bs (drop (length b.locators) cs)

-- the locators are those of these shards, one after another
abbrev pub AreAlong : List BindingValue → List Checked → Type 0
AreAlong bs cs = map named_of cs ≡ flat_map named_by_shard bs

abbrev pub Rising : List BindingValue → Type 0
Rising bs = AllPairs (λ b c. IsBelow b.id c.id) bs

length_named : (b : BindingValue) → length (named_by_shard b) ≡ length b.locators
length_named b = length-map b.locators (λ (l : Locator). record { owner = Shard b.id; locator = l })

-- the names of a front, and of what is after it
named_front : (xs ys : List Named) (cs : List Checked) (n : ℕ) → length xs ≡ n → map named_of cs ≡ xs ++ ys →
    map named_of (take n cs) ≡ xs
named_front xs ys cs n size same =
    sym (take-map named_of n cs) ∙ ap (λ m. take m (map named_of cs)) (sym size) ∙ ap (take (length xs)) same
    ∙ take-append_seam xs ys

named_behind : (xs ys : List Named) (cs : List Checked) (n : ℕ) → length xs ≡ n → map named_of cs ≡ xs ++ ys →
    map named_of (drop n cs) ≡ ys
named_behind xs ys cs n size same =
    sym (drop-map named_of n cs) ∙ ap (λ m. drop m (map named_of cs)) (sym size) ∙ ap (drop (length xs)) same
    ∙ drop-append_seam xs ys

-- Of locators along `b ∷ bs`, the first `length b.locators` are those that `b` names.
pub own_first : (b : BindingValue) (bs : List BindingValue) (cs : List Checked) → AreAlong (b ∷ bs) cs →
    map named_of (take (length b.locators) cs) ≡ named_by_shard b
own_first b bs cs same = named_front (named_by_shard b) (flat_map named_by_shard bs) cs (length b.locators) (length_named b) same

-- Of locators along `b ∷ bs`, those after the locators of `b` are along `bs`.
pub along_behind : (b : BindingValue) (bs : List BindingValue) (cs : List Checked) → AreAlong (b ∷ bs) cs →
    AreAlong bs (drop (length b.locators) cs)
along_behind b bs cs same =
    named_behind (named_by_shard b) (flat_map named_by_shard bs) cs (length b.locators) (length_named b) same

-- a shard's locators are among those that are left
pub along_fits : (b : BindingValue) (bs : List BindingValue) (cs : List Checked) → AreAlong (b ∷ bs) cs →
    length b.locators ≤ length cs
along_fits b bs cs same =
    let whole : length (map named_of cs) ≡ length (named_by_shard b ++ flat_map named_by_shard bs) = ap (λ (ns : List Named). length ns) same in
    omega (
      arith,
      whole,
      length-map cs named_of,
      length-append (named_by_shard b) (flat_map named_by_shard bs),
      length_named b,
    )

-- the locators that pass a test, if none of those behind the front does
in_front : (p : Checked → Bool) (n : ℕ) (cs : List Checked) → All (λ c. p c ≡ false) (drop n cs) → filter p cs ≡ filter p (take n cs)
in_front p n cs none =
    ap (filter p) (sym (take-append-drop n cs)) ∙ filter-append p (take n cs) (drop n cs)
    ∙ ap (λ (us : List Checked). filter p (take n cs) ++ us) (filter_none p (drop n cs) none) ∙ append-nil (filter p (take n cs))

-- and if none of the front does
behind_front : (p : Checked → Bool) (n : ℕ) (cs : List Checked) → All (λ c. p c ≡ false) (take n cs) → filter p cs ≡ filter p (drop n cs)
behind_front p n cs none =
    ap (filter p) (sym (take-append-drop n cs)) ∙ filter-append p (take n cs) (drop n cs)
    ∙ ap (λ (us : List Checked). us ++ filter p (drop n cs)) (filter_none p (take n cs) none)

-- The lines of shards one after another are, for each, those of its locators among all.
pub lines_are : (after : Checked → List ℕ) (bs : List BindingValue) (cs : List Checked) → Rising bs → AreAlong bs cs →
    lines_along after bs cs ≡ flat_map (λ b. shard_lines after cs b.id) bs
lines_are after [] cs rising same = refl
lines_are after (b ∷ bs) cs rising same =
    let n = length b.locators in
    ap₂ (λ (u v : List ℕ). u ++ v)
    (ap (numbered_lines after) (sym (in_front (λ c. is_owned_by b.id c.owner) n cs others ∙ filter_all (λ c. is_owned_by b.id c.owner) (take n cs) mine)))
    (lines_are after bs (drop n cs) (λ i j d order here. rising (suc i) (suc j) d (omega (arith, order)) (omega (arith, here))) (along_behind b bs cs same)
    ∙ flat_same (λ v. shard_lines after (drop n cs) v.id) (λ v. shard_lines after cs v.id) bs
    (λ k d below. ap (numbered_lines after) (sym (behind_front (λ c. is_owned_by (get_or bs k d).id c.owner) n cs (not_of (get_or bs k d) (above k d below))))))
  where
    above : (k : ℕ) (d : BindingValue) → k < length bs → IsBelow b.id (get_or bs k d).id
    above k d below = rising zero (suc k) d (omega arith) (omega (arith, below))

    mine : All (λ c. is_owned_by b.id c.owner ≡ true) (take (length b.locators) cs)
    mine =
        of_names (λ o. is_owned_by b.id o ≡ true) (take (length b.locators) cs) (named_by_shard b) (own_first b bs cs same)
        (All-named_by_shard (λ o. is_owned_by b.id o ≡ true) b (owned_by_itself b.id))

    others : All (λ c. is_owned_by b.id c.owner ≡ false) (drop (length b.locators) cs)
    others =
        of_names (λ o. is_owned_by b.id o ≡ false) (drop (length b.locators) cs) (flat_map named_by_shard bs) (along_behind b bs cs same)
        (All-named_by_shards (λ o. is_owned_by b.id o ≡ false) bs (λ k d below. not_owned_by_below b.id (get_or bs k d).id (above k d below)))

    not_of : (v : BindingValue) → IsBelow b.id v.id → All (λ c. is_owned_by v.id c.owner ≡ false) (take (length b.locators) cs)
    not_of v over =
        of_names (λ o. is_owned_by v.id o ≡ false) (take (length b.locators) cs) (named_by_shard b) (own_first b bs cs same)
        (All-named_by_shard (λ o. is_owned_by v.id o ≡ false) b (not_owned_by_above b.id v.id over))

-- ---- after the locators of the runs

length_runs : (k : ℕ) (ls : List Locator) → length (named_by_runs k ls) ≡ length ls
length_runs k [] = refl
length_runs k (l ∷ ls) = ap suc (length_runs (k + 1) ls)

module _ (runs : List Locator) (bs : List BindingValue) (checked : List Checked) (same : map named_of checked ≡ named_locators runs bs) where
  -- the locators after those of the runs are those of the shards
  pub along_runs : AreAlong bs (drop (length runs) checked)
  along_runs = named_behind (named_by_runs 0 runs) (flat_map named_by_shard bs) checked (length runs) (length_runs 0 runs) same

  -- There are at least as many checked locators as index runs.
  pub runs_fit : length runs ≤ length checked
  runs_fit =
      let whole : length (map named_of checked) ≡ length (named_locators runs bs) = ap (λ (ns : List Named). length ns) same in
      omega (
        arith,
        whole,
        length-map checked named_of,
        length-append (named_by_runs 0 runs) (flat_map named_by_shard bs),
        length_runs 0 runs,
      )

-- The locators that shards name are all those after the locators of the runs.
pub shards_part : (runs : List Locator) (bs : List BindingValue) (checked : List Checked) → map named_of checked ≡ named_locators runs bs →
    filter (λ c. is_of_shard c.owner) checked ≡ drop (length runs) checked
shards_part runs bs checked same =
    behind_front p n checked
    (of_names (λ o. is_of_shard o ≡ false) (take n checked) (named_by_runs 0 runs) (named_front (named_by_runs 0 runs) (flat_map named_by_shard bs) checked n (length_runs 0 runs) same) (of_runs (λ o. is_of_shard o ≡ false) (λ k. refl) 0 runs))
    ∙ filter_all p (drop n checked) (of_names (λ o. is_of_shard o ≡ true) (drop n checked) (flat_map named_by_shard bs) (along_runs runs bs checked same) (All-named_by_shards (λ o. is_of_shard o ≡ true) bs (λ k d below. refl)))
  where
    p : Checked → Bool
    p c = is_of_shard c.owner

    n : ℕ
    n = length runs

all_named : (P : Named → Type 0) (bs : List BindingValue) → All (λ b. All (λ l. P (record { owner = Shard b.id; locator = l })) b.locators) bs →
    All P (flat_map named_by_shard bs)
all_named P [] each = All-nil P
all_named P (b ∷ bs) each =
    All-append P (named_by_shard b) (flat_map named_by_shard bs)
    (All-map P (λ (l : Locator). record { owner = Shard b.id; locator = l }) b.locators (All-head (λ v. All (λ l. P (record { owner = Shard v.id; locator = l })) v.locators) b bs each))
    (all_named P bs (All-tail (λ v. All (λ l. P (record { owner = Shard v.id; locator = l })) v.locators) b bs each))

-- What holds of each locator of each shard by its name holds of all locators that shards name.
pub of_each_shard : (P : Named → Type 0) (runs : List Locator) (bs : List BindingValue) (checked : List Checked) →
    map named_of checked ≡ named_locators runs bs → All (λ b. All (λ l. P (record { owner = Shard b.id; locator = l })) b.locators) bs →
    All (λ c. P (named_of c)) (filter (λ c. is_of_shard c.owner) checked)
of_each_shard P runs bs checked same each =
    subst (λ (cs : List Checked). All (λ c. P (named_of c)) cs) (sym (shards_part runs bs checked same))
    (All-map-back P named_of (drop (length runs) checked) (subst (All P) (sym (along_runs runs bs checked same)) (all_named P bs each)))

-- ---- what the code has written

abbrev pub line_of : (Checked → List ℕ) → ℕ × Checked → List ℕ
line_of after p = numbered_line after p.0 p.1

module _ (bindings : List BindingValue) (i : ℕ) (b : BindingValue) (below : i < length bindings) (is : b ≡ get_or bindings i b) where
  -- the shards that are left, by the next one
  pub drop_at : drop i bindings ≡ b ∷ drop (i + 1) bindings
  drop_at =
      drop-cons bindings i b below
      ∙ ap (λ (v : BindingValue). v ∷ drop (suc i) bindings) (sym is)
      ∙ ap (λ n. b ∷ drop n bindings) (let e : suc i ≡ i + 1 = omega arith in e)

  -- Locators along the shards from number `i` on are along `b` and the shards after it.
  pub along_at : (rest : List Checked) → AreAlong (drop i bindings) rest → AreAlong (b ∷ drop (i + 1) bindings) rest
  along_at rest same = subst (λ (bs : List BindingValue). AreAlong bs rest) drop_at same

  -- Of these locators, those after the locators of `b` are along the shards from number `i + 1` on.
  pub along_more : (rest behind : List Checked) → AreAlong (drop i bindings) rest →
      behind ≡ drop (length b.locators) rest → AreAlong (drop (i + 1) bindings) behind
  along_more rest behind same back =
      subst (λ (cs : List Checked). AreAlong (drop (i + 1) bindings) cs) (sym back)
      (along_behind b (drop (i + 1) bindings) rest (along_at rest same))

  -- one more shard
  pub shard_more : (after : Checked → List ℕ) (rest own behind : List Checked) (old mid new : List ℕ) → own ≡ take (length b.locators) rest →
      behind ≡ drop (length b.locators) rest →
      mid ++ lines_along after (drop i bindings) rest ≡ old → new ≡ mid ++ numbered_lines after own →
      new ++ lines_along after (drop (i + 1) bindings) behind ≡ old
  shard_more after rest own behind old mid new front back so_far grown =
      let bs = drop (i + 1) bindings in
      ap (λ (u : List ℕ). u ++ lines_along after bs behind) grown
      ∙ append_assoc mid (numbered_lines after own) (lines_along after bs behind)
      ∙ ap (λ (us : List Checked). mid ++ (numbered_lines after us ++ lines_along after bs behind)) front
      ∙ ap (λ (us : List Checked). mid ++ (numbered_lines after (take (length b.locators) rest) ++ lines_along after bs us)) back
      ∙ ap (λ (vs : List BindingValue). mid ++ lines_along after vs rest) (sym drop_at)
      ∙ so_far

-- all shards
pub shards_all : (after : Checked → List ℕ) (bindings : List BindingValue) (checked rest : List Checked) (i : ℕ) (old mid : List ℕ) → Rising bindings →
    AreAlong bindings checked → length bindings ≤ i →
    mid ++ lines_along after (drop i bindings) rest ≡ old ++ lines_along after bindings checked →
    mid ≡ old ++ flat_map (λ b. shard_lines after checked b.id) bindings
shards_all after bindings checked rest i old mid rising same end so_far =
    sym (append-nil mid)
    ∙ ap (λ (bs : List BindingValue). mid ++ lines_along after bs rest) (sym (drop_of_length-le bindings end))
    ∙ so_far
    ∙ ap (λ (u : List ℕ). old ++ u) (lines_are after bindings checked rising same)

-- no more runs are hidden than there are
pub hidden_few : (runs : List Locator) (bs : List BindingValue) (checked : List Checked) (p : Status → Bool) (q : Owner → Bool) →
    map named_of checked ≡ named_locators runs bs → ((id : ShardId) → q (Shard id) ≡ false) →
    count_by (λ (c : Checked). p c.status && q c.owner) checked ≤ length runs
hidden_few runs bs checked p q same none =
    let n = length runs in
    let r : Checked → Bool = λ c. p c.status && q c.owner in
    let part : length (filter r checked) ≡ length (filter r (take n checked)) =
    ap (λ (us : List Checked). length us) (in_front r n checked (All-weaker (λ c. q c.owner ≡ false) (λ c. r c ≡ false) (λ c h. ap (λ b. p c.status && b) h ∙ and-false (p c.status)) (drop n checked) (of_names (λ o. q o ≡ false) (drop n checked) (flat_map named_by_shard bs) (along_runs runs bs checked same) (All-named_by_shards (λ o. q o ≡ false) bs (λ k d below. none (get_or bs k d).id))))) in
    omega (
      arith,
      part,
      length-filter r checked,
      length-filter r (take n checked),
      count_by-le-length r (take n checked),
      length-take-le n checked (runs_fit runs bs checked same),
    )
