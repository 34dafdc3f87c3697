-- The bindings of a disk's shard map are few enough for one index run: their identifiers differ, and each is in one of at
-- most 32 runs, none of which has more entries than an extent has bytes.
use Rattle.std.proofs.Common.{◌≡◌, ◌<◌, ◌≤◌, ◌^◌, ◌||◌, ℕ, Bool, true, false, Option, Some, None, IfSome, MatchOption, List, [], ◌∷◌, ◌++◌, length, map, zero, suc, arith, refl, sym, ◌∙◌, ap, get_or, inl, inr}
use Rattle.std.specs.Ordering.{nat_cmp, eq_by_cmp, is_eq}
use Rattle.std.specs.Cmp.{IsEquivalence}
use Rattle.std.specs.Cmp.Lexicographic.{slice_cmp}
use Rattle.std.specs.List.{All, AllPairs, Contains, IsDistinct, flat_map, list_any, slice_get}
use Rattle.std.proofs.lemmas.Bool.{or_left, or_right}
use Rattle.std.proofs.lemmas.Cmp.{eq_by_cmp_equiv, nat_list_cmp_total}
use Rattle.std.proofs.lemmas.List.{length-append, length-map}
use Rattle.std.proofs.lemmas.List.Concat.{length-flat_map}
use Rattle.std.proofs.lemmas.List.Elements.{All-contains, All-head, All-tail, recursion_from_All}
use Rattle.std.proofs.lemmas.List.Folds.{list_any-append}
use Rattle.std.proofs.lemmas.List.Sums.{sum_by-le}
use Rattle.std.proofs.lemmas.Map.Made.{length-le_from_is_member}
use Rattle.std.proofs.lemmas.Option.{none-some, same_Some, slice_get-get_or}
use Rattle.byteorder.specs.Endian.{big_bytes}
use Rattle.sha2.specs.Sha256.{sha256}
use Rattle.list_facts.proofs.Elements.{Contains-cases}
use Rattle.scrub_disk.specs.Image.{Image, extent_bytes}
use Rattle.scrub_super.specs.Chosen.{Choice, IsChoice}
use Rattle.scrub_super.specs.Contents.{Contents}
use Rattle.scrub_super.specs.Plan.{PlanValue, plan_of}
use Rattle.scrub_super.specs.steps.PlanParts.{IsPlanBy, IsPlanWithout}
use Rattle.scrub_super.proofs.PlanParts.{plan_parts}
use Rattle.scrub_super.specs.Record.{AreContents}
use Rattle.scrub_super.proofs.NewestRecords.{superblock_fits}
use Rattle.scrub_frame.specs.declared.locator.Locator.{Locator}
use Rattle.scrub_frame.specs.Locator.{locator_bytes}
use Rattle.scrub_run.specs.Entry.{EntryValue, IsBelow}
use Rattle.scrub_run.specs.Run.{IsRun, run_bytes, run_magic}
use Rattle.scrub_run.specs.steps.Parts.{entry_bytes, IsEntry, run_body}
use Rattle.scrub_merge.specs.Binding.{BindingValue, Runs, IsNewestBinding}
use Rattle.scrub_merge.specs.ShardMap.{IsShardMap}
use Rattle.scrub_check.specs.Runs.{AreReadRuns, ReadRunsValue}
use Rattle.scrub_check.specs.Status.{NamesChunk}
use Rattle.scrub_check.proofs.Listed.{as_many}
use Rattle.scrub_found.specs.Resets.{IsPlanBut, IsScrubbedBut}
use Rattle.scrub_found.specs.Scrubbed.{Scrubbed}
use Rattle.scrub_check.proofs.IndexRuns.{read_of, read_runs_are_runs}
use Rattle.scrub_found.proofs.ResetPlans.{plan_before}

-- a binding as an entry, as the index has it
abbrev pub indexed : BindingValue → EntryValue
indexed b = record { id = b.id; locators = b.locators }

-- ---- a run has no more entries than bytes

entries_within : (es : List EntryValue) → length es ≤ length (flat_map entry_bytes es)
entries_within [] = omega arith
entries_within (e ∷ es) =
    let whole = length-append (entry_bytes e) (flat_map entry_bytes es) in
    let first = length-append e.id.0 (length e.locators ∷ flat_map locator_bytes e.locators) in
    omega (arith, whole, first, entries_within es)

-- a part is no longer than the whole
part_within : (a b c d : List ℕ) → length c ≤ length ((a ++ (b ++ c)) ++ d)
part_within a b c d = omega (arith, length-append (a ++ (b ++ c)) d, length-append a (b ++ c), length-append b c)

run_within : (es : List EntryValue) → length es ≤ length (run_bytes es)
run_within es =
    let part : length (flat_map entry_bytes es) ≤ length (run_bytes es) =
    part_within run_magic (big_bytes 4 (length es)) (flat_map entry_bytes es) (sha256 (run_body es)) in
    omega (arith, part, entries_within es)

read_within : (image : Image) (w : ℕ) (l : Locator) (es : List EntryValue) (n : NamesChunk image w l) → IsRun n.payload es →
    length es ≤ 2 ^ 26
read_within image w l es n run =
    let size : length (run_bytes es) ≡ l.length = ap length (sym run.spelled) ∙ n.length in
    let fits : l.length ≤ extent_bytes image.geometry = omega (arith, n.found.can.in_range.in_extent) in
    omega (arith, run_within es, size, fits, image.geometry.extent_fits)

-- ---- the identifiers of all runs

abbrev same_bytes : List ℕ → List ℕ → Bool
same_bytes = eq_by_cmp (slice_cmp nat_cmp)

same_bytes_laws : IsEquivalence same_bytes
same_bytes_laws = eq_by_cmp_equiv nat_list_cmp_total

abbrev ids_of_run : Option (List EntryValue) → List (List ℕ)
ids_of_run None = []
ids_of_run (Some es) = map (λ e. e.id.0) es

abbrev ids_of_runs : Runs → List (List ℕ)
ids_of_runs runs = flat_map ids_of_run runs

abbrev bound_ids : List BindingValue → List (List ℕ)
bound_ids bindings = map (λ b. b.id.0) bindings

id_among : (p : List ℕ → Bool) (es : List EntryValue) (e : EntryValue) → Contains es e → p e.id.0 ≡ true →
    list_any p (map (λ f. f.id.0) es) ≡ true
id_among p [] e there h = absurd (omega (arith, there.1))
id_among p (x ∷ xs) e there h = elim (Contains-cases x xs e there) [
  | inl is ↦ or_left (p x.id.0) (list_any p (map (λ f. f.id.0) xs)) (ap (λ v. p v.id.0) is ∙ h)
  | inr later ↦ or_right (p x.id.0) (list_any p (map (λ f. f.id.0) xs)) (id_among p xs e later h)
]

run_among : (p : List ℕ → Bool) (runs : Runs) (k : ℕ) (r : Option (List EntryValue)) → slice_get runs k ≡ Some r →
    list_any p (ids_of_run r) ≡ true → list_any p (ids_of_runs runs) ≡ true
run_among p [] k r here h = absurd (none-some r here)
run_among p (x ∷ xs) zero r here h =
    list_any-append p (ids_of_run x) (ids_of_runs xs)
    ∙ or_left (list_any p (ids_of_run x)) (list_any p (ids_of_runs xs))
    (ap (λ v. list_any p (ids_of_run v)) (same_Some x r here) ∙ h)
run_among p (x ∷ xs) (suc k) r here h =
    list_any-append p (ids_of_run x) (ids_of_runs xs)
    ∙ or_right (list_any p (ids_of_run x)) (list_any p (ids_of_runs xs)) (run_among p xs k r here h)

bound_among : (p : List ℕ → Bool) (runs : Runs) (bs : List BindingValue) → All (IsNewestBinding runs) bs →
    list_any p (bound_ids bs) ≡ true → list_any p (ids_of_runs runs) ≡ true
bound_among p runs [] newest h = absurd (cc)
bound_among p runs (b ∷ bs) newest h =
    by (p b.id.0) refl (λ later. bound_among p runs bs (All-tail (IsNewestBinding runs) b bs newest) later) h
  where
    is : IsNewestBinding runs b
    is = All-head (IsNewestBinding runs) b bs newest

    by : (here : Bool) → p b.id.0 ≡ here → (list_any p (bound_ids bs) ≡ true → list_any p (ids_of_runs runs) ≡ true) →
        (here || list_any p (bound_ids bs)) ≡ true →
        list_any p (ids_of_runs runs) ≡ true
    by true same later any =
        run_among p runs b.run (Some is.entry.entries) is.entry.is_read
        (id_among p is.entry.entries (record { id = b.id; locators = b.locators }) is.entry.among same)
    by false same later any = later any

-- ---- they differ

apart : (b : BindingValue) (bs : List BindingValue) → All (λ c. IsBelow b.id c.id) bs →
    All (λ y. same_bytes b.id.0 y ≡ false) (bound_ids bs)
apart b [] below k d hk = absurd (omega (arith, hk))
apart b (c ∷ bs) below zero d hk = ap is_eq (All-head (λ v. IsBelow b.id v.id) c bs below)
apart b (c ∷ bs) below (suc k) d hk = apart b bs (All-tail (λ v. IsBelow b.id v.id) c bs below) k d (omega (arith, hk))

distinct : (bs : List BindingValue) → AllPairs (λ b c. IsBelow b.id c.id) bs → IsDistinct same_bytes (bound_ids bs)
unfolding IsDistinct
distinct [] rising = tt
distinct (b ∷ bs) rising = (
  recursion_from_All (λ y. same_bytes b.id.0 y ≡ false) (bound_ids bs)
      (apart b bs (λ k d hk. rising zero (suc k) d (omega arith) (omega (arith, hk)))),
  distinct bs (λ i j d order here. rising (suc i) (suc j) d (omega (arith, order)) (omega (arith, here))),
)

-- ---- the bounds

runs_within : (runs : Runs) →
    ((k : ℕ) (es : List EntryValue) → slice_get runs k ≡ Some (Some es) → length es ≤ 2 ^ 26) →
    All (λ r. length (ids_of_run r) ≤ 2 ^ 26) runs
runs_within runs bound k d hk = by (get_or runs k d) (slice_get-get_or runs k d hk)
  where
    by : (r : Option (List EntryValue)) → slice_get runs k ≡ Some r → length (ids_of_run r) ≤ 2 ^ 26
    by None here = omega arith
    by (Some es) here = omega (arith, bound k es here, length-map es (λ (e : EntryValue). e.id.0))

planned_few : (image : Image) (choice : Choice) (plan : PlanValue) → IsChoice image choice → plan ≡ plan_of choice →
    length plan.runs ≤ 32
planned_few image choice plan chosen is = by choice.superblock (superblock_fits chosen) (plan_parts choice plan is).by
  where
    by : (c : Option Contents) → IfSome c (AreContents image.geometry) →
        MatchOption c (IsPlanWithout plan choice.geometry) (IsPlanBy plan) → length plan.runs ≤ 32
    by None fits planned = omega (arith, ap length planned.runs)
    by (Some c) fits planned = omega (arith, ap length planned.runs, fits.run_count)

-- a plan has few runs
runs_few_by : (resets : List ℕ) (image : Image) (choice : Choice) (plan : PlanValue) → IsChoice image choice → IsPlanBut resets choice plan →
    length plan.runs ≤ 32
runs_few_by resets image choice plan chosen planned =
    let old = plan_before resets choice plan planned in
    let few : length old.0.runs ≤ 32 = planned_few image choice old.0 chosen old.1 in
    omega (arith, few, ap length old.3)

-- The plan of what is found names at most 32 index runs, whichever extents are reset.
pub runs_few : (resets : List ℕ) (image : Image) (s : Scrubbed) → IsScrubbedBut resets image s → length s.plan.runs ≤ 32
runs_few resets image s x = runs_few_by resets image s.choice s.plan x.choice x.plan

-- a run can have as many entries as a map of read runs has bindings, and each of these is an entry
module _ (resets : List ℕ) (image : Image) (choice : Choice) (plan : PlanValue) (read : ReadRunsValue) (bindings : List BindingValue)
    (chosen : IsChoice image choice) (planned : IsPlanBut resets choice plan) (read_are : AreReadRuns image plan read)
    (map_is : IsShardMap read.runs bindings) where
  -- The shard map of the runs that were read has fewer than `2 ^ 32` bindings.
  pub countable_map : length bindings < 2 ^ 32
  countable_map =
      let ids = length-le_from_is_member same_bytes_laws (bound_ids bindings) (ids_of_runs read.runs) (distinct bindings map_is.rising)
      (λ q h. bound_among (same_bytes q) read.runs bindings map_is.newest h) in
      let all =
      sum_by-le (λ (r : Option (List EntryValue)). length (ids_of_run r)) (2 ^ 26) read.runs
      (runs_within read.runs (λ k es here. let found = read_of image plan read read_are k es here in read_within image found.names.pointer found.locator es found.names.chunk found.run)) in
      omega (
        arith,
        ids,
        length-map bindings (λ (b : BindingValue). b.id.0),
        length-flat_map ids_of_run read.runs,
        all,
        as_many image plan read read_are,
        runs_few_by resets image choice plan chosen planned,
      )

  entries_of_map : All (λ b. IsEntry (indexed b)) bindings
  entries_of_map k d hk = entry (get_or bindings k d) (map_is.newest k d hk)
    where
      entry : (b : BindingValue) → IsNewestBinding read.runs b → IsEntry (indexed b)
      entry b is =
          let entries = read_runs_are_runs image plan read read_are b.run is.entry.entries is.entry.is_read in
          All-contains IsEntry is.entry.entries (indexed b) entries.each is.entry.among

  -- each has at most as many locators as an entry can have
  pub locators_fit : All (λ b. length b.locators ≤ 64) bindings
  locators_fit k d hk = (entries_of_map k d hk).1

-- What is found on an image has fewer than `2 ^ 32` bindings, whichever extents are reset.
pub countable : (resets : List ℕ) (image : Image) (s : Scrubbed) → IsScrubbedBut resets image s → length s.bindings < 2 ^ 32
countable resets image s x = countable_map resets image s.choice s.plan s.read s.bindings x.choice x.plan x.read x.bindings

-- each binding is an entry
pub entries_are : (resets : List ℕ) (image : Image) (s : Scrubbed) → IsScrubbedBut resets image s → All (λ b. IsEntry (indexed b)) s.bindings
entries_are resets image s x = entries_of_map resets image s.choice s.plan s.read s.bindings x.choice x.plan x.read x.bindings

-- each has at most as many locators as an entry can have
pub entries_fit : (resets : List ℕ) (image : Image) (s : Scrubbed) → IsScrubbedBut resets image s → All (λ b. length b.locators ≤ 64) s.bindings
entries_fit resets image s x = locators_fit resets image s.choice s.plan s.read s.bindings x.choice x.plan x.read x.bindings
