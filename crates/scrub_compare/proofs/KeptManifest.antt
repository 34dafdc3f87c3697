-- The manifest that a reset leaves is that of the earlier image, but that fewer runs may be hidden and last words may rise.
use Rattle.std.proofs.Common.{◌≡◌, ◌<◌, ◌≤◌, ◌+◌, ◌==◌, ◌&&◌, ◌++◌, ◌∷◌, [], ℕ, suc, Bool, true, false, not, nat_lt, List, Option, Some, None, MatchOption, codes, length, get_or, map, append-nil, append_assoc, arith, refl, sym, ◌∙◌, ap, subst, inl, inr, option_map}
use Rattle.std.specs.List.{All, AllPairs, AllZip, Contains, enumerate_from, filter, flat_map, slice_get}
use Rattle.std.proofs.lemmas.Bool.{and_parts, eqb-true, ltb-false}
use Rattle.std.proofs.lemmas.Grind.{flat_map-append}
use Rattle.std.proofs.lemmas.List.{get_or-map, length-append, length-map}
use Rattle.std.proofs.lemmas.List.Elements.{All-contains, All-contains_itself}
use Rattle.std.proofs.lemmas.List.Folds.{flat_map-map}
use Rattle.std.proofs.Math.Path.{fun_ext}
use Rattle.std.proofs.lemmas.Option.{none-some, same_Some}
use Rattle.list_facts.proofs.Bools.{false_from_not}
use Rattle.list_facts.proofs.Elements.{Contains-from_map}
use Rattle.list_facts.proofs.Zips.{AllZip-append}
use Rattle.scrub_disk.specs.Image.{Image}
use Rattle.scrub_super.specs.Chosen.{Choice}
use Rattle.scrub_scan.specs.declared.standing.Standing.{Standing}
use Rattle.scrub_super.specs.Contents.{Contents}
use Rattle.scrub_super.specs.Plan.{PlanValue, plan_of}
use Rattle.scrub_super.specs.steps.PlanParts.{IsPlanBy, IsPlanWithout}
use Rattle.scrub_super.proofs.PlanParts.{plan_parts}
use Rattle.scrub_run.specs.declared.shard_id.ShardId.{ShardId}
use Rattle.scrub_run.specs.Entry.{IsBelow}
use Rattle.scrub_merge.specs.Binding.{BindingValue}
use Rattle.scrub_check.specs.declared.statuses.checked.Checked.{Checked}
use Rattle.scrub_check.specs.Checked.{named_of}
use Rattle.scrub_check.specs.Named.{named_by_shard}
use Rattle.scrub_found.specs.Resets.{IsScrubbedBut}
use Rattle.scrub_found.specs.Scrubbed.{Scrubbed}
use Rattle.scrub_listings.specs.Manifest.{after_status_in, hidden_runs, lost_run_count, manifest_text, numbered_line, of_shards, retired_line, runs_line, shard_lines, text_by, total_line}
use Rattle.scrub_listings.proofs.ShardLines.{along_runs, shards_part}
use Rattle.scrub_reclaim.specs.Copy.{IsSameButRisen, IsSameOrRisen}
use Rattle.scrub_reclaim.proofs.MoveLines.{flat_parts}
use Rattle.scrub_reclaim.proofs.ResetCopies.{reset}
use Rattle.scrub_compare.specs.Compare.{AreCompared, Compared, HasBinding, are_alike, both_of, generation_of, lost_line, new_line, owned_by, row_in, shard_change}
use Rattle.scrub_compare.specs.Laws.{IsSameButMore}
use Rattle.scrub_compare.proofs.BoundIds.{one_rising}
use Rattle.scrub_compare.proofs.Kept.{alike_at, lines_of, same_length, zip_lines}
use Rattle.scrub_compare.proofs.RunsRead.{no_run_lost}
use Rattle.scrub_compare.proofs.Safe.{HasNoLine, all_none, passed, same_retired}
use Rattle.scrub_compare.proofs.Totals.{each_size, owned_size, owner_bound, owns, shards_size, totals_alike}

-- ---- lists of parts

zip_parts : {X Y I : Type 0} (R : X → Y → Type 0) (f : I → List X) (g : I → List Y) (is : List I) → All (λ (i : I). AllZip R (f i) (g i)) is →
    AllZip R (flat_map f is) (flat_map g is)
zip_parts R f g [] all = tt
zip_parts {I = I} R f g (i ∷ is) all =
    AllZip-append R (f i) (flat_map f is) (g i) (flat_map g is) (all 0 i (omega arith))
    (zip_parts R f g is (λ k d below. all (suc k) d (omega (arith, below))))

joined_parts : (a b t : List ℕ) (ps : List (List ℕ)) → a ++ b ++ flat_map (λ part. part) ps ++ t ≡ flat_map (λ part. part) (a ∷ b ∷ ps ++ t ∷ [])
joined_parts a b t ps =
    append_assoc (a ++ b) (flat_map (λ (part : List ℕ). part) ps) t
    ∙ append_assoc a b (flat_map (λ (part : List ℕ). part) ps ++ t)
    ∙ ap (λ (u : List ℕ). a ++ (b ++ (flat_map (λ (part : List ℕ). part) ps ++ u))) (sym (append-nil t))
    ∙ ap (λ (u : List ℕ). a ++ (b ++ u)) (sym (flat_map-append (λ (part : List ℕ). part) ps (t ∷ [])))

-- ---- one disk

module _ (resets : List ℕ) (image : Image) (s : Scrubbed) (x : IsScrubbedBut resets image s) where
  along : map named_of (of_shards s.checked) ≡ flat_map named_by_shard s.bindings
  along =
      ap (map named_of) (shards_part s.plan.runs s.bindings s.checked x.checked.same)
      ∙ along_runs s.plan.runs s.bindings s.checked x.checked.same

  rising : AllPairs (λ b c. IsBelow b.id c.id) s.bindings
  rising = x.bindings.rising

  abbrev size : ShardId → ℕ
  size id = length (owned_by id (of_shards s.checked))

  -- a shard is bound exactly if it names a locator
  bound_some : (id : ShardId) → HasBinding s.bindings id → 0 < size id
  bound_some id there = by (Contains-from_map (λ (b : BindingValue). b.id) s.bindings id there)
    where
      by : (b : BindingValue) × Contains s.bindings b × (b.id ≡ id) → 0 < size id
      by (b, there, is) =
          let own : length (owned_by b.id (of_shards s.checked)) ≡ length b.locators =
          All-contains (λ (v : BindingValue). length (owned_by v.id (of_shards s.checked)) ≡ length v.locators) s.bindings b (each_size (of_shards s.checked) s.bindings along rising) there in
          let some : 0 < length b.locators = All-contains (λ (v : BindingValue). 0 < length v.locators) s.bindings b x.bindings.bound there in
          let at : size b.id ≡ size id = ap size is in
          omega (arith, own, some, at)

  pub some_bound : (id : ShardId) → 0 < size id → HasBinding s.bindings id
  some_bound id some =
      let same : size id ≡ length (filter (owns id) (flat_map named_by_shard s.bindings)) = owned_size (of_shards s.checked) s.bindings along id in
      owner_bound s.bindings id (omega (arith, some, same))

  -- the identifiers of the bindings rise
  ids_rise : AllPairs IsBelow (map (λ b. b.id) s.bindings)
  ids_rise i j d order below =
      let long : length (map (λ (b : BindingValue). b.id) s.bindings) ≡ length s.bindings = length-map s.bindings (λ (b : BindingValue). b.id) in
      let e : BindingValue = record { id = d; locators = []; run = 0; doubtful = false } in
      subst (λ (a : ShardId). IsBelow a (get_or (map (λ (b : BindingValue). b.id) s.bindings) j d)) (sym (get_or-map (λ (b : BindingValue). b.id) s.bindings i e d (omega (arith, order, below, long))))
      (subst (λ (a : ShardId). IsBelow (get_or s.bindings i e).id a) (sym (get_or-map (λ (b : BindingValue). b.id) s.bindings j e d (omega (arith, below, long))))
      (rising i j e order (omega (arith, below, long))))

  -- the lines of all shards by their identifiers
  lines_by_ids : (loose : List Standing) (ids : List ShardId) → map (λ b. b.id) s.bindings ≡ ids →
      flat_map (λ b. shard_lines (after_status_in s.all loose) (of_shards s.checked) b.id) s.bindings
      ≡ flat_map (λ part. part) (flat_map (λ id. lines_of s loose 0 (owned_by id (of_shards s.checked))) ids)
  lines_by_ids loose ids same =
      sym (flat_map-map (shard_lines (after_status_in s.all loose) (of_shards s.checked)) (λ (b : BindingValue). b.id) s.bindings)
      ∙ ap (flat_map (shard_lines (after_status_in s.all loose) (of_shards s.checked))) same
      ∙ ap (λ (lines : ShardId → List ℕ). flat_map lines ids)
      (fun_ext (λ id. sym (flat_map-map (λ (part : List ℕ). part) (λ (p : ℕ × Checked). numbered_line (after_status_in s.all loose) p.0 p.1) (enumerate_from 0 (owned_by id (of_shards s.checked))))))
      ∙ sym (flat_parts (λ (part : List ℕ). part) (λ (id : ShardId). lines_of s loose 0 (owned_by id (of_shards s.checked))) ids)

-- a superblock counts where a generation is known
has_superblock : (choice : Choice) (plan : PlanValue) (n : ℕ) → plan ≡ plan_of choice → generation_of choice ≡ Some n → plan.has_superblock ≡ true
has_superblock choice plan n is some = by choice.superblock (plan_parts choice plan is).by some
  where
    by : (o : Option Contents) → MatchOption o (IsPlanWithout plan choice.geometry) (IsPlanBy plan) → option_map (λ c. c.generation) o ≡ Some n →
        plan.has_superblock ≡ true
    by None without e = absurd (none-some n e)
    by (Some c) is e = is.has

-- ---- two disks

-- on two disks, each with its loose frames, a superblock counts, the same extents are retired, no run is lost, no more are
-- hidden, and the same shards are bound, whose lines are the same but for last words that rose
pub record AreKept (s t : Scrubbed) (loose loose_now : List Standing) : Type 0 where
  pub has : s.plan.has_superblock ≡ true
  pub has_now : t.plan.has_superblock ≡ true
  pub retired : t.plan.retired ≡ s.plan.retired
  pub read : lost_run_count s ≡ 0
  pub read_now : lost_run_count t ≡ 0
  pub fewer : hidden_runs t ≤ hidden_runs s
  pub ids : map (λ b. b.id) s.bindings ≡ map (λ b. b.id) t.bindings
  pub sizes : (id : ShardId) → HasBinding s.bindings id →
      length (owned_by id (of_shards s.checked)) ≡ length (owned_by id (of_shards t.checked))
  pub alike : (id : ShardId) → HasBinding s.bindings id → (n : ℕ) (c d : Checked) → slice_get (owned_by id (of_shards s.checked)) n ≡ Some c →
      slice_get (owned_by id (of_shards t.checked)) n ≡ Some d → are_alike (row_in s loose n c) (row_in t loose_now n d) ≡ true

-- so their manifests are
module _ (resets others : List ℕ) (image other : Image) (s t : Scrubbed) (loose loose_now : List Standing) (x : IsScrubbedBut resets image s)
    (y : IsScrubbedBut others other t) (k : AreKept s t loose loose_now) where
  abbrev ids : List ShardId
  ids = map (λ b. b.id) s.bindings

  abbrev parts : List (List ℕ)
  parts = flat_map (λ id. lines_of s loose 0 (owned_by id (of_shards s.checked))) ids

  abbrev parts_now : List (List ℕ)
  parts_now = flat_map (λ id. lines_of t loose_now 0 (owned_by id (of_shards t.checked))) ids

  zipped : AllZip IsSameOrRisen parts parts_now
  zipped =
      zip_parts IsSameOrRisen (λ id. lines_of s loose 0 (owned_by id (of_shards s.checked))) (λ id. lines_of t loose_now 0 (owned_by id (of_shards t.checked))) ids
      (λ i d below.
      let id : ShardId = get_or ids i d in
      let there : Contains ids id = All-contains_itself ids i d below in
      zip_lines s t loose loose_now 0 (owned_by id (of_shards s.checked)) (owned_by id (of_shards t.checked)) (k.sizes id there)
      (λ n v w was is. subst (λ (m : ℕ). are_alike (row_in s loose m v) (row_in t loose_now m w) ≡ true) (let e : n ≡ 0 + n = omega arith in e) (k.alike id there n v w was is)))

  bindings_count : length t.bindings ≡ length s.bindings
  bindings_count =
      let long : length (map (λ (b : BindingValue). b.id) s.bindings) ≡ length (map (λ (b : BindingValue). b.id) t.bindings) = ap (λ (is : List ShardId). length is) k.ids in
      omega (arith, long, length-map s.bindings (λ (b : BindingValue). b.id), length-map t.bindings (λ (b : BindingValue). b.id))

  locators_count : length (of_shards t.checked) ≡ length (of_shards s.checked)
  locators_count =
      sym
      (shards_size (of_shards s.checked) s.bindings (along resets image s x)
      ∙ totals_alike (size resets image s x) s.bindings t.bindings k.ids
      (each_size (of_shards s.checked) s.bindings (along resets image s x) (rising resets image s x))
      (λ i d below. k.sizes (get_or t.bindings i d).id (among i d below) ∙ each_size (of_shards t.checked) t.bindings (along others other t y) (rising others other t y) i d below)
      ∙ sym (shards_size (of_shards t.checked) t.bindings (along others other t y)))
    where
      among : (i : ℕ) (d : BindingValue) → i < length t.bindings → HasBinding s.bindings (get_or t.bindings i d).id
      among i d below =
          subst (λ (is : List ShardId). Contains is (get_or t.bindings i d).id) (sym k.ids)
          (i, omega (arith, below, length-map t.bindings (λ (b : BindingValue). b.id)), get_or-map (λ (b : BindingValue). b.id) t.bindings i d (get_or t.bindings i d).id below)

  -- The manifest of `t` is that of `s`, but for last words that rose and fewer hidden runs.
  pub kept_text : IsSameButMore (manifest_text s loose) (manifest_text t loose_now)
  kept_text = record {
    retired = s.plan.retired;
    hidden = hidden_runs s;
    hidden_now = hidden_runs t;
    shards = length s.bindings;
    locators = length (of_shards s.checked);
    parts = parts;
    others = parts_now;
    fewer = k.fewer;
    each = zipped;
    a_is =
        ap (λ (b : Bool). text_by (after_status_in s.all loose) b s.plan.retired (lost_run_count s) (hidden_runs s) s.bindings (of_shards s.checked)) k.has
        ∙ ap (λ (u : List ℕ). retired_line s.plan.retired ++ runs_line (lost_run_count s) (hidden_runs s) ++ u ++ total_line (length s.bindings) (length (of_shards s.checked))) (lines_by_ids resets image s x loose ids refl)
        ∙ ap (λ (n : ℕ). retired_line s.plan.retired ++ runs_line n (hidden_runs s) ++ flat_map (λ part. part) parts ++ total_line (length s.bindings) (length (of_shards s.checked))) k.read;
    b_is =
        ap (λ (b : Bool). text_by (after_status_in t.all loose_now) b t.plan.retired (lost_run_count t) (hidden_runs t) t.bindings (of_shards t.checked)) k.has_now
        ∙ ap (λ (u : List ℕ). retired_line t.plan.retired ++ runs_line (lost_run_count t) (hidden_runs t) ++ u ++ total_line (length t.bindings) (length (of_shards t.checked))) (lines_by_ids others other t y loose_now ids (sym k.ids))
        ∙ (λ i. retired_line (k.retired i) ++ runs_line (k.read_now i) (hidden_runs t) ++ flat_map (λ part. part) parts_now ++ total_line (bindings_count i) (locators_count i));
  }

  -- Without a change of hidden runs it is that but for last words that rose.
  pub risen_text : hidden_runs t ≡ hidden_runs s → IsSameButRisen (manifest_text s loose) (manifest_text t loose_now)
  unfolding kept_text
  risen_text same = record {
    parts = all_parts parts;
    others = all_parts parts_now;
    a_is = kept_text.a_is ∙ joined parts;
    b_is =
        kept_text.b_is
        ∙ ap (λ (n : ℕ). retired_line s.plan.retired ++ runs_line 0 n ++ flat_map (λ part. part) parts_now ++ last) same
        ∙ joined parts_now;
    each = (inl refl, (inl refl, AllZip-append IsSameOrRisen parts (last ∷ []) parts_now (last ∷ []) zipped (inl refl, tt)));
  }
    where
      last : List ℕ
      last = total_line (length s.bindings) (length (of_shards s.checked))

      all_parts : List (List ℕ) → List (List ℕ)
      all_parts ps = retired_line s.plan.retired ∷ runs_line 0 (hidden_runs s) ∷ ps ++ last ∷ []

      joined : (ps : List (List ℕ)) →
          retired_line s.plan.retired ++ runs_line 0 (hidden_runs s) ++ flat_map (λ part. part) ps ++ last ≡ flat_map (λ part. part) (all_parts ps)
      joined ps = joined_parts (retired_line s.plan.retired) (runs_line 0 (hidden_runs s)) last ps

-- ---- what is safe

module _ (resets : List ℕ) (before after : Image) (c : Compared) (are : AreCompared resets before after c) (none : HasNoLine resets c) where
  abbrev shards : List Checked
  shards = of_shards c.before.checked

  abbrev shards_now : List Checked
  shards_now = of_shards c.after_resets.checked

  counts : (lost_run_count c.after_resets ≡ lost_run_count c.before) × (hidden_runs c.after_resets ≤ hidden_runs c.before)
  counts =
      let word = lost_line (runs_line (lost_run_count c.before) (hidden_runs c.before)) in
      let both = passed ((lost_run_count c.after_resets == lost_run_count c.before) && not (nat_lt (hidden_runs c.before) (hidden_runs c.after_resets))) word (new_line (runs_line (lost_run_count c.after_resets) (hidden_runs c.after_resets))) (omega (arith, length-append (codes "lost ") (runs_line (lost_run_count c.before) (hidden_runs c.before)))) none.runs in
      let parts = and_parts (lost_run_count c.after_resets == lost_run_count c.before) (not (nat_lt (hidden_runs c.before) (hidden_runs c.after_resets))) both in (
        eqb-true (lost_run_count c.after_resets) (lost_run_count c.before) parts.0,
        ltb-false (hidden_runs c.before) (hidden_runs c.after_resets) (false_from_not (nat_lt (hidden_runs c.before) (hidden_runs c.after_resets)) parts.1),
      )

  unchanged : (id : ShardId) → Contains c.ids id → shard_change (row_in c.before c.loose.frames) (row_in c.after_resets c.loose_now.frames) (owned_by id shards) (owned_by id shards_now) ≡ []
  unchanged id there =
      All-contains (λ (i : ShardId). shard_change (row_in c.before c.loose.frames) (row_in c.after_resets c.loose_now.frames) (owned_by i shards) (owned_by i shards_now) ≡ []) c.ids id
      (all_none (λ (i : ShardId). shard_change (row_in c.before c.loose.frames) (row_in c.after_resets c.loose_now.frames) (owned_by i shards) (owned_by i shards_now)) c.ids none.shards) there

  sizes_same : (id : ShardId) → Contains c.ids id → size [] before c.before are.scrubbed_before id ≡ size resets after c.after_resets are.scrubbed_after_resets id
  sizes_same id there = same_length (row_in c.before c.loose.frames) (row_in c.after_resets c.loose_now.frames) (owned_by id shards) (owned_by id shards_now) (unchanged id there)

  -- the same shards are bound
  old_ids : map (λ b. b.id) c.before.bindings ≡ c.ids
  old_ids =
      one_rising (map (λ b. b.id) c.before.bindings) c.ids (ids_rise [] before c.before are.scrubbed_before) are.ids.rising
      (λ id there. (are.ids.exact id).1 (inl there))
      (λ id there. elim ((are.ids.exact id).0 there) [
        | inl bound ↦ bound
        | inr bound ↦ some_bound [] before c.before are.scrubbed_before id (omega (arith, sizes_same id there, bound_some resets after c.after_resets are.scrubbed_after_resets id bound))
      ])

  new_ids : map (λ b. b.id) c.after_resets.bindings ≡ c.ids
  new_ids =
      one_rising (map (λ b. b.id) c.after_resets.bindings) c.ids (ids_rise resets after c.after_resets are.scrubbed_after_resets) are.ids.rising
      (λ id there. (are.ids.exact id).1 (inr there))
      (λ id there. elim ((are.ids.exact id).0 there) [
        | inl bound ↦ some_bound resets after c.after_resets are.scrubbed_after_resets id (omega (arith, sizes_same id there, bound_some [] before c.before are.scrubbed_before id bound))
        | inr bound ↦ bound
      ])

  -- both have a superblock
  both_there : (generation_of c.before.choice ≡ Some none.old) × (generation_of c.after.choice ≡ Some none.new)
  both_there = by (generation_of c.before.choice) (generation_of c.after.choice) none.count
    where
      by : (o p : Option ℕ) → both_of o p ≡ Some (none.old, none.new) → (o ≡ Some none.old) × (p ≡ Some none.new)
      by None p e = absurd (none-some (none.old, none.new) e)
      by (Some a) None e = absurd (none-some (none.old, none.new) e)
      by (Some a) (Some b) e =
          let pair : (a, b) ≡ (none.old, none.new) = same_Some (a, b) (none.old, none.new) e in
          (ap (λ (q : ℕ × ℕ). Some q.0) pair, ap (λ (q : ℕ × ℕ). Some q.1) pair)

  has_before : c.before.plan.has_superblock ≡ true
  has_before = has_superblock c.before.choice c.before.plan none.old are.scrubbed_before.plan both_there.0

  has_kept : c.after_resets.plan.has_superblock ≡ true
  has_kept =
      (reset resets after c.after c.after_resets are.scrubbed_after are.scrubbed_after_resets).has
      ∙ has_superblock c.after.choice c.after.plan none.new are.scrubbed_after.plan both_there.1

  -- Without a line of `compare` the superblock, retired extents, runs and shards of the manifest are kept.
  pub kept : AreKept c.before c.after_resets c.loose.frames c.loose_now.frames
  kept = record {
    has = has_before;
    has_now = has_kept;
    retired = same_retired resets c none;
    read = no_run_lost resets before after c are none;
    read_now = counts.0 ∙ no_run_lost resets before after c are none;
    fewer = counts.1;
    ids = old_ids ∙ sym new_ids;
    sizes = λ id bound. sizes_same id (among id bound);
    alike = λ id bound. alike_at (row_in c.before c.loose.frames) (row_in c.after_resets c.loose_now.frames) (owned_by id shards) (owned_by id shards_now) (unchanged id (among id bound));
  }
    where
      among : (id : ShardId) → HasBinding c.before.bindings id → Contains c.ids id
      among id bound = (are.ids.exact id).1 (inl bound)
