-- What is named on a disk is the same after a reset of extents that no named locator points into.
use Rattle.std.proofs.Common.{◌≡◌, ◌≢◌, ◌⊎◌, inl, inr, ◌==◌, ◌&&◌, ◌-◌, ℕ, zero, suc, map, if◌then◌else◌, Bool, is_none, true, false, Option, Some, None, List, [], ◌∷◌, ◌+◌, ◌≤◌, length, get_or, arith, refl, sym, ◌∙◌, ap, subst}
use Rattle.std.proofs.Math.Path.{ap₂, fun_ext}
use Rattle.std.specs.Bool.{⊤}
use Rattle.std.specs.List.{All, AllZip, Any, Contains, count_by, enumerate_from, list_any, slice_get}
use Rattle.std.specs.Option.{option_map}
use Rattle.std.proofs.lemmas.Bool.{eq-eqb, eqb-true, false≢true}
use Rattle.std.proofs.lemmas.List.Folds.{Any-from_list_any, list_any_at}
use Rattle.std.proofs.lemmas.Option.{same_Some, slice_get-get_or, slice_get-map, slice_get_within}
use Rattle.std.proofs.lemmas.List.Elements.{All-contains, All-contains_itself, All-filter}
use Rattle.scrub_disk.specs.declared.geometry.Geometry.{Geometry}
use Rattle.scrub_disk.specs.Image.{Image}
use Rattle.scrub_frame.specs.declared.locator.Locator.{Locator}
use Rattle.scrub_super.specs.Chosen.{Choice}
use Rattle.scrub_super.specs.Plan.{PlanValue, plan_of, pointer_of}
use Rattle.scrub_super.specs.Reset.{IsReset, pointer_reset, pointers_reset}
use Rattle.scrub_super.proofs.Laws.{one_choice_lem}
use Rattle.scrub_scan.specs.declared.standing.Standing.{Standing}
use Rattle.scrub_run.specs.Run.{run_bytes}
use Rattle.scrub_merge.specs.Binding.{BindingValue}
use Rattle.scrub_check.specs.declared.statuses.checked.Checked.{Checked}
use Rattle.scrub_check.specs.Candidates.{CandidateValue}
use Rattle.scrub_check.specs.Checked.{is_hidden}
use Rattle.scrub_check.specs.ChunkForms.{form_at}
use Rattle.scrub_check.specs.Runs.{ReadRunsValue}
use Rattle.scrub_check.specs.Spares.{spares_by, spares_of}
use Rattle.scrub_loose.specs.Loose.{AreLoose, IsSearched, LooseValue, best_of, loose_of}
use Rattle.scrub_report.specs.Answer.{AnswerValue, IsScrubAnswer}
use Rattle.scrub_report.specs.Index.{index_entries}
use Rattle.scrub_found.specs.Resets.{IsPlanBut, IsScrubbedBut}
use Rattle.scrub_found.specs.Scrubbed.{Scrubbed, IsScrubbed}
use Rattle.scrub_found.proofs.OneReader.{one_plan}
use Rattle.scrub_found.proofs.OneScrub.{one_scrub}
use Rattle.scrub_listings.specs.Manifest.{IsManifest, IsManifestBut, after_status_in, hidden_runs, is_of_read_run, is_of_shard, is_whole, is_whole_by, lost_run_count, manifest_text, of_shards, text_by}
use Rattle.scrub_reclaim.specs.Copy.{IsSameButRisen, rank}
use Rattle.scrub_reclaim.specs.Doubts.{Acceptance}
use Rattle.scrub_reclaim.specs.Reclaimable.{IsMoved, MoveValue, reclaimed}
use Rattle.scrub_reclaim.specs.Reset.{IsAfterReset, IsForeseen, IsListedWithoutMoves, IsPlanAfterReset, IsPlanIn, IsReclaimed, NameTheSame}
use Rattle.scrub_reclaim.proofs.BestCopies.{as_good, first_of, loose_among, none_in_nil}
use Rattle.scrub_reclaim.proofs.CarriedNames.{named_alike}
use Rattle.scrub_reclaim.proofs.Clear.{safe_to_reclaim}
use Rattle.scrub_reclaim.proofs.LooseFrames.{carried_over}
use Rattle.scrub_reclaim.proofs.ResetForms.{IsAlikeIn, same_form, same_frames, text_agrees}
use Rattle.scrub_reclaim.proofs.RisenTexts.{manifests_rise}
use Rattle.scrub_reclaim.proofs.SameExtents.{AreAlike, HaveTheSameForms, IsTheSame, carries, how_many, in_disk, no_pointer, planned_there, pointer_behind, same_numbers, same_planned, scans_alike}

-- ---- nothing named points into an extent that is reset

-- a named locator into a listed extent would have to be moved
none_into : (image : Image) (accepted : Acceptance) (e : ℕ) (x : IsListedWithoutMoves image accepted e) (c : Checked) →
    Contains x.found.checked c → c.locator.extent ≢ e
none_into image accepted e x c there into = none move (subst (λ (ms : List MoveValue). Contains ms move) x.unmoved is.line)
  where
    none : (m : MoveValue) → Contains [] m → ⊥
    none m (k, below, same) = omega (arith, below)

    is : IsMoved x.found.checked x.candidate c
    is =
        (All-contains (λ (d : Checked). d.locator.extent ≡ x.candidate.extent → IsMoved x.found.checked x.candidate d) x.found.checked c (All-contains (λ (a : CandidateValue). All (λ (d : Checked). d.locator.extent ≡ a.extent → IsMoved x.found.checked a d) x.found.checked) (reclaimed accepted x.pages x.loose x.found) x.candidate (safe_to_reclaim image accepted x.pages x.loose x.found x.scrubbed) x.listed) there (into ∙ sym x.extent_is))

    move : MoveValue
    move = record { named = c; bytes = is.chunk.bytes }

-- An image has at most one plan.
pub one_plan_in : (image : Image) (p q : PlanValue) → IsPlanIn image p → IsPlanIn image q → p ≡ q
one_plan_in image p q x y =
    let choice : x.choice ≡ y.choice = one_choice_lem image x.choice y.choice x.chosen y.chosen in
    one_plan y.choice p q (rw choice at x.follows) y.follows

-- What is found on an image follows its plan.
pub plan_in : (image : Image) (s : Scrubbed) → IsScrubbed image s → IsPlanIn image s.plan
plan_in image s x = record { choice = s.choice; chosen = x.choice; follows = x.plan }

pub plan_found : (image : Image) (s : Scrubbed) (p : PlanValue) → IsScrubbed image s → IsPlanIn image p → p ≡ s.plan
plan_found image s p x is = one_plan_in image p s.plan is (plan_in image s x)

-- no named locator points into one of the listed extents
pub none_into_these : (image : Image) (accepted : Acceptance) (extents : List ℕ) (found : Scrubbed) → IsScrubbed image found →
    All (IsListedWithoutMoves image accepted) extents → All (λ (c : Checked). ¬ Contains extents c.locator.extent) found.checked
none_into_these image accepted extents found x listed i d below =
    into (get_or found.checked i d) (All-contains_itself found.checked i d below)
  where
    into : (c : Checked) → Contains found.checked c → Contains extents c.locator.extent → ⊥
    into c there among =
        let one : IsListedWithoutMoves image accepted c.locator.extent =
        All-contains (IsListedWithoutMoves image accepted) extents c.locator.extent listed among in
        none_into image accepted c.locator.extent one c
        (subst (λ (s : Scrubbed). Contains s.checked c) (one_scrub image found one.found x one.scrubbed) there)
        refl

module _ (extents : List ℕ) (before after : Image) (found rest : Scrubbed) (x : IsScrubbed before found) (y : IsScrubbed after rest)
    (r : IsAfterReset extents before after) where
  pub plans_of : IsPlanAfterReset extents found.plan rest.plan
  plans_of =
      subst (λ (p : PlanValue). IsPlanAfterReset extents p rest.plan) (plan_found before found r.old x r.was)
      (subst (λ (q : PlanValue). IsPlanAfterReset extents r.old q) (plan_found after rest r.new y r.is) r.plans)

  pub the_same : (e : ℕ) → ¬ Contains extents e → IsTheSame before after found.plan rest.plan e
  the_same e other = record {
    sizes = r.sizes;
    retired = plans_of.retired;
    pointer = plans_of.pointers e other;
    bytes = λ w is.
        let there = in_disk before found.plan (plan_in before found x) e w is in λ p below. r.bytes e p there.0 there.1 other;
  }

  pub scans : AllZip (IsAlikeIn (λ e. ¬ Contains extents e)) found.all rest.all
  scans =
      scans_alike before after found.plan rest.plan (λ e. ¬ Contains extents e) the_same found.all rest.all
      (same_numbers [] [] before after found rest r.sizes plans_of.retired x y) x.all y.all

  -- A loose frame of another extent stays one.
  pub loose_stays : (v w : LooseValue) → AreLoose [] before found.plan v → AreLoose [] after rest.plan w → (s : Standing) →
      ¬ Contains extents s.extent → Contains v.frames s → Contains w.frames s
  loose_stays v w l m s other there =
      let searched : IsSearched [] found.plan s.extent = ((l.frames s).0 there).searched in
      let in_disk = planned_there [] before found x s.extent searched.in_use in
      let alike : AreAlike before after s.extent = record { sizes = r.sizes; bytes = fun_ext (λ p. r.bytes s.extent p in_disk.0 in_disk.1 other) } in
      carried_over [] [] found.plan rest.plan s alike v w l m
      (λ h. record {
        in_use = subst (λ (ns : List ℕ). Contains ns s.extent) (sym (same_planned [] [] before after found rest r.sizes plans_of.retired x y)) h.in_use;
        stays = h.stays;
      })
      there

-- ---- what is named is the same

module _ (resets others : List ℕ) (before after : Image) (found rest : Scrubbed) (x : IsScrubbedBut resets before found) (y : IsScrubbedBut others after rest)
    (has : rest.plan.has_superblock ≡ found.plan.has_superblock) (runs : rest.plan.runs ≡ found.plan.runs) (retired : rest.plan.retired ≡ found.plan.retired)
    (same : All (λ (c : Checked). IsTheSame before after found.plan rest.plan c.locator.extent) found.checked)
    (forms : HaveTheSameForms found rest) where
  -- Two disks name the same if each named locator points into an extent that is the same on both.
  pub name_the_same : NameTheSame found rest
  name_the_same =
      named_alike resets others before after found rest x y has runs retired
      (λ i d below. carries (get_or found.checked i d).locator (same i d below)) forms

module _ (extents : List ℕ) (before after : Image) (found rest : Scrubbed) (x : IsScrubbed before found) (y : IsScrubbed after rest)
    (r : IsAfterReset extents before after) where
  -- So they do after a reset of extents that no named locator points into.
  pub named_apart : All (λ (c : Checked). ¬ Contains extents c.locator.extent) found.checked → NameTheSame found rest
  named_apart apart =
      let plans = plans_of extents before after found rest x y r in
      name_the_same [] [] before after found rest x y plans.has plans.runs plans.retired
      (λ i d below. the_same extents before after found rest x y r (get_or found.checked i d).locator.extent (apart i d below))
      (λ i d below sound.
      same_form (get_or found.checked i d).locator (λ e. ¬ Contains extents e) found.all rest.all
      (scans extents before after found rest x y r) (apart i d below))

-- the same manifest, if the same follows the status of each named locator
pub same_text : (found rest : Scrubbed) (loose others : List Standing) → NameTheSame found rest →
    All (λ (c : Checked). after_status_in rest.all others c ≡ after_status_in found.all loose c) found.checked →
    manifest_text rest others ≡ manifest_text found loose
same_text found rest loose others same after =
    (λ i. of (same.superblock i) (same.retired i) (same.read i) (same.bindings i) (same.checked i))
    ∙ text_agrees (after_status_in found.all loose) (after_status_in rest.all others) found.plan.has_superblock found.plan.retired (lost_run_count found) (hidden_runs found) found.bindings (of_shards found.checked)
    (All-filter (λ c. is_of_shard c.owner) (λ (c : Checked). after_status_in rest.all others c ≡ after_status_in found.all loose c) found.checked after)
  where
    of : Bool → List ℕ → ReadRunsValue → List BindingValue → List Checked → List ℕ
    of has retired read bindings checked =
        text_by (after_status_in rest.all others) has retired (count_by is_none read.runs) (count_by (λ c. is_hidden c.status && is_of_read_run read.runs c.owner) checked) bindings (of_shards checked)

-- and the same verdict
pub same_verdict : (found rest : Scrubbed) → NameTheSame found rest → is_whole rest ≡ is_whole found
same_verdict found rest same i = of (same.superblock i) (same.read i) (same.checked i)
  where
    of : Bool → ReadRunsValue → List Checked → Bool
    of has read checked =
        is_whole_by has (count_by is_none read.runs) (count_by (λ c. is_hidden c.status && is_of_read_run read.runs c.owner) checked) (of_shards checked)

-- ---- a reset that is foreseen

-- a number is among these, or it isn't
abbrev pub AmongCases : List ℕ → ℕ → Type 0
AmongCases extents e =
    ((list_any (λ n. n == e) extents ≡ true) × Contains extents e) ⊎ ((list_any (λ n. n == e) extents ≡ false) × (¬ Contains extents e))

pub among_cases : (extents : List ℕ) (e : ℕ) → AmongCases extents e
among_cases extents e = by (list_any (λ n. n == e) extents) refl
  where
    by : (b : Bool) → list_any (λ n. n == e) extents ≡ b → AmongCases extents e
    by true is =
        let some : Any (λ (n : ℕ). (n == e) ≡ true) extents = Any-from_list_any (λ n. n == e) extents is in
        inl (is, subst (Contains extents) (eqb-true some.1 e some.4) (some.0, some.2, some.3))
    by false is = inr (is, λ there. false≢true (sym is ∙ list_any_at (λ n. n == e) extents there.0 e there.1 (eq-eqb (get_or extents there.0 e) e there.2)))

-- the pointer of an extent in a plan with resets
reset_pointer : (extents pointers : List ℕ) (k : ℕ) →
    slice_get (pointers_reset extents pointers) k ≡ option_map (λ w. if list_any (λ n. n == k + 1) extents then 0 else w) (slice_get pointers k)
reset_pointer extents pointers k =
    slice_get-map (pointer_reset extents) (enumerate_from 0 pointers) k ∙ ap (option_map (pointer_reset extents))
    (numbered 0 pointers k ∙ ap (λ (n : ℕ). option_map (λ (w : ℕ). (n, w)) (slice_get pointers k)) (let e : 0 + k ≡ k = omega arith in e))
    ∙ joined (slice_get pointers k)
  where
    numbered : (m : ℕ) (ws : List ℕ) (i : ℕ) → slice_get (enumerate_from m ws) i ≡ option_map (λ w. (m + i, w)) (slice_get ws i)
    numbered m [] i = refl
    numbered m (w ∷ ws) zero = ap (λ (n : ℕ). Some (n, w)) (let e : m ≡ m + 0 = omega arith in e)
    numbered m (w ∷ ws) (suc i) = numbered (m + 1) ws i ∙ ap (λ (n : ℕ). option_map (λ v. (n, v)) (slice_get ws i)) (let e : (m + 1) + i ≡ m + suc i = omega arith in e)

    joined : (o : Option ℕ) → option_map (pointer_reset extents) (option_map (λ w. (k, w)) o) ≡ option_map (λ w. if list_any (λ n. n == k + 1) extents then 0 else w) o
    joined None = refl
    joined (Some w) = refl

module _ (extents : List ℕ) (old plan : PlanValue) (r : IsReset old extents plan) where
  -- others keep theirs
  pub kept_pointer : (e : ℕ) → list_any (λ n. n == e) extents ≡ false → pointer_of plan e ≡ pointer_of old e
  kept_pointer zero other = refl
  kept_pointer (suc k) other =
      pointer_behind plan k
      ∙ ap (λ (ws : List ℕ). slice_get ws k) r.pointers
      ∙ reset_pointer extents old.pointers k
      ∙ ap (λ (b : Bool). option_map (λ w. if b then 0 else w) (slice_get old.pointers k))
      (ap (λ (m : ℕ). list_any (λ n. n == m) extents) (let e : k + 1 ≡ suc k = omega arith in e) ∙ other)
      ∙ same (slice_get old.pointers k)
      ∙ sym (pointer_behind old k)
    where
      same : (o : Option ℕ) → option_map (λ w. if false then 0 else w) o ≡ o
      same None = refl
      same (Some w) = refl

  -- and these have 0, if they have one
  pub zero_pointer : (e w : ℕ) → list_any (λ n. n == e) extents ≡ true → pointer_of old e ≡ Some w → pointer_of plan e ≡ Some 0
  zero_pointer zero w among is = absurd (no_pointer old w is)
  zero_pointer (suc k) w among is =
      pointer_behind plan k
      ∙ ap (λ (ws : List ℕ). slice_get ws k) r.pointers
      ∙ reset_pointer extents old.pointers k
      ∙ ap (λ (b : Bool). option_map (λ v. if b then 0 else v) (slice_get old.pointers k))
      (ap (λ (m : ℕ). list_any (λ n. n == m) extents) (let e : k + 1 ≡ suc k = omega arith in e) ∙ among)
      ∙ ap (option_map (λ (v : ℕ). if true then 0 else v)) (sym (pointer_behind old k) ∙ is)

-- no resets are resets too
none_kept : (m : ℕ) (ws : List ℕ) → ws ≡ map (pointer_reset []) (enumerate_from m ws)
none_kept m [] = refl
none_kept m (w ∷ ws) = ap (λ (vs : List ℕ). w ∷ vs) (none_kept (m + 1) ws)

-- A plan under resets is the plan of the choice with the pointers of these extents put to 0; no resets are resets, too.
pub reset_of : (resets : List ℕ) (choice : Choice) (plan : PlanValue) → IsPlanBut resets choice plan →
    (old : PlanValue) × (old ≡ plan_of choice) × IsReset old resets plan
reset_of [] choice plan is = (
  plan,
  is,
  record { planned = refl; geometry = refl; retired = refl; pointers = none_kept 0 plan.pointers; runs = refl; has = refl },
)
reset_of (e ∷ es) choice plan is = is

-- where one of two such lists has a pointer the other has one too
had_pointer : (old new : PlanValue) (e v : ℕ) → length new.pointers ≡ length old.pointers → pointer_of new e ≡ Some v →
    (w : ℕ) × (pointer_of old e ≡ Some w)
had_pointer old new zero v long is = absurd (no_pointer new v is)
had_pointer old new (suc k) v long is = (
  get_or old.pointers k 0,
  pointer_behind old k
      ∙ slice_get-get_or old.pointers k 0 (omega (arith, long, slice_get_within new.pointers k v (sym (pointer_behind new k) ∙ is))),
)

module _ (extents : List ℕ) (before after : Image) (found rest : Scrubbed) (x : IsScrubbedBut extents before found) (y : IsScrubbed after rest)
    (f : IsForeseen extents before after) where
  without : (old : PlanValue) × (old ≡ plan_of found.choice) × IsReset old extents found.plan
  without = reset_of extents found.choice found.plan x.plan

  plan_was : IsPlanIn before without.0
  plan_was = record { choice = found.choice; chosen = x.choice; follows = without.1 }

  was : f.reset.old ≡ without.0
  was = one_plan_in before f.reset.old without.0 f.reset.was plan_was

  is_now : f.reset.new ≡ rest.plan
  is_now = plan_found after rest f.reset.new y f.reset.is

  plans : IsPlanAfterReset extents without.0 rest.plan
  plans =
      subst (λ (p : PlanValue). IsPlanAfterReset extents p rest.plan) was
      (subst (λ (q : PlanValue). IsPlanAfterReset extents f.reset.old q) is_now f.reset.plans)

  long : length f.reset.new.pointers ≡ length f.reset.old.pointers
  long =
      how_many after f.reset.new f.reset.is ∙ ap (λ (g : Geometry). g.extents - 1) f.reset.sizes
      ∙ sym (how_many before f.reset.old f.reset.was)

  foreseen : (e : ℕ) → IsTheSame before after found.plan rest.plan e
  foreseen e = by (among_cases extents e)
    where
      by : AmongCases extents e → IsTheSame before after found.plan rest.plan e
      by (inl (among, there)) =
          let given : pointer_of f.reset.new e ≡ Some 0 = All-contains (λ n. pointer_of f.reset.new n ≡ Some 0) extents e f.are there in
          let had : (w : ℕ) × (pointer_of without.0 e ≡ Some w) =
          subst (λ (p : PlanValue). (w : ℕ) × (pointer_of p e ≡ Some w)) was (had_pointer f.reset.old f.reset.new e 0 long given) in
          let none : pointer_of found.plan e ≡ Some 0 = zero_pointer extents without.0 found.plan without.2 e had.0 among had.1 in
          let now : pointer_of rest.plan e ≡ Some 0 = subst (λ (p : PlanValue). pointer_of p e ≡ Some 0) is_now given in
          record { sizes = f.reset.sizes; retired = plans.retired ∙ sym without.2.retired; pointer = now ∙ sym none; bytes = λ w is p below. absurd (omega (arith, below, same_Some w 0 (sym is ∙ none))) }
      by (inr (other, apart)) =
          let kept : pointer_of found.plan e ≡ pointer_of without.0 e = kept_pointer extents without.0 found.plan without.2 e other in
          record {
            sizes = f.reset.sizes;
            retired = plans.retired ∙ sym without.2.retired;
            pointer = plans.pointers e apart ∙ sym kept;
            bytes = λ w is.
                let there = in_disk before without.0 plan_was e w (sym kept ∙ is) in
                λ p below. f.reset.bytes e p there.0 there.1 apart;
          }

  retired_now : rest.plan.retired ≡ found.plan.retired
  retired_now = plans.retired ∙ sym without.2.retired

  scans_now : AllZip (IsAlikeIn (λ e. ⊤)) found.all rest.all
  scans_now =
      scans_alike before after found.plan rest.plan (λ e. ⊤) (λ e known. foreseen e) found.all rest.all
      (same_numbers extents [] before after found rest f.reset.sizes retired_now x y) x.all y.all

  -- The chunk of a locator has the same form.
  pub form_now : (l : Locator) → form_at rest.all l ≡ form_at found.all l
  form_now l = same_form l (λ e. ⊤) found.all rest.all scans_now tt

  -- The same is named.
  pub named_as_foreseen : NameTheSame found rest
  named_as_foreseen =
      name_the_same extents [] before after found rest x y (plans.has ∙ sym without.2.has) (plans.runs ∙ sym without.2.runs)
      retired_now (λ i d below. foreseen (get_or found.checked i d).locator.extent)
      (λ i d below sound. form_now (get_or found.checked i d).locator)

  -- A loose frame is one after the reset, too: its extent isn't reset.
  loose_now : (v w : LooseValue) → AreLoose extents before found.plan v → AreLoose [] after rest.plan w → (s : Standing) →
      Contains v.frames s → Contains w.frames s
  loose_now v w l m s there =
      let searched : IsSearched extents found.plan s.extent = ((l.frames s).0 there).searched in
      let in_disk = planned_there extents before found x s.extent searched.in_use in
      let alike : AreAlike before after s.extent = record { sizes = f.reset.sizes; bytes = fun_ext (λ p. f.reset.bytes s.extent p in_disk.0 in_disk.1 searched.stays) } in
      carried_over extents [] found.plan rest.plan s alike v w l m
      (λ h. record {
        in_use = subst (λ (ns : List ℕ). Contains ns s.extent) (sym (same_planned extents [] before after found rest f.reset.sizes retired_now x y)) h.in_use;
        stays = λ among. none_in_nil s.extent among;
      })
      there

  spares_now : (c : Checked) → spares_of rest.all c ≡ spares_of found.all c
  spares_now c = ap (λ (ss : List Standing). spares_by ss c) (same_frames found.all rest.all scans_now)

  -- The best copy of a locator is as good as it was foreseen, or better.
  pub best_as_foreseen : (loose others : LooseValue) → AreLoose extents before found.plan loose → AreLoose [] after rest.plan others →
      (c : Checked) → rank (best_of found.all loose.frames c) ≤ rank (best_of rest.all others.frames c)
  best_as_foreseen loose others l m c =
      as_good c found.all rest.all loose.frames others.frames
      (λ some none. some (sym (spares_now c) ∙ none))
      (λ some.
      let one = first_of (loose_of found.all loose.frames c) some in
      (one.0, one.1, loose_now loose others l m one.0 (loose_among c found.all rest.all loose.frames others.frames one.0 one.1).2))

-- The manifest under resets, before a reset that is foreseen, is that of the disk after it, but that words for best copies may have
-- risen, and so is the verdict.
pub as_foreseen : (extents : List ℕ) (before after : Image) (a b : List ℕ) (v w : Bool) → IsForeseen extents before after →
    IsManifestBut extents before a v → IsManifest after b w → IsSameButRisen a b × (v ≡ w)
as_foreseen extents before after a b v w f x y =
    let same : NameTheSame x.found y.found = named_as_foreseen extents before after x.found y.found x.scrubbed y.scrubbed f in (
      subst (λ (t : List ℕ). IsSameButRisen t b) (sym x.text_is)
          (subst (λ (t : List ℕ). IsSameButRisen (manifest_text x.found x.loose.frames) t) (sym y.text_is)
          (manifests_rise x.found y.found x.loose.frames y.loose.frames same
          (λ i d below. best_as_foreseen extents before after x.found y.found x.scrubbed y.scrubbed f x.loose y.loose x.are_loose y.are_loose (get_or x.found.checked i d)))),
      x.verdict ∙ sym (same_verdict x.found y.found same) ∙ sym y.verdict,
    )

-- ---- the law

module _ (accepted : Acceptance) (extents : List ℕ) (before after : Image) where
  -- A reset of extents that are listed without moves leaves all names with their status.
  pub the_same_named : (found rest : Scrubbed) → IsReclaimed accepted extents before after → IsScrubbed before found →
      IsScrubbed after rest → NameTheSame found rest
  the_same_named found rest r x y =
      named_apart extents before after found rest x y r.reset (none_into_these before accepted extents found x r.listed)

  -- It leaves the recovered index, too.
  pub the_same_index : (a b : AnswerValue) → IsReclaimed accepted extents before after → IsScrubAnswer before a →
      IsScrubAnswer after b → a.index ≡ b.index
  the_same_index a b r x y =
      let same = the_same_named x.found y.found r x.scrubbed y.scrubbed in
      x.index
      ∙ ap₂ (λ (checked : List Checked) (bindings : List BindingValue). run_bytes (index_entries checked bindings)) (sym same.checked) (sym same.bindings)
      ∙ sym y.index
