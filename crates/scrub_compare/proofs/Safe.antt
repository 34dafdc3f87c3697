-- What is safe has no line of any kind.
use Rattle.std.proofs.Common.{◌≡◌, ◌<◌, ◌++◌, ◌∷◌, [], ℕ, Bool, true, false, List, Option, Some, None, length, get_or, codes, arith, refl, sym, ◌∙◌, ap, subst, if◌then◌else◌}
use Rattle.std.specs.List.{All, Contains, enumerate_from, flat_map, slice_get}
use Rattle.std.proofs.lemmas.Bool.{false≢true}
use Rattle.std.proofs.Common.{◌+◌, zero, suc, inl, inr}
use Rattle.std.proofs.lemmas.List.{length-append}
use Rattle.std.proofs.lemmas.Option.{none-some, same_Some}
use Rattle.std.proofs.lemmas.List.Elements.{All-cons}
use Rattle.list_facts.proofs.Slices.{nil_from_no_length}
use Rattle.list_facts.proofs.Elements.{both_nil}
use Rattle.scrub_disk.specs.Image.{Image}
use Rattle.scrub_found.specs.Scrubbed.{Scrubbed, IsScrubbed}
use Rattle.scrub_found.proofs.OneScrub.{one_scrub}
use Rattle.scrub_check.specs.declared.statuses.checked.Checked.{Checked}
use Rattle.scrub_reclaim.proofs.Reset.{among_cases}
use Rattle.std.specs.Str.{bytes_eq}
use Rattle.std.proofs.lemmas.Slice.Eq.{bytes_eq-Decides}
use Rattle.scrub_listings.specs.Locators.{locator_line}
use Rattle.scrub_listings.specs.Manifest.{hidden_runs, lost_run_count, of_shards, retired_line}
use Rattle.scrub_compare.specs.Compare.{Compared, IsComparison, changes, doubts_of_both, extent_lines, generation_line, generations_in, is_reset, is_safe, is_safe_by, lines_in, lost_line, manifest_changes, named_line, named_lines, new_line, retired_change, row_in, runs_change, shard_changes, written_line}
use Rattle.scrub_compare.specs.Laws.{NonePointsInto}

-- ---- nothing

-- what begins with a word isn't nothing
pub some_text : (word rest : List ℕ) → 0 < length word → word ++ rest ≡ [] → ⊥
some_text word rest some none =
    let long : length (word ++ rest) ≡ 0 = ap (λ (u : List ℕ). length u) none in
    omega (arith, long, length-append word rest, some)

-- If what `f` makes of all elements is empty, what it makes of each is empty.
pub all_none : {X Y : Type 0} (f : X → List Y) (xs : List X) → flat_map f xs ≡ [] → All (λ (x : X). f x ≡ []) xs
all_none f [] none = λ i d below. absurd (omega (arith, below))
all_none {X} f (x ∷ xs) none =
    let parts = both_nil (f x) (flat_map f xs) none in
    All-cons (λ (y : X). f y ≡ []) x xs parts.0 (all_none f xs parts.1)

-- a text that is there or not isn't there
pub not_there : (b : Bool) (word rest : List ℕ) → 0 < length word → (if b then word ++ rest else []) ≡ [] → b ≡ false
not_there true word rest some none = absurd (some_text word rest some none)
not_there false word rest some none = refl

-- If a text is left out only where a test passes, and there is no text, the test passed.
pub passed : (b : Bool) (word rest : List ℕ) → 0 < length word → (if b then [] else word ++ rest) ≡ [] → b ≡ true
passed true word rest some none = refl
passed false word rest some none = absurd (some_text word rest some none)

-- ---- no line

-- each kind of lines is empty
pub record HasNoLine (resets : List ℕ) (c : Compared) : Type 0 where
  pub old : ℕ
  pub new : ℕ
  pub count : generations_in c ≡ Some (old, new)
  pub doubts : doubts_of_both c ≡ []
  pub extents : extent_lines resets c.before c.after c.firsts ≡ []
  pub named : named_lines resets c.after.checked ≡ []
  pub retired : retired_change c.before.plan.retired c.after_resets.plan.retired ≡ []
  pub runs : runs_change (lost_run_count c.before) (hidden_runs c.before) (lost_run_count c.after_resets) (hidden_runs c.after_resets) ≡ []
  pub shards : shard_changes (row_in c.before c.loose.frames) (row_in c.after_resets c.loose_now.frames) (of_shards c.before.checked) (of_shards c.after_resets.checked) c.ids ≡ []

-- If the verdict is safe, both superblocks count, and there is no line of any kind.
pub no_line : (resets : List ℕ) (c : Compared) → is_safe resets c ≡ true → HasNoLine resets c
no_line resets c safe = by (generations_in c) refl safe
  where
    by : (o : Option (ℕ × ℕ)) → generations_in c ≡ o → is_safe_by (doubts_of_both c) (changes resets c) o ≡ true → HasNoLine resets c
    by None is none = absurd (false≢true none)
    by (Some both) is empty =
        let all = both_nil (doubts_of_both c ++ generation_line both.0 both.1) (changes resets c) (nil_from_no_length (doubts_of_both c ++ generation_line both.0 both.1 ++ changes resets c) empty) in
        let front = both_nil (doubts_of_both c) (generation_line both.0 both.1) all.0 in
        let lines = both_nil (written_line 0 c.first ++ extent_lines resets c.before c.after c.firsts ++ named_lines resets c.after.checked) (manifest_changes c.before c.after_resets c.loose.frames c.loose_now.frames c.ids) all.1 in
        let more = both_nil (written_line 0 c.first ++ extent_lines resets c.before c.after c.firsts) (named_lines resets c.after.checked) lines.0 in
        let first = both_nil (written_line 0 c.first) (extent_lines resets c.before c.after c.firsts) more.0 in
        let retired = retired_change c.before.plan.retired c.after_resets.plan.retired in
        let runs = runs_change (lost_run_count c.before) (hidden_runs c.before) (lost_run_count c.after_resets) (hidden_runs c.after_resets) in
        let manifest = both_nil (retired ++ runs) (shard_changes (row_in c.before c.loose.frames) (row_in c.after_resets c.loose_now.frames) (of_shards c.before.checked) (of_shards c.after_resets.checked) c.ids) lines.1 in
        let plan = both_nil retired runs manifest.0 in
        record {
          old = both.0;
          new = both.1;
          count = is;
          doubts = front.0;
          extents = first.1;
          named = more.1;
          retired = plan.0;
          runs = plan.1;
          shards = manifest.1;
        }

-- ---- retired extents

-- the same extents are retired
pub same_retired : (resets : List ℕ) (c : Compared) → HasNoLine resets c → c.after_resets.plan.retired ≡ c.before.plan.retired
same_retired resets c none =
    sym ((bytes_eq-Decides c.before.plan.retired c.after_resets.plan.retired).0
    (passed (bytes_eq c.before.plan.retired c.after_resets.plan.retired) (lost_line (retired_line c.before.plan.retired)) (new_line (retired_line c.after_resets.plan.retired)) (omega arith) none.retired))

-- ---- named locators

-- a locator without a line doesn't point into the extents
unnamed : (resets : List ℕ) (c : Checked) → named_line resets c ≡ [] → ¬ Contains resets c.locator.extent
unnamed resets c none there =
    let out : is_reset resets c.locator.extent ≡ false =
    not_there (is_reset resets c.locator.extent) (codes "named ") (locator_line c) (omega arith) none in
    elim (among_cases resets c.locator.extent) [
      | inl among ↦ false≢true (sym out ∙ among.0)
      | inr other ↦ other.1 there
    ]

-- If the verdict is safe, no locator that the later image names points into the resets.
pub none_points : (resets : List ℕ) (before after : Image) (text : List ℕ) (rest : Scrubbed) →
    IsComparison resets before after text true → IsScrubbed after rest → NonePointsInto resets rest.checked
none_points resets before after text rest s y =
    subst (λ (r : Scrubbed). NonePointsInto resets r.checked) (one_scrub after s.compared.after rest s.are.scrubbed_after y)
    (λ i d below. unnamed resets (get_or s.compared.after.checked i d)
    (all_none (named_line resets) s.compared.after.checked (no_line resets s.compared (sym s.verdict)).named i d below))

-- ---- extents

-- each extent has no line
pub no_lines_of : (resets : List ℕ) (found rest : Scrubbed) (n : ℕ) (firsts : List (Option ℕ)) →
    flat_map (λ e. lines_in resets found rest (e.0 + 1) e.1) (enumerate_from n firsts) ≡ [] → (k : ℕ) (first : Option ℕ) →
    slice_get firsts k ≡ Some first → lines_in resets found rest (n + k + 1) first ≡ []
no_lines_of resets found rest n [] none k first is = absurd (none-some first is)
no_lines_of resets found rest n (f ∷ fs) none zero first is =
    let parts = both_nil (lines_in resets found rest (n + 1) f) (flat_map (λ e. lines_in resets found rest (e.0 + 1) e.1) (enumerate_from (n + 1) fs)) none in
    ap (λ (m : ℕ). lines_in resets found rest m first) (let e : n + 0 + 1 ≡ n + 1 = omega arith in e)
    ∙ ap (λ (o : Option ℕ). lines_in resets found rest (n + 1) o) (sym (same_Some f first is))
    ∙ parts.0
no_lines_of resets found rest n (f ∷ fs) none (suc k) first is =
    let parts = both_nil (lines_in resets found rest (n + 1) f) (flat_map (λ e. lines_in resets found rest (e.0 + 1) e.1) (enumerate_from (n + 1) fs)) none in
    ap (λ (m : ℕ). lines_in resets found rest m first) (let e : n + suc k + 1 ≡ n + 1 + k + 1 = omega arith in e)
    ∙ no_lines_of resets found rest (n + 1) fs parts.1 k first is
