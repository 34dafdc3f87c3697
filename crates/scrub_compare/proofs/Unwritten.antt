-- An image without doubts that can't be accepted is safe with itself: there is no line of any kind.
use Rattle.std.proofs.Common.{◌≡◌, ◌+◌, ◌++◌, ◌∷◌, ◌==◌, ◌&&◌, ◌||◌, [], ℕ, Bool, true, false, not, max, is_none, List, Option, Some, None, length, get_or, codes, arith, refl, sym, ◌∙◌, ap, subst, if◌then◌else◌}
use Rattle.std.specs.Prelude.{nat_lt, option_map}
use Rattle.std.specs.Fmt.{decimal}
use Rattle.std.specs.List.{All, enumerate_from, flat_map, range_with_len}
use Rattle.std.specs.Option.{option_map_or}
use Rattle.std.proofs.Math.Path.{ap₂}
use Rattle.std.proofs.lemmas.Bool.{eq-eqb, le-ltb}
use Rattle.std.proofs.lemmas.List.Elements.{All-head, All-tail}
use Rattle.std.proofs.lemmas.Option.{slice_get-get_or}
use Rattle.std.proofs.lemmas.Slice.Eq.{bytes_eq-Decides}
use Rattle.list_facts.proofs.Elements.{both_nil, nil_has_no_first}
use Rattle.scrub_disk.specs.Image.{Image}
use Rattle.scrub_super.specs.declared.pages.SuperblockPage.{SuperblockPage}
use Rattle.scrub_super.specs.Contents.{Contents}
use Rattle.scrub_super.specs.Pages.{AreSuperblockPages}
use Rattle.scrub_super.proofs.PageLaws.{one_list_of_pages}
use Rattle.scrub_run.specs.declared.shard_id.ShardId.{ShardId}
use Rattle.scrub_scan.specs.declared.standing.Standing.{Standing}
use Rattle.scrub_scan.specs.Line.{spaced}
use Rattle.scrub_check.specs.declared.statuses.checked.Checked.{Checked}
use Rattle.scrub_loose.specs.declared.copies.BestCopy.{BestCopy}
use Rattle.scrub_loose.specs.declared.copies.BestCopy.TheVariants.{Nowhere, Loose, Spare}
use Rattle.scrub_loose.specs.Loose.{AreLoose}
use Rattle.scrub_loose.proofs.OneLoose.{one_loose}
use Rattle.scrub_found.specs.Scrubbed.{Scrubbed, IsScrubbed}
use Rattle.scrub_found.proofs.OneScrub.{one_scrub}
use Rattle.scrub_listings.specs.Manifest.{hidden_runs, lost_run_count, of_shards, retired_line, runs_line}
use Rattle.scrub_reclaim.specs.Doubts.{choice_doubts, page_doubts, run_doubts, superblock_lost}
use Rattle.scrub_reclaim.specs.declared.doubts.Doubt.{Doubt}
use Rattle.scrub_reclaim.specs.declared.doubts.Doubt.TheVariants.{NoSuperblock, Tie}
use Rattle.scrub_compare.specs.Compare.{AreCompared, Compared, RowValue, both_of, change, changes, doubts_of_both, extent_lines, fallen_word, firm_doubts, firm_line, generations_in, has_fallen, has_no_less, is_reset, is_safe, is_safe_by, lines_in, lost_line, manifest_changes, named_line, new_line, numbered, owned_by, retired_change, row_change, row_in, row_line, runs_change, shard_change, shard_changes, written_line}
use Rattle.scrub_compare.specs.Laws.{IsSafe}
use Rattle.scrub_compare.specs.Written.{IsLeastNumber, IsWrittenIn, IsWrittenInRecords, pointer_in, room_at}
use Rattle.scrub_compare.proofs.Existing.{some_comparison}

-- ---- nothing

none_of_each : {X Y : Type 0} (f : X → List Y) (xs : List X) → ((x : X) → f x ≡ []) → flat_map f xs ≡ []
none_of_each f [] none = refl
none_of_each {X} {Y} f (x ∷ xs) none = ap₂ (λ (a b : List Y). a ++ b) (none x) (none_of_each f xs none)

not_less : (n : ℕ) → nat_lt n n ≡ false
not_less n = le-ltb n n (omega arith)

-- what holds of no number has no least one
none_least : (P : ℕ → Type 0) (o : Option ℕ) → ((p : ℕ) → ¬ P p) → IsLeastNumber P o → o ≡ None
none_least P None none least = refl
none_least P (Some p) none least = absurd (none p least.0)

-- ---- lines of what is found with itself

-- an extent none of whose bytes changed has no line
no_line_of_extent : (s : Scrubbed) (x : ℕ) → lines_in [] s s x None ≡ []
no_line_of_extent s x = ap of (eq-eqb pointer pointer refl)
  where
    pointer : ℕ
    pointer = pointer_in s.plan x

    of : Bool → List ℕ
    of same =
        (if same || (is_reset [] x && pointer == 0) || option_map_or (λ place. not (nat_lt pointer place)) (room_at s x) false then []
        else codes "pointer" ++ spaced (decimal x) ++ spaced (decimal pointer) ++ spaced (decimal pointer) ++ 10 ∷ [])
        ++ []

no_lines_of_extents : (s : Scrubbed) (n : ℕ) (firsts : List (Option ℕ)) → All (λ o. o ≡ None) firsts →
    flat_map (λ e. lines_in [] s s (e.0 + 1) e.1) (enumerate_from n firsts) ≡ []
no_lines_of_extents s n [] none = refl
no_lines_of_extents s n (first ∷ firsts) none =
    ap₂ (λ (a b : List ℕ). a ++ b)
    (ap (λ (o : Option ℕ). lines_in [] s s (n + 1) o) (All-head (λ (o : Option ℕ). o ≡ None) first firsts none) ∙ no_line_of_extent s (n + 1))
    (no_lines_of_extents s (n + 1) firsts (All-tail (λ (o : Option ℕ). o ≡ None) first firsts none))

no_change_of_retired : (retired : List ℕ) → retired_change retired retired ≡ []
no_change_of_retired retired =
    ap (λ (same : Bool). if same then [] else lost_line (retired_line retired) ++ new_line (retired_line retired))
    ((bytes_eq-Decides retired retired).1 refl)

no_change_of_runs : (lost hidden : ℕ) → runs_change lost hidden lost hidden ≡ []
no_change_of_runs lost hidden = λ i.
    if eq-eqb lost lost refl i && not (not_less hidden i) then []
    else lost_line (runs_line lost hidden) ++ new_line (runs_line lost hidden)

-- a last word is as good as itself
no_less : (best : Option BestCopy) → has_no_less best best ≡ true
no_less None = refl
no_less (Some Nowhere) = refl
no_less (Some Loose) = refl
no_less (Some Spare) = refl

no_change_of_row : (row : RowValue) → row_change row row ≡ []
no_change_of_row row = λ i.
    if (bytes_eq-Decides row.stem row.stem).1 refl i && no_less row.best i then []
    else (if has_fallen row row then fallen_word row.best ++ row_line row else lost_line (row_line row) ++ new_line (row_line row))

no_change : (row : Option RowValue) → change row row ≡ []
no_change None = refl
no_change (Some row) = no_change_of_row row

no_changes_of_shards : (row : ℕ → Checked → RowValue) (shards : List Checked) (ids : List ShardId) → shard_changes row row shards shards ids ≡ []
no_changes_of_shards row shards ids =
    none_of_each (λ (id : ShardId). shard_change row row (owned_by id shards) (owned_by id shards)) ids
    (λ id.
    none_of_each (λ (number : ℕ). change (numbered row (owned_by id shards) number) (numbered row (owned_by id shards) number))
    (range_with_len 0 (max (length (owned_by id shards)) (length (owned_by id shards))))
    (λ number. no_change (numbered row (owned_by id shards) number)))

no_changes_of_manifest : (s : Scrubbed) (loose : List Standing) (ids : List ShardId) → manifest_changes s s loose loose ids ≡ []
no_changes_of_manifest s loose ids = λ i.
    no_change_of_retired s.plan.retired i
    ++ no_change_of_runs (lost_run_count s) (hidden_runs s) i
    ++ no_changes_of_shards (row_in s loose) (of_shards s.checked) ids i

-- ---- an image with itself

module _ (image : Image) (pages : List SuperblockPage) (found : Scrubbed) (x : IsScrubbed image found) (held : AreSuperblockPages image pages)
    (firm : firm_doubts pages found ≡ []) (c : Compared) (are : AreCompared [] image image c) where
  before_is : c.before ≡ found
  before_is = one_scrub image c.before found are.scrubbed_before x

  after_is : c.after ≡ found
  after_is = one_scrub image c.after found are.scrubbed_after x

  after_resets_is : c.after_resets ≡ found
  after_resets_is = one_scrub image c.after_resets found are.scrubbed_after_resets x

  loose_is : c.loose_now ≡ c.loose
  loose_is =
      one_loose [] image found.plan c.loose_now c.loose
      (subst (λ (s : Scrubbed). AreLoose [] image s.plan c.loose_now) after_resets_is are.loose_now)
      (subst (λ (s : Scrubbed). AreLoose [] image s.plan c.loose) before_is are.loose)

  doubts : doubts_of_both c ≡ []
  doubts =
      ap₂ (λ (a b : List Doubt). flat_map (firm_line (codes "before")) a ++ flat_map (firm_line (codes "after")) b)
      ((λ i. firm_doubts (one_list_of_pages image c.pages pages are.pages held i) (before_is i)) ∙ firm)
      ((λ i. firm_doubts (one_list_of_pages image c.pages_now pages are.pages_now held i) (after_is i)) ∙ firm)

  first_none : c.first ≡ None
  first_none = none_least (IsWrittenInRecords image image) c.first (λ p is. is.0 refl) are.first

  firsts_none : All (λ (o : Option ℕ). o ≡ None) c.firsts
  firsts_none k d below =
      none_least (IsWrittenIn image image (room_at c.before (k + 1)) (pointer_in c.after.plan (k + 1)) (k + 1)) (get_or c.firsts k d)
      (λ p is. is.0 refl) (are.firsts.each k (get_or c.firsts k d) (slice_get-get_or c.firsts k d below))

  no_changes : changes [] c ≡ []
  no_changes = λ i.
      ap (written_line 0) first_none i
      ++ ((λ j. extent_lines [] (before_is j) (after_is j) c.firsts) ∙ no_lines_of_extents found 0 c.firsts firsts_none) i
      ++ none_of_each (named_line []) c.after.checked (λ one. refl) i
      ++ ((λ j. manifest_changes (before_is j) (after_resets_is j) c.loose.frames (loose_is j).frames c.ids)
      ∙ no_changes_of_manifest found c.loose.frames c.ids) i

  -- a superblock counts, since there is no doubt that there is none
  some_generation : (g : ℕ) × (generations_in c ≡ Some (g, g))
  some_generation = by found.choice.superblock refl
    where
      of : Option Contents → Option ℕ
      of superblock = option_map (λ s. s.generation) superblock

      by : (superblock : Option Contents) → found.choice.superblock ≡ superblock → (g : ℕ) × (generations_in c ≡ Some (g, g))
      by (Some s) is = (
        s.generation,
        (λ i. both_of (of (before_is i).choice.superblock) (of (after_is i).choice.superblock)) ∙ ap (λ (o : Option Contents). both_of (of o) (of o)) is,
      )
      by None is =
          let choice = both_nil (choice_doubts found.choice) (page_doubts superblock_lost pages) (both_nil (choice_doubts found.choice ++ page_doubts superblock_lost pages) (run_doubts found.read.states) firm).0 in
          let missing = both_nil (if is_none found.choice.superblock then NoSuperblock ∷ [] else []) (if found.choice.tie then Tie ∷ [] else []) choice.0 in
          absurd (nil_has_no_first NoSuperblock [] (sym (ap (λ (o : Option Contents). if is_none o then NoSuperblock ∷ [] else []) (sym is) ∙ missing.0)))

  safe : is_safe [] c ≡ true
  safe =
      let g = some_generation in
      (λ i. is_safe_by (doubts i) (no_changes i) (g.1 i))
      ∙ ap (λ (older : Bool). length ([] ++ (if older then codes "generation" ++ spaced (decimal g.0) ++ spaced (decimal g.0) ++ 10 ∷ [] else []) ++ []) == 0) (not_less g.0)

-- An image without doubts that can't be accepted is safe with itself.
pub safe_with_itself : (image : Image) (pages : List SuperblockPage) (found : Scrubbed) → IsScrubbed image found →
    AreSuperblockPages image pages → firm_doubts pages found ≡ [] → IsSafe [] image image
safe_with_itself image pages found x held firm =
    let one = some_comparison [] image image in
    record {
      sizes = refl;
      text = one.0;
      safe = record {
        compared = one.2.compared;
        are = one.2.are;
        text_is = one.2.text_is;
        verdict = sym (safe image pages found x held firm one.2.compared one.2.are);
      };
    }
