-- By best copies that are the same, the lines are.
use Rattle.std.proofs.Common.{◌≡◌, ◌∷◌, [], ℕ, zero, suc, List, Some, get_or, length, max, refl, ap, option_map}
use Rattle.std.proofs.Math.Path.{ap₂, fun_ext}
use Rattle.std.specs.List.{All, flat_map, range_with_len, slice_get}
use Rattle.std.proofs.lemmas.List.Elements.{All-contains_itself, All-filter, All-head, All-tail}
use Rattle.scrub_run.specs.declared.shard_id.ShardId.{ShardId}
use Rattle.scrub_scan.specs.declared.standing.Standing.{Standing}
use Rattle.scrub_scan.specs.Scanned.{Scanned}
use Rattle.scrub_check.specs.declared.statuses.checked.Checked.{Checked}
use Rattle.scrub_check.specs.Checked.{is_owned_by}
use Rattle.scrub_disk.specs.Image.{Image}
use Rattle.scrub_super.specs.Plan.{PlanValue}
use Rattle.scrub_loose.specs.declared.copies.BestCopy.{BestCopy}
use Rattle.scrub_loose.specs.Copies.{CopiesValue}
use Rattle.scrub_loose.specs.Loose.{AreCopies, best_among, best_of}
use Rattle.scrub_listings.specs.Manifest.{is_of_shard, of_shards}
use Rattle.scrub_compare.specs.Compare.{RowValue, change, numbered, owned_by, row_by, shard_change, shard_changes}
use Rattle.scrub_compare.specs.steps.Rows.{AreBestBy, best_by}

-- two ways to make a line agree on some locators
abbrev pub AgreeOn : (ℕ → Checked → RowValue) → (ℕ → Checked → RowValue) → List Checked → Type 0
AgreeOn f h cs = All (λ (c : Checked). (n : ℕ) → f n c ≡ h n c) cs

numbered_agree : (f h : ℕ → Checked → RowValue) (own : List Checked) → AgreeOn f h own → (n : ℕ) → numbered f own n ≡ numbered h own n
numbered_agree f h own agree n = by own agree n
  where
    by : (cs : List Checked) → AgreeOn f h cs → (k : ℕ) → option_map (f n) (slice_get cs k) ≡ option_map (h n) (slice_get cs k)
    by [] all k = refl
    by (c ∷ cs) all zero = ap Some (All-head (λ (d : Checked). (m : ℕ) → f m d ≡ h m d) c cs all n)
    by (c ∷ cs) all (suc k) = by cs (All-tail (λ (d : Checked). (m : ℕ) → f m d ≡ h m d) c cs all) k

-- so the lines of what became of shards are the same
pub changes_agree : (f h f' h' : ℕ → Checked → RowValue) (cs ds : List Checked) (ids : List ShardId) → AgreeOn f h cs → AgreeOn f' h' ds →
    shard_changes f f' cs ds ids ≡ shard_changes h h' cs ds ids
changes_agree f h f' h' cs ds ids one other =
    ap (λ (lines : ShardId → List ℕ). flat_map lines ids) (fun_ext each)
  where
    each : (id : ShardId) → shard_change f f' (owned_by id cs) (owned_by id ds) ≡ shard_change h h' (owned_by id cs) (owned_by id ds)
    each id =
        ap (λ (lines : ℕ → List ℕ). flat_map lines (range_with_len 0 (max (length (owned_by id cs)) (length (owned_by id ds)))))
        (fun_ext (λ n. ap₂ change
        (numbered_agree f h (owned_by id cs) (All-filter (λ c. is_owned_by id c.owner) (λ (c : Checked). (m : ℕ) → f m c ≡ h m c) cs one) n)
        (numbered_agree f' h' (owned_by id ds) (All-filter (λ c. is_owned_by id c.owner) (λ (c : Checked). (m : ℕ) → f' m c ≡ h' m c) ds other) n)))

-- the best copies that were found are those of the definition
pub best_agree : (all : List Scanned) (checked : List Checked) (loose : List Standing) (v : CopiesValue) → AreBestBy all checked loose v →
    AgreeOn (row_by (best_by v) all) (row_by (best_of all loose) all) (of_shards checked)
best_agree all checked loose v are =
    All-filter (λ c. is_of_shard c.owner) (λ (c : Checked). (n : ℕ) → row_by (best_by v) all n c ≡ row_by (best_of all loose) all n c) checked
    (λ i d below n.
    let c : Checked = get_or checked i d in
    ap (λ (best : BestCopy). row_by (λ k. best) all n c) (are c (All-contains_itself checked i d below)))

-- The copies that the code keeps have the best one of each locator.
pub best_found : (resets : List ℕ) (image : Image) (plan : PlanValue) (all : List Scanned) (checked : List Checked) (v : CopiesValue) →
    (are : AreCopies resets image plan all checked v) → AreBestBy all checked are.found.frames v
best_found resets image plan all checked v are c there =
    ap₂ best_among (are.spares c there) (are.loose c there)
