-- What the code appends after each status, by the copies that it found, is what the definition says.
use Rattle.std.proofs.Common.{◌≡◌, ◌++◌, ◌∷◌, ◌+◌, [], ℕ, Bool, List, codes, get_or, length, refl, if◌then◌else◌}
use Rattle.std.proofs.Math.Path.{ap₂}
use Rattle.std.specs.List.{All, enumerate_from, filter, flat_map}
use Rattle.std.proofs.lemmas.List.Elements.{All-contains_itself, All-filter, All-head, All-tail}
use Rattle.scrub_disk.specs.Image.{Image}
use Rattle.scrub_super.specs.Plan.{PlanValue}
use Rattle.scrub_merge.specs.Binding.{BindingValue}
use Rattle.scrub_run.specs.declared.shard_id.ShardId.{ShardId}
use Rattle.scrub_scan.specs.Scanned.{Scanned}
use Rattle.scrub_check.specs.declared.statuses.checked.Checked.{Checked}
use Rattle.scrub_check.specs.Checked.{is_owned_by}
use Rattle.scrub_check.specs.ChunkForms.{form_at}
use Rattle.scrub_loose.specs.Copies.{CopiesValue}
use Rattle.scrub_loose.specs.Loose.{AreCopies, best_among}
use Rattle.scrub_listings.specs.Manifest.{after_status, after_status_in, is_of_shard, numbered_text, of_shards, retired_line, runs_line, shard_lines, text_by, total_line}
use Rattle.scrub_listings.specs.steps.Manifest.{after_status_by}
use Rattle.scrub_listings.proofs.ShardLines.{line_of}

-- the same follows the status of each of these locators
abbrev pub AreAfterAlike : (Checked → List ℕ) → (Checked → List ℕ) → List Checked → Type 0
AreAfterAlike f g cs = All (λ c. f c ≡ g c) cs

numbered_alike : (f g : Checked → List ℕ) (k : ℕ) (cs : List Checked) → AreAfterAlike f g cs →
    flat_map (line_of f) (enumerate_from k cs) ≡ flat_map (line_of g) (enumerate_from k cs)
numbered_alike f g k [] same = refl
numbered_alike f g k (c ∷ cs) same =
    ap₂ (λ (u v : List ℕ). (numbered_text k c ++ u ++ 10 ∷ []) ++ v) (All-head (λ d. f d ≡ g d) c cs same)
    (numbered_alike f g (k + 1) cs (All-tail (λ d. f d ≡ g d) c cs same))

shard_alike : (f g : Checked → List ℕ) (cs : List Checked) (id : ShardId) → AreAfterAlike f g cs → shard_lines f cs id ≡ shard_lines g cs id
shard_alike f g cs id same =
    let own : Checked → Bool = λ c. is_owned_by id c.owner in
    numbered_alike f g 0 (filter own cs) (All-filter own (λ c. f c ≡ g c) cs same)

-- so the texts are one
pub text_alike : (f g : Checked → List ℕ) (has : Bool) (retired : List ℕ) (lost hidden : ℕ) (bs : List BindingValue) (cs : List Checked) →
    AreAfterAlike f g cs → text_by f has retired lost hidden bs cs ≡ text_by g has retired lost hidden bs cs
text_alike f g has retired lost hidden bs cs same =
    let each : (id : ShardId) → shard_lines f cs id ≡ shard_lines g cs id = λ id. shard_alike f g cs id same in
    λ i.
    if has then retired_line retired ++ runs_line lost hidden ++ flat_map (λ b. each b.id i) bs ++ total_line (length bs) (length cs)
    else codes "no-superblock" ++ 10 ∷ []

-- By the copies that it found, the code appends after each shard's status what the definition says.
pub found_alike : (resets : List ℕ) (image : Image) (plan : PlanValue) (all : List Scanned) (checked : List Checked) (v : CopiesValue)
    (are : AreCopies resets image plan all checked v) → AreAfterAlike (after_status_by all v) (after_status_in all are.found.frames) (of_shards checked)
found_alike resets image plan all checked v are =
    All-filter (λ c. is_of_shard c.owner) (λ c. after_status_by all v c ≡ after_status_in all are.found.frames c) checked
    (λ i d below.
    let c : Checked = get_or checked i d in
    let there = All-contains_itself checked i d below in
    λ j. after_status (form_at all c.locator) (best_among (are.spares c there j) (are.loose c there j)) c)
