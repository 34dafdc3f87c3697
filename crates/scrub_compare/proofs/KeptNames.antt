-- Two disks on which the same is named, and no copy is worse, keep the manifest; and a manifest is that of what is found.
use Rattle.std.proofs.Common.{◌≡◌, ◌≤◌, ◌&&◌, ◌++◌, [], ℕ, Bool, true, false, List, Option, Some, None, length, map, arith, is_none, refl, sym, ◌∙◌, ap, subst, if◌then◌else◌}
use Rattle.std.specs.List.{Contains, count_by, slice_get}
use Rattle.std.specs.Str.{bytes_eq}
use Rattle.std.proofs.lemmas.Bool.{and_from}
use Rattle.std.proofs.lemmas.List.Elements.{All-contains}
use Rattle.std.proofs.lemmas.Option.{get_or_from_slice_get, same_Some, slice_get_within}
use Rattle.std.proofs.lemmas.Slice.Eq.{bytes_eq-Decides}
use Rattle.list_facts.proofs.Elements.{Contains-from_filter}
use Rattle.scrub_disk.specs.Image.{Image}
use Rattle.scrub_frame.specs.declared.form.Form.{Form}
use Rattle.scrub_run.specs.declared.shard_id.ShardId.{ShardId}
use Rattle.scrub_merge.specs.Binding.{BindingValue}
use Rattle.scrub_scan.specs.declared.standing.Standing.{Standing}
use Rattle.scrub_scan.specs.Scanned.{Scanned}
use Rattle.scrub_check.specs.declared.statuses.checked.Checked.{Checked}
use Rattle.scrub_check.specs.declared.statuses.status.Status.TheVariants.{Sound}
use Rattle.scrub_check.specs.Checked.{is_dangling, is_hidden, is_owned_by, is_sound}
use Rattle.scrub_check.specs.ChunkForms.{form_at}
use Rattle.scrub_check.specs.Runs.{ReadRunsValue}
use Rattle.scrub_check.proofs.RunStates.{Sound_from_is_sound}
use Rattle.scrub_loose.specs.Loose.{AreLoose, LooseValue, best_of}
use Rattle.scrub_loose.proofs.OneLoose.{one_loose}
use Rattle.scrub_found.specs.Scrubbed.{Scrubbed, IsScrubbed}
use Rattle.scrub_found.proofs.OneScrub.{one_scrub}
use Rattle.scrub_listings.specs.Manifest.{IsManifest, form_text, hidden_runs, is_of_read_run, is_of_shard, looked_for, lost_run_count, manifest_text, numbered_text, of_shards}
use Rattle.scrub_reclaim.specs.Copy.{rank}
use Rattle.scrub_reclaim.specs.Reset.{NameTheSame}
use Rattle.scrub_compare.specs.Compare.{are_alike, has_no_less, owned_by, row_in}
use Rattle.scrub_compare.proofs.LastWords.{no_less_from}
use Rattle.scrub_compare.proofs.KeptManifest.{AreKept}

-- ---- the manifest of what is found

-- The manifest of an image is the text of what is found on it.
pub text_of_found : (image : Image) (text : List ℕ) (whole : Bool) (found : Scrubbed) (loose : LooseValue) → IsManifest image text whole →
    IsScrubbed image found → AreLoose [] image found.plan loose → text ≡ manifest_text found loose.frames
text_of_found image text whole found loose m x l =
    let same : m.found ≡ found = one_scrub image m.found found m.scrubbed x in
    let frames : m.loose ≡ loose =
    one_loose [] image found.plan m.loose loose (subst (λ (f : Scrubbed). AreLoose [] image f.plan m.loose) same m.are_loose) l in
    m.text_is ∙ (λ i. manifest_text (same i) (frames i).frames)

-- ---- what a shard names

-- A locator with a number among those of a shard is one of those that the shard names.
pub owned_there : (s : Scrubbed) (id : ShardId) (n : ℕ) (c : Checked) → slice_get (owned_by id (of_shards s.checked)) n ≡ Some c →
    Contains (owned_by id (of_shards s.checked)) c
owned_there s id n c is =
    (n, slice_get_within (owned_by id (of_shards s.checked)) n c is, get_or_from_slice_get (owned_by id (of_shards s.checked)) n c c is)

-- and it is a named one
pub named_there : (s : Scrubbed) (id : ShardId) (n : ℕ) (c : Checked) → slice_get (owned_by id (of_shards s.checked)) n ≡ Some c →
    Contains s.checked c
named_there s id n c is =
    (Contains-from_filter (λ d. is_of_shard d.owner) s.checked c
    (Contains-from_filter (λ d. is_owned_by id d.owner) (of_shards s.checked) c (owned_there s id n c is)).0).0

-- ---- two disks that name the same

-- of each locator that a shard names the best copy is no worse on the second disk
abbrev pub HaveNoWorse : Scrubbed → Scrubbed → List Standing → List Standing → Type 0
HaveNoWorse s t loose loose_now = (id : ShardId) (n : ℕ) (c : Checked) → slice_get (owned_by id (of_shards s.checked)) n ≡ Some c →
    rank (best_of s.all loose c) ≤ rank (best_of t.all loose_now c)

module _ (s t : Scrubbed) (loose loose_now : List Standing) (named : NameTheSame s t) (best : HaveNoWorse s t loose loose_now) where
  -- a line begins in the same way
  same_stem : (n : ℕ) (c : Checked) → Contains s.checked c → (row_in s loose n c).stem ≡ (row_in t loose_now n c).stem
  same_stem n c there = by (is_sound c.status) refl
    where
      stem : List Scanned → Bool → List ℕ
      stem all sound = numbered_text n c ++ (if sound then form_text (form_at all c.locator) else looked_for c.locator)

      by : (b : Bool) → is_sound c.status ≡ b → stem s.all (is_sound c.status) ≡ stem t.all (is_sound c.status)
      by true is =
          ap (λ (o : Option Form). numbered_text n c ++ (if is_sound c.status then form_text o else looked_for c.locator))
          (sym (All-contains (λ (d : Checked). d.status ≡ Sound → form_at t.all d.locator ≡ form_at s.all d.locator) s.checked c named.forms there (Sound_from_is_sound c.status is)))
      by false is = ap (stem s.all) is ∙ sym (ap (stem t.all) is)

  alike_there : (id : ShardId) (n : ℕ) (c : Checked) → slice_get (owned_by id (of_shards s.checked)) n ≡ Some c →
      are_alike (row_in s loose n c) (row_in t loose_now n c) ≡ true
  alike_there id n c is =
      and_from (bytes_eq (row_in s loose n c).stem (row_in t loose_now n c).stem) (has_no_less (row_in s loose n c).best (row_in t loose_now n c).best)
      ((bytes_eq-Decides (row_in s loose n c).stem (row_in t loose_now n c).stem).1 (same_stem n c (named_there s id n c is)))
      (by (is_dangling c.status))
    where
      by : (b : Bool) →
          has_no_less (if b then Some (best_of s.all loose c) else None) (if b then Some (best_of t.all loose_now c) else None) ≡ true
      by true = no_less_from (best_of s.all loose c) (best_of t.all loose_now c) (best id n c is)
      by false = refl

  -- as many runs are hidden
  pub same_hidden : hidden_runs t ≡ hidden_runs s
  same_hidden = λ i. count_by (λ d. is_hidden d.status && is_of_read_run (named.read i).runs d.owner) (named.checked i)

  -- If a superblock counts on the first disk, and no run is lost, the manifest is kept.
  pub kept_named : s.plan.has_superblock ≡ true → lost_run_count s ≡ 0 → AreKept s t loose loose_now
  kept_named has read = record {
    has = has;
    has_now = named.superblock ∙ has;
    retired = named.retired;
    read = read;
    read_now = ap (λ (r : ReadRunsValue). count_by is_none r.runs) named.read ∙ read;
    fewer = omega (arith, same_hidden);
    ids = ap (map (λ (b : BindingValue). b.id)) (sym named.bindings);
    sizes = λ id bound. ap (λ (cs : List Checked). length (owned_by id (of_shards cs))) (sym named.checked);
    alike = λ id bound n c d was is.
        let same : c ≡ d = same_Some c d (sym was ∙ ap (λ (cs : List Checked). slice_get (owned_by id (of_shards cs)) n) (sym named.checked) ∙ is) in
        subst (λ (k : Checked). are_alike (row_in s loose n c) (row_in t loose_now n k) ≡ true) same (alike_there id n c was);
  }
