-- The manifest of a disk: its retired extents, its index runs that aren't read as usual, and what the locators of each
-- shard name, wherever that lies.
use Rattle.std.specs.Prelude.{◌≡◌, ◌<◌, ◌/◌, ◌%◌, ◌==◌, ◌&&◌, ◌++◌, ◌∷◌, [], ℕ, Bool, true, false, List, Option, Some, None, codes, is_none, is_some, map, if◌then◌else◌}
use Rattle.std.specs.Prelude.{length as len}
use Rattle.std.specs.Fmt.{decimal}
use Rattle.std.specs.List.{count_by, enumerate_from, filter, flat_map, list_all, slice_get}
use Rattle.std.specs.Option.{option_map_or}
use Rattle.hex.specs.Hex.{encode_lower}
use Rattle.scrub_disk.specs.Image.{Image, image_byte}
use Rattle.scrub_run.specs.declared.shard_id.ShardId.{ShardId}
use Rattle.scrub_frame.specs.declared.form.Form.{Form}
use Rattle.scrub_frame.specs.declared.form.Form.TheVariants.{Plain, Sealed}
use Rattle.scrub_frame.specs.declared.locator.Locator.{Locator}
use Rattle.scrub_scan.specs.declared.standing.Standing.{Standing}
use Rattle.scrub_scan.specs.Line.{spaced}
use Rattle.scrub_scan.specs.Scanned.{Scanned}
use Rattle.scrub_merge.specs.Binding.{BindingValue, Runs}
use Rattle.scrub_check.specs.declared.named.Owner.{Owner}
use Rattle.scrub_check.specs.declared.named.Owner.TheVariants.{Run, Shard}
use Rattle.scrub_check.specs.declared.statuses.checked.Checked.{Checked}
use Rattle.scrub_check.specs.declared.statuses.status.Status.{Status}
use Rattle.scrub_check.specs.Checked.{is_dangling, is_hidden, is_owned_by, is_sound}
use Rattle.scrub_check.specs.ChunkForms.{form_at}
use Rattle.scrub_found.specs.GivenRuns.{IsScrubbedFrom}
use Rattle.scrub_found.specs.Scrubbed.{Scrubbed}
use Rattle.scrub_found.specs.Texts.{owner_text, status_text, uuid_text}
use Rattle.scrub_loose.specs.Loose.{AreLoose, LooseValue, best_of}
use Rattle.scrub_loose.specs.declared.copies.BestCopy.{BestCopy}
use Rattle.scrub_loose.specs.declared.copies.BestCopy.TheVariants.{Nowhere, Loose, Spare}
use Rattle.scrub_listings.specs.declared.remarks.SuperblockRemark.{SuperblockRemark}
use Rattle.scrub_listings.specs.Remarks.{AreSaidFrom}

-- ---- the lines

-- the line of the retired extents: `retired` and each of them, with a space before each, and a line feed
abbrev pub retired_line : List ℕ → List ℕ
retired_line retired = codes "retired" ++ flat_map (λ e. spaced (decimal e)) retired ++ 10 ∷ []

-- the line of the index runs: `runs lost L hidden H` and a line feed
abbrev pub runs_line : ℕ → ℕ → List ℕ
runs_line lost hidden = codes "runs lost" ++ spaced (decimal lost) ++ codes " hidden" ++ spaced (decimal hidden) ++ 10 ∷ []

-- a number below 100 in two digits
abbrev pub two_digits : ℕ → List ℕ
two_digits n = decimal (n / 10) ++ decimal (n % 10)

-- the word for the form of a chunk: `plain`, or `sealed`
abbrev pub form_word : Form → List ℕ
form_word Plain = codes "plain"
form_word Sealed = codes "sealed"

-- a space and the word for a form, if there is one
abbrev pub form_text : Option Form → List ℕ
form_text None = []
form_text (Some form) = spaced (form_word form)

-- where the chunk of a locator is looked for: ` EXTENT OFFSET UUID`
abbrev pub looked_for : Locator → List ℕ
looked_for l = spaced (decimal l.extent) ++ spaced (decimal l.offset) ++ spaced (uuid_text l.uuid)

-- the word for the best copy that is left: `none`, `loose` or `spare`
abbrev pub copy_word : BestCopy → List ℕ
copy_word Nowhere = codes "none"
copy_word Loose = codes "loose"
copy_word Spare = codes "spare"

-- a space and the word for the best copy of a dangling locator; nothing for a hidden one
abbrev pub spare_text : Status → BestCopy → List ℕ
spare_text status best = if is_dangling status then spaced (copy_word best) else []

-- what follows the status of a locator: the form of its chunk if it is sound, or else where the chunk is looked for and
-- which is its best copy
abbrev pub after_status : Option Form → BestCopy → Checked → List ℕ
after_status form best c = if is_sound c.status then form_text form else looked_for c.locator ++ spare_text c.status best

-- what comes after the status of a locator, by what was scanned and by the loose frames
abbrev pub after_status_in : List Scanned → List Standing → Checked → List ℕ
after_status_in all loose c = after_status (form_at all c.locator) (best_of all loose c) c

-- what the line of a shard's locator of this number begins with: `shard ID NUMBER LENGTH DIGEST STATUS`
abbrev pub numbered_text : ℕ → Checked → List ℕ
numbered_text number c =
    owner_text c.owner ++ spaced (two_digits number) ++ spaced (decimal c.locator.length) ++ spaced (encode_lower c.locator.digest) ++ spaced (status_text c.status)

-- the line of a shard's locator of this number, by what follows its status: that, and a line feed
abbrev pub numbered_line : (Checked → List ℕ) → ℕ → Checked → List ℕ
numbered_line after number c = numbered_text number c ++ after c ++ 10 ∷ []

-- the lines of some locators, numbered from 0
abbrev pub numbered_lines : (Checked → List ℕ) → List Checked → List ℕ
numbered_lines after some = flat_map (λ p. numbered_line after p.0 p.1) (enumerate_from 0 some)

-- the lines of a shard: its locators among all named ones, in their order
abbrev pub shard_lines : (Checked → List ℕ) → List Checked → ShardId → List ℕ
shard_lines after checked id = numbered_lines after (filter (λ c. is_owned_by id c.owner) checked)

-- the last line: `total`, how many shards and how many locators of shards, and a line feed
abbrev pub total_line : ℕ → ℕ → List ℕ
total_line shards locators = codes "total" ++ spaced (decimal shards) ++ spaced (decimal locators) ++ 10 ∷ []

-- ---- what is counted

-- a shard names the locator
abbrev pub is_of_shard : Owner → Bool
is_of_shard (Shard id) = true
is_of_shard (Run number) = false

-- the locators of all shards, in the order of named locators
abbrev pub of_shards : List Checked → List Checked
of_shards checked = filter (λ c. is_of_shard c.owner) checked

-- an index run that is read names the locator
abbrev pub is_of_read_run : Runs → Owner → Bool
is_of_read_run runs (Run number) = option_map_or is_some (slice_get runs number) false
is_of_read_run runs (Shard id) = false

-- how many index runs are lost
abbrev pub lost_run_count : Scrubbed → ℕ
lost_run_count s = count_by is_none s.read.runs

-- how many index runs are read whose locator is hidden
abbrev pub hidden_runs : Scrubbed → ℕ
hidden_runs s = count_by (λ c. is_hidden c.status && is_of_read_run s.read.runs c.owner) s.checked

-- ---- the whole text

-- the lines of a manifest, by what follows a locator's status, whether there is a superblock, the retired extents, the
-- numbers of lost and of hidden runs, the bindings and the locators of shards
abbrev pub text_by : (Checked → List ℕ) → Bool → List ℕ → ℕ → ℕ → List BindingValue → List Checked → List ℕ
text_by after has_superblock retired lost hidden bindings shards =
    if has_superblock then retired_line retired
    ++ runs_line lost hidden
    ++ flat_map (λ b. shard_lines after shards b.id) bindings
    ++ total_line (len bindings) (len shards) else codes "no-superblock" ++ 10 ∷ []

-- the retired extents, the runs that aren't read as usual, each locator of each shard of the shard map, and how many there
-- are; or that there is no superblock; by the loose frames
abbrev pub manifest_text : Scrubbed → List Standing → List ℕ
manifest_text s loose =
    text_by (after_status_in s.all loose) s.plan.has_superblock s.plan.retired (lost_run_count s) (hidden_runs s) s.bindings (of_shards s.checked)

-- each of these locators is sound
abbrev pub are_sound : List Checked → Bool
are_sound checked = list_all (λ c. is_sound c.status) checked

-- nothing is missing: there is a superblock, no run is lost or hidden, and each locator of a shard is sound
abbrev pub is_whole_by : Bool → ℕ → ℕ → List Checked → Bool
is_whole_by has_superblock lost hidden shards = has_superblock && lost == 0 && hidden == 0 && are_sound shards

-- nothing is missing of what is found
abbrev pub is_whole : Scrubbed → Bool
is_whole s = is_whole_by s.plan.has_superblock (lost_run_count s) (hidden_runs s) (of_shards s.checked)

-- the text is the manifest of what is found in an image, and the truth value says whether nothing is missing: by these index runs,
-- if they are given, or else by the superblock that counts, as if these extents had been reset, whose frames are no loose copies
-- then
pub record IsManifestFrom (given : Option (List Locator)) (resets : List ℕ) (image : Image) (text : List ℕ) (whole : Bool) : Type 0 where
  pub found : Scrubbed
  pub scrubbed : IsScrubbedFrom given resets image found
  pub loose : LooseValue
  pub are_loose : AreLoose resets image found.plan loose
  pub text_is : text ≡ manifest_text found loose.frames
  pub verdict : whole ≡ is_whole found

-- it is the manifest by the superblock that counts
abbrev pub IsManifestBut : List ℕ → Image → List ℕ → Bool → Type 0
IsManifestBut resets image text whole = IsManifestFrom None resets image text whole

-- it is that manifest without resets
abbrev pub IsManifest : Image → List ℕ → Bool → Type 0
IsManifest image text whole = IsManifestBut [] image text whole

-- the manifest, and what is said of the superblocks beside it; the truth value says whether nothing is missing and nothing is said
pub record IsRemarkedManifest (given : Option (List Locator)) (resets : List ℕ) (image : Image) (text : List ℕ) (remarks : List SuperblockRemark)
    (clean : Bool) : Type 0 where
  pub whole : Bool
  pub manifest : IsManifestFrom given resets image text whole
  pub are_remarks : AreSaidFrom given image remarks
  pub clean_is : clean ≡ (whole && len remarks == 0)

-- ---- what a manifest says

-- what a manifest says of a shard's locator: the texts of owner and digest, the length, the status, and what follows it
pub record HeldValue : Type 0 where
  pub owner : List ℕ
  pub length : ℕ
  pub digest : List ℕ
  pub status : Status
  pub after : List ℕ

-- what a manifest says of a locator
abbrev pub held_locator : List Scanned → List Standing → Checked → HeldValue
held_locator all loose c = record {
  owner = owner_text c.owner;
  length = c.locator.length;
  digest = encode_lower c.locator.digest;
  status = c.status;
  after = after_status_in all loose c;
}

-- what a manifest says of the shards' locators among the named ones, in their order
abbrev pub all_held : Scrubbed → List Standing → List HeldValue
all_held s loose = map (held_locator s.all loose) (of_shards s.checked)

-- the same is held on two disks, each by what is found and by its loose frames: both have a superblock or none, they have the
-- same retired extents, as many runs are lost and as many hidden, and the same is said of the shards' locators
pub record HoldTheSame (s : Scrubbed) (loose : List Standing) (t : Scrubbed) (others : List Standing) : Type 0 where
  pub superblock : s.plan.has_superblock ≡ t.plan.has_superblock
  pub retired : s.plan.retired ≡ t.plan.retired
  pub lost : lost_run_count s ≡ lost_run_count t
  pub hidden : hidden_runs s ≡ hidden_runs t
  pub shards : all_held s loose ≡ all_held t others

-- each byte of the disk's extents that can be read is below 256
abbrev pub HoldsBytes : Image → Type 0
HoldsBytes image = (e p b : ℕ) → e < image.geometry.extents → image_byte image e p ≡ Some b → b < 256

-- what a manifest says of a shard's locator in an image of bytes: who names it, the length and the digest of its chunk, its
-- status, the form of its chunk if it is sound, or else the extent and the offset that it points to, and the best copy if it
-- dangles
pub record TraitsValue : Type 0 where
  pub owner : Owner
  pub length : ℕ
  pub digest : List ℕ
  pub status : Status
  pub form : Option Form
  pub place : Option (ℕ × ℕ)
  pub best : Option BestCopy

-- the form of a sound locator's chunk
abbrev pub form_if_sound : List Scanned → Checked → Option Form
form_if_sound all c = if is_sound c.status then form_at all c.locator else None

-- the extent and the offset that a locator points to, unless it is sound
abbrev pub place_unless_sound : Checked → Option (ℕ × ℕ)
place_unless_sound c = if is_sound c.status then None else Some (c.locator.extent, c.locator.offset)

-- the best copy of a locator that dangles
abbrev pub best_if_dangling : List Scanned → List Standing → Checked → Option BestCopy
best_if_dangling all loose c = if is_dangling c.status then Some (best_of all loose c) else None

-- what a manifest says of a shard's locator in an image of bytes
abbrev pub traits : List Scanned → List Standing → Checked → TraitsValue
traits all loose c = record {
  owner = c.owner;
  length = c.locator.length;
  digest = c.locator.digest;
  status = c.status;
  form = form_if_sound all c;
  place = place_unless_sound c;
  best = best_if_dangling all loose c;
}

-- what a manifest says of the shards' locators among the named ones, in their order
abbrev pub all_traits : Scrubbed → List Standing → List TraitsValue
all_traits s loose = map (traits s.all loose) (of_shards s.checked)
