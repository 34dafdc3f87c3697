-- The summary of a disk: a verdict, and numbers by their names.
use Rattle.std.specs.Prelude.{◌≡◌, ◌+◌, ◌==◌, ◌&&◌, ◌||◌, ◌++◌, ◌∷◌, [], ℕ, Bool, true, false, List, Option, codes, length, not, if◌then◌else◌}
use Rattle.std.specs.Fmt.{decimal}
use Rattle.std.specs.List.{count_by, filter, flat_map, list_any, sum_by}
use Rattle.std.specs.Option.{option_map_or}
use Rattle.scrub_disk.specs.Image.{Image}
use Rattle.scrub_super.specs.Chosen.{Choice}
use Rattle.scrub_super.specs.Plan.{PlanValue}
use Rattle.scrub_super.specs.Pages.{AreSuperblockPages, is_damaged, is_odd, is_stray}
use Rattle.scrub_super.specs.declared.pages.SuperblockPage.{SuperblockPage}
use Rattle.scrub_scan.specs.Line.{spaced}
use Rattle.scrub_scan.specs.Scanned.{Scanned}
use Rattle.scrub_scan.specs.Item.{start_of}
use Rattle.scrub_scan.specs.declared.item.Item.{Item}
use Rattle.scrub_scan.specs.declared.standing.Standing.{Standing}
use Rattle.scrub_scan.specs.declared.item.Item.TheVariants.{Torn, Noise, Lost as LostItem}
use Rattle.scrub_check.specs.declared.statuses.checked.Checked.{Checked}
use Rattle.scrub_check.specs.Candidates.{CandidateValue}
use Rattle.scrub_check.specs.Checked.{is_dangling, is_hidden}
use Rattle.scrub_check.specs.Chunks.{chunks, orphans, twins}
use Rattle.scrub_check.specs.Live.{has_sound_at, is_chunk, live_bytes, size_of}
use Rattle.scrub_check.specs.Spares.{spares_by, spares_of}
use Rattle.scrub_merge.specs.Binding.{BindingValue}
use Rattle.scrub_found.specs.Scrubbed.{Scrubbed, IsScrubbed, is_clean_disk}
use Rattle.scrub_loose.specs.Copies.{CopiesValue, loose_by}
use Rattle.scrub_loose.specs.Loose.{AreLoose, LooseValue, loose_of}
use Rattle.scrub_listings.specs.declared.summary.Counted.{Counted}
use Rattle.scrub_listings.specs.declared.summary.Counted.TheVariants.{UnreadablePages, Chunks, ChunkBytes, TornItems, NoiseItems, LostItems, Tails, TailBytes}
use Rattle.scrub_listings.specs.declared.summary.Verdict.{Verdict}
use Rattle.scrub_listings.specs.declared.summary.Verdict.TheVariants.{Sound, InDoubt, Wrong}
use Rattle.scrub_listings.specs.Manifest.{lost_run_count}

-- ---- the verdict

-- a superblock counts, and has this generation
abbrev pub counts_as : Choice → ℕ → Bool
counts_as choice generation = option_map_or (λ c. c.generation == generation) choice.superblock false

-- the generation of the last superblock that was written is given, and it isn't the one that counts
abbrev pub is_behind : Option ℕ → Choice → Bool
is_behind last choice = option_map_or (λ generation. not (counts_as choice generation)) last false

-- the verdict on a disk that is clean or isn't, by whether there is a doubt
abbrev pub verdict_by : Bool → Bool → Verdict
verdict_by clean doubt = if clean then if doubt then InDoubt else Sound else Wrong

-- the verdict on what was found, by the generation of the last superblock that was written, if that is given: wrong if it isn't
-- clean; in doubt if it is, and a page of extent 0 is damaged or stray, or another generation counts; or else sound
abbrev pub verdict : Option ℕ → Scrubbed → List SuperblockPage → Verdict
verdict last s pages = verdict_by (is_clean_disk s) (list_any is_odd pages || is_behind last s.choice)

-- the word for a verdict
abbrev pub verdict_text : Verdict → List ℕ
verdict_text Sound = codes "sound"
verdict_text InDoubt = codes "doubt"
verdict_text Wrong = codes "wrong"

-- the verdict is that nothing is wrong or in doubt
abbrev pub is_sound_verdict : Verdict → Bool
is_sound_verdict Sound = true
is_sound_verdict _ = false

-- ---- what is counted

-- 1 if it is so, or else 0
abbrev pub one_if : Bool → ℕ
one_if b = if b then 1 else 0

-- the item is torn
abbrev pub is_torn : Item → Bool
is_torn (Torn start stop) = true
is_torn _ = false

-- the item is noise
abbrev pub is_noise : Item → Bool
is_noise (Noise start stop) = true
is_noise _ = false

-- the item is lost
abbrev pub is_lost : Item → Bool
is_lost (LostItem start stop) = true
is_lost _ = false

-- how many items of an extent are of a kind
abbrev pub items_of : (Item → Bool) → Scanned → ℕ
items_of is_of_kind f = count_by is_of_kind f.findings.items

-- how many bytes of an extent its chunks take
abbrev pub chunk_bytes : Scanned → ℕ
chunk_bytes f = sum_by size_of (filter is_chunk f.findings.items)

-- whether an extent has nonzero bytes at or past its write pointer
abbrev pub has_tail : Scanned → Bool
has_tail f = not (f.findings.tail_count == 0)

-- the item of extent e is an orphan: a chunk to whose start no sound locator points
abbrev pub is_orphan : List Checked → ℕ → Item → Bool
is_orphan checked e item = is_chunk item && not (has_sound_at checked e (start_of item))

-- how many bytes of an extent its orphans take
abbrev pub orphan_bytes : List Checked → Scanned → ℕ
orphan_bytes checked f = sum_by size_of (filter (is_orphan checked f.extent) f.findings.items)

-- how many chunks are live: a sound locator points to their place
abbrev pub live_count : List Scanned → List Checked → ℕ
live_count all checked = count_by (λ p. has_sound_at checked p.extent p.offset) (chunks all)

-- a named locator has a spare
abbrev pub has_spare : List Scanned → Checked → Bool
has_spare all c = not (length (spares_of all c) == 0)

-- a named locator has a loose copy
abbrev pub has_loose_copy : List Scanned → List Standing → Checked → Bool
has_loose_copy all loose c = not (length (loose_of all loose c) == 0)

-- ---- the numbers

-- a name and a number
abbrev pub NamedNumber : Type 0
NamedNumber = List ℕ × ℕ

-- the sizes of a disk and its retired extents
abbrev pub disk_numbers : PlanValue → List NamedNumber
disk_numbers plan =
    (codes "page_bytes", plan.geometry.page) ∷
    (codes "extent_pages", plan.geometry.pages) ∷
    (codes "extents", plan.geometry.extents) ∷
    (codes "retired_extents", length plan.retired) ∷ []

-- the superblocks: how many are valid, the generation of the one that counts, or 0 if none does, whether
-- there is a tie, and how many pages of extent 0 are damaged or stray
abbrev pub superblock_numbers : Choice → List SuperblockPage → List NamedNumber
superblock_numbers choice pages =
    (codes "superblocks", choice.records) ∷
    (codes "superblock_generation", option_map_or (λ c. c.generation) choice.superblock 0) ∷
    (codes "superblock_tie", one_if choice.tie) ∷
    (codes "superblocks_damaged", count_by is_damaged pages) ∷
    (codes "superblocks_stray", count_by is_stray pages) ∷ []

-- what can't be read: pages of extent 0 and of the scanned extents, and how many index runs there are and are lost
abbrev pub reading_numbers : Choice → PlanValue → List Scanned → ℕ → List NamedNumber
reading_numbers choice plan all lost =
    (codes "unreadable_pages", length choice.bad_pages + sum_by (λ f. length f.findings.bad_pages) all) ∷
    (codes "runs", length plan.runs) ∷
    (codes "runs_lost", lost) ∷ []

-- the shards of the shard map, by how many are broken, and the named locators, by how many have a spare, and how many have a loose
-- copy
abbrev pub shard_numbers : List BindingValue → ℕ → List Checked → ℕ → ℕ → List NamedNumber
shard_numbers bindings broken checked spared loose =
    (codes "shards", length bindings) ∷
    (codes "shards_broken", broken) ∷
    (codes "shards_doubtful", count_by (λ b. b.doubtful) bindings) ∷
    (codes "locators", length checked) ∷
    (codes "locators_hidden", count_by (λ c. is_hidden c.status) checked) ∷
    (codes "locators_dangling", count_by (λ c. is_dangling c.status) checked) ∷
    (codes "spares", spared) ∷
    (codes "loose_copies", loose) ∷ []

-- the chunks: all of them, those that are live and those that are orphans, and how many bytes of extents each of these take;
-- how many are twins, and to how many places two sound locators or more point
abbrev pub chunk_numbers : List Scanned → List Checked → ℕ → List NamedNumber
chunk_numbers all checked shared =
    (codes "chunks", length (chunks all)) ∷
    (codes "chunk_bytes", sum_by chunk_bytes all) ∷
    (codes "live_chunks", live_count all checked) ∷
    (codes "live_bytes", sum_by (live_bytes checked) all) ∷
    (codes "orphans", length (orphans all checked)) ∷
    (codes "orphan_bytes", sum_by (orphan_bytes checked) all) ∷
    (codes "twins", length (twins all)) ∷
    (codes "shared_places", shared) ∷ []

-- the items that are neither chunks nor zeros, and the extents that have a tail, with its bytes
abbrev pub item_numbers : List Scanned → List NamedNumber
item_numbers all =
    (codes "torn_items", sum_by (items_of is_torn) all) ∷
    (codes "noise_items", sum_by (items_of is_noise) all) ∷
    (codes "lost_items", sum_by (items_of is_lost) all) ∷
    (codes "tails", count_by has_tail all) ∷
    (codes "tail_bytes", sum_by (λ f. f.findings.tail_count) all) ∷ []

-- the extents that may be reclaimed, how many bytes that frees, and how many chunks must be moved first
abbrev pub candidate_numbers : List CandidateValue → List NamedNumber
candidate_numbers candidates =
    (codes "candidates", length candidates) ∷
    (codes "candidate_bytes", sum_by (λ a. a.free) candidates) ∷
    (codes "chunks_to_move", sum_by (λ a. length a.chunks) candidates) ∷ []

-- all numbers, by the pages of extent 0, what was found, the loose frames, and how many index runs are lost
abbrev pub numbers_by : List SuperblockPage → Scrubbed → List Standing → ℕ → List NamedNumber
numbers_by pages s loose lost =
    disk_numbers s.plan
    ++ superblock_numbers s.choice pages
    ++ reading_numbers s.choice s.plan s.all lost
    ++ shard_numbers s.bindings (length s.broken) s.checked (count_by (has_spare s.all) s.checked) (count_by (has_loose_copy s.all loose) s.checked)
    ++ chunk_numbers s.all s.checked (length s.shared)
    ++ item_numbers s.all
    ++ candidate_numbers s.candidates

-- ---- the whole text

-- the line of a name and a number: `NAME NUMBER` and a line feed
abbrev pub number_line : NamedNumber → List ℕ
number_line m = m.0 ++ spaced (decimal m.1) ++ 10 ∷ []

-- the lines of names and numbers, in their order
abbrev pub number_lines : List NamedNumber → List ℕ
number_lines numbers = flat_map number_line numbers

-- the first line: `verdict` and the verdict, and a line feed
abbrev pub verdict_line : Verdict → List ℕ
verdict_line v = codes "verdict" ++ spaced (verdict_text v) ++ 10 ∷ []

-- the verdict, and the numbers of what was found, by the loose frames
abbrev pub summary_text : Option ℕ → List SuperblockPage → Scrubbed → List Standing → List ℕ
summary_text last pages s loose = verdict_line (verdict last s pages) ++ number_lines (numbers_by pages s loose (lost_run_count s))

-- the text is the summary of what is found in an image, by the generation of the last superblock that was written, if that is
-- given, and the truth value says whether the verdict is that it is sound
pub record IsSummary (last : Option ℕ) (image : Image) (text : List ℕ) (sound : Bool) : Type 0 where
  pub found : Scrubbed
  pub scrubbed : IsScrubbed image found
  pub pages : List SuperblockPage
  pub held : AreSuperblockPages image pages
  pub loose : LooseValue
  pub are_loose : AreLoose [] image found.plan loose
  pub text_is : text ≡ summary_text last pages found loose.frames
  pub verdict_is : sound ≡ is_sound_verdict (verdict last found pages)

-- ---- steps of the code

-- a named locator has a spare among these chunks
abbrev pub has_spare_by : List Standing → Checked → Bool
has_spare_by found c = not (length (spares_by found c) == 0)

-- a named locator has a loose copy among these frames
abbrev pub has_loose_copy_by : CopiesValue → Checked → Bool
has_loose_copy_by v c = not (length (loose_by v c) == 0)

-- what is counted in an extent
abbrev pub counted_in : Counted → Scanned → ℕ
counted_in UnreadablePages f = length f.findings.bad_pages
counted_in Chunks f = items_of is_chunk f
counted_in ChunkBytes f = chunk_bytes f
counted_in TornItems f = items_of is_torn f
counted_in NoiseItems f = items_of is_noise f
counted_in LostItems f = items_of is_lost f
counted_in Tails f = one_if (has_tail f)
counted_in TailBytes f = f.findings.tail_count
