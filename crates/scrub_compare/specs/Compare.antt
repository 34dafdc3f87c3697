-- The lines that say why what was written to a disk between two images isn't safe, and the last one.
use Rattle.std.specs.Prelude.{◌≡◌, ◌⊎◌, ◌↔◌, ◌+◌, ◌==◌, ◌&&◌, ◌||◌, ◌++◌, ◌∷◌, [], ℕ, Bool, true, false, List, Option, Some, None, AllPairs, Contains, codes, max, not, nat_lt, slice_get, map, option_map, if◌then◌else◌}
use Rattle.std.specs.Prelude.{length as len}
use Rattle.std.specs.Fmt.{decimal}
use Rattle.std.specs.List.{enumerate_from, filter, flat_map, list_any, range_with_len}
use Rattle.std.specs.Option.{option_map_or}
use Rattle.std.specs.Str.{bytes_eq}
use Rattle.scrub_disk.specs.Image.{Image}
use Rattle.scrub_super.specs.declared.pages.SuperblockPage.{SuperblockPage}
use Rattle.scrub_super.specs.Chosen.{Choice}
use Rattle.scrub_super.specs.Pages.{AreSuperblockPages}
use Rattle.scrub_run.specs.declared.shard_id.ShardId.{ShardId}
use Rattle.scrub_run.specs.Entry.{IsBelow}
use Rattle.scrub_merge.specs.Binding.{BindingValue}
use Rattle.scrub_scan.specs.declared.standing.Standing.{Standing}
use Rattle.scrub_scan.specs.Line.{spaced}
use Rattle.scrub_scan.specs.Scanned.{Scanned}
use Rattle.scrub_check.specs.declared.statuses.checked.Checked.{Checked}
use Rattle.scrub_check.specs.Checked.{is_dangling, is_owned_by, is_sound}
use Rattle.scrub_check.specs.ChunkForms.{form_at}
use Rattle.scrub_loose.specs.declared.copies.BestCopy.{BestCopy}
use Rattle.scrub_loose.specs.declared.copies.BestCopy.TheVariants.{Spare}
use Rattle.scrub_loose.specs.Loose.{AreLoose, LooseValue, best_of}
use Rattle.scrub_found.specs.Resets.{IsScrubbedBut}
use Rattle.scrub_found.specs.Scrubbed.{Scrubbed, IsScrubbed}
use Rattle.scrub_listings.specs.Locators.{locator_line}
use Rattle.scrub_listings.specs.Manifest.{copy_word, form_text, hidden_runs, looked_for, lost_run_count, numbered_text, of_shards, retired_line, runs_line}
use Rattle.scrub_reclaim.specs.declared.doubts.Doubt.{Doubt}
use Rattle.scrub_reclaim.specs.Copy.{rank}
use Rattle.scrub_reclaim.specs.Doubts.{choice_doubts, doubt_text, page_doubts, run_doubts, superblock_lost}
use Rattle.scrub_compare.specs.Written.{AreFirstWritten, IsLeastNumber, IsWrittenInRecords, pointer_in, room_at}

-- ---- doubts

-- the doubts that can't be accepted: those of the choice, of unreadable pages of extent 0, and of lost index runs
abbrev pub firm_doubts : List SuperblockPage → Scrubbed → List Doubt
firm_doubts pages found = choice_doubts found.choice ++ page_doubts superblock_lost pages ++ run_doubts found.read.states

-- the line of a doubt: `doubt`, the word for its image, its kind and its numbers, and a line feed
abbrev pub firm_line : List ℕ → Doubt → List ℕ
firm_line image doubt = codes "doubt" ++ spaced image ++ spaced (doubt_text doubt) ++ 10 ∷ []

-- the lines of an image's doubts that can't be accepted
abbrev pub firm_lines : List ℕ → List SuperblockPage → Scrubbed → List ℕ
firm_lines image pages found = flat_map (firm_line image) (firm_doubts pages found)

-- ---- generations

-- the line of two generations, if the later image has the lower one, or else nothing
abbrev pub generation_line : ℕ → ℕ → List ℕ
generation_line old new =
    if nat_lt new old then codes "generation" ++ spaced (decimal old) ++ spaced (decimal new) ++ 10 ∷ [] else []

-- ---- write pointers and bytes

-- extent x is among these
abbrev pub is_reset : List ℕ → ℕ → Bool
is_reset resets x = list_any (λ e. e == x) resets

-- a write pointer may follow another one: it is the same, or 0 in an extent to be reset, or at or past the place where the
-- extent had room
abbrev pub may_follow : Bool → Option ℕ → ℕ → ℕ → Bool
may_follow reset room old new = new == old || (reset && new == 0) || option_map_or (λ place. not (nat_lt new place)) room false

-- the line of two write pointers of extent x, unless the second may follow the first, or else nothing
abbrev pub pointer_line : List ℕ → Option ℕ → ℕ → ℕ → ℕ → List ℕ
pointer_line resets room x old new =
    if may_follow (is_reset resets x) room old new then []
    else codes "pointer" ++ spaced (decimal x) ++ spaced (decimal old) ++ spaced (decimal new) ++ 10 ∷ []

-- the line of the first byte of extent x that changed and may not, if there is one, or else nothing
abbrev pub written_line : ℕ → Option ℕ → List ℕ
written_line x None = []
written_line x (Some p) = codes "written" ++ spaced (decimal x) ++ spaced (decimal p) ++ 10 ∷ []

-- the lines of extent x, by where it had room, its write pointer before and now, and that byte
abbrev pub lines_of_extent : List ℕ → Option ℕ → ℕ → ℕ → ℕ → Option ℕ → List ℕ
lines_of_extent resets room x old new first = pointer_line resets room x old new ++ written_line x first

-- the lines of extent x by what is found in both images
abbrev pub lines_in : List ℕ → Scrubbed → Scrubbed → ℕ → Option ℕ → List ℕ
lines_in resets before after x first =
    lines_of_extent resets (room_at before x) x (pointer_in before.plan x) (pointer_in after.plan x) first

-- the lines of extents 1, 2 and so on, by the first byte of each that changed and may not
abbrev pub extent_lines : List ℕ → Scrubbed → Scrubbed → List (Option ℕ) → List ℕ
extent_lines resets before after firsts =
    flat_map (λ e. lines_in resets before after (e.0 + 1) e.1) (enumerate_from 0 firsts)

-- ---- named locators

-- the line of a named locator whose extent is among these, with `named ` in front, or else nothing
abbrev pub named_line : List ℕ → Checked → List ℕ
named_line resets c = if is_reset resets c.locator.extent then codes "named " ++ locator_line c else []

-- the lines of all of them, in their order
abbrev pub named_lines : List ℕ → List Checked → List ℕ
named_lines resets checked = flat_map (named_line resets) checked

-- ---- manifests: retired extents and index runs

-- a line, with its line feed, that only the earlier manifest has
abbrev pub lost_line : List ℕ → List ℕ
lost_line line = codes "lost " ++ line

-- a line, with its line feed, that only the later manifest has
abbrev pub new_line : List ℕ → List ℕ
new_line line = codes "new " ++ line

-- the lines of a change of the retired extents, or nothing
abbrev pub retired_change : List ℕ → List ℕ → List ℕ
retired_change old new =
    if bytes_eq old new then [] else lost_line (retired_line old) ++ new_line (retired_line new)

-- the lines of a change of the index runs, or nothing if as many are lost and no more are hidden
abbrev pub runs_change : ℕ → ℕ → ℕ → ℕ → List ℕ
runs_change lost hidden lost_now hidden_now =
    if lost_now == lost && not (nat_lt hidden hidden_now) then []
    else lost_line (runs_line lost hidden) ++ new_line (runs_line lost_now hidden_now)

-- ---- manifests: shards

-- the line of a shard's locator in two parts: what comes before its last word, and the best copy, if the locator dangles
pub record RowValue : Type 0 where
  pub stem : List ℕ
  pub best : Option BestCopy

-- the last word with a space before it: ` spare`, ` loose` or ` none`; nothing for a locator that doesn't dangle
abbrev pub last_word : Option BestCopy → List ℕ
last_word None = []
last_word (Some best) = spaced (copy_word best)

-- the whole line
abbrev pub row_line : RowValue → List ℕ
row_line r = r.stem ++ last_word r.best ++ 10 ∷ []

-- what follows a locator's status, up to the last word
abbrev pub place_or_form : List Scanned → Checked → List ℕ
place_or_form all c = if is_sound c.status then form_text (form_at all c.locator) else looked_for c.locator

-- the line of a shard's locator of this number, by what was scanned and by the locator's best copy
abbrev pub row_by : (Checked → BestCopy) → List Scanned → ℕ → Checked → RowValue
row_by best all number c = record {
  stem = numbered_text number c ++ place_or_form all c;
  best = if is_dangling c.status then Some (best c) else None;
}

-- the first is the worse copy: last words rise from `none` over `loose` to `spare`
abbrev pub is_worse : BestCopy → BestCopy → Bool
is_worse one other = nat_lt (rank one) (rank other)

-- the last word is the same, or it rises
abbrev pub has_no_less : Option BestCopy → Option BestCopy → Bool
has_no_less None None = true
has_no_less (Some old) (Some new) = not (is_worse new old)
has_no_less _ _ = false

-- the last word falls
abbrev pub has_less : Option BestCopy → Option BestCopy → Bool
has_less (Some old) (Some new) = is_worse new old
has_less _ _ = false

-- two lines are the same, or differ only in a last word that rises
abbrev pub are_alike : RowValue → RowValue → Bool
are_alike old new = bytes_eq old.stem new.stem && has_no_less old.best new.best

-- two lines differ only in a last word that falls
abbrev pub has_fallen : RowValue → RowValue → Bool
has_fallen old new = bytes_eq old.stem new.stem && has_less old.best new.best

-- what the line of a last word that falls begins with: the word that it was, `spare ` or `loose `
abbrev pub fallen_word : Option BestCopy → List ℕ
fallen_word (Some Spare) = codes "spare "
fallen_word _ = codes "loose "

-- the lines of what became of a line, or nothing
abbrev pub row_change : RowValue → RowValue → List ℕ
row_change old new =
    if are_alike old new then []
    else (if has_fallen old new then fallen_word old.best ++ row_line old else lost_line (row_line old) ++ new_line (row_line new))

-- the lines of what became of a line that one of the two manifests may lack
abbrev pub change : Option RowValue → Option RowValue → List ℕ
change None None = []
change (Some old) None = lost_line (row_line old)
change None (Some new) = new_line (row_line new)
change (Some old) (Some new) = row_change old new

-- the locators that a shard names, among all named ones
abbrev pub owned_by : ShardId → List Checked → List Checked
owned_by id checked = filter (λ c. is_owned_by id c.owner) checked

-- the line of the locator of this number among those of a shard, if there are so many
abbrev pub numbered : (ℕ → Checked → RowValue) → List Checked → ℕ → Option RowValue
numbered row own number = option_map (row number) (slice_get own number)

-- the lines of what became of a shard's lines, number by number
abbrev pub shard_change : (ℕ → Checked → RowValue) → (ℕ → Checked → RowValue) → List Checked → List Checked → List ℕ
shard_change row row_now own own_now =
    flat_map (λ number. change (numbered row own number) (numbered row_now own_now number)) (range_with_len 0 (max (len own) (len own_now)))

-- the lines of what became of the lines of these shards
abbrev pub shard_changes :
    (ℕ → Checked → RowValue) → (ℕ → Checked → RowValue) → List Checked → List Checked → List ShardId → List ℕ
shard_changes row row_now shards shards_now ids =
    flat_map (λ id. shard_change row row_now (owned_by id shards) (owned_by id shards_now)) ids

-- the line of a shard's locator by what is found on a disk, and by its loose frames
abbrev pub row_in : Scrubbed → List Standing → ℕ → Checked → RowValue
row_in s loose = row_by (best_of s.all loose) s.all

-- the lines of what became of a manifest but its last line, by what is found on two disks, and by the loose frames of both
abbrev pub manifest_changes : Scrubbed → Scrubbed → List Standing → List Standing → List ShardId → List ℕ
manifest_changes before after_resets loose loose_now ids =
    retired_change before.plan.retired after_resets.plan.retired
    ++ runs_change (lost_run_count before) (hidden_runs before) (lost_run_count after_resets) (hidden_runs after_resets)
    ++ shard_changes (row_in before loose) (row_in after_resets loose_now) (of_shards before.checked) (of_shards after_resets.checked) ids

-- one of these bindings has the identifier
abbrev pub HasBinding : List BindingValue → ShardId → Type 0
HasBinding bindings id = Contains (map (λ b. b.id) bindings) id

-- the identifiers that are bound on one of two disks, ascending, each once
pub record AreBoundIds (old new : List BindingValue) (ids : List ShardId) : Type 0 where
  pub rising : AllPairs IsBelow ids
  pub exact : (id : ShardId) → Contains ids id ↔ (HasBinding old id ⊎ HasBinding new id)

-- ---- the whole text

-- of two images what is found in the earlier one, in the later one, and in that as if extents had been reset;
-- the loose frames of the earlier one, and of the later one outside of these extents; what the pages of extent
-- 0 of both are; the first byte that changed and may not, of extent 0 and of each other one; and the shards
-- that either binds
pub record Compared : Type 0 where
  pub before : Scrubbed
  pub after : Scrubbed
  pub after_resets : Scrubbed
  pub loose : LooseValue
  pub loose_now : LooseValue
  pub pages : List SuperblockPage
  pub pages_now : List SuperblockPage
  pub first : Option ℕ
  pub firsts : List (Option ℕ)
  pub ids : List ShardId

-- each part is as it is in the images
pub record AreCompared (resets : List ℕ) (before after : Image) (c : Compared) : Type 0 where
  pub scrubbed_before : IsScrubbed before c.before
  pub scrubbed_after : IsScrubbed after c.after
  pub scrubbed_after_resets : IsScrubbedBut resets after c.after_resets
  pub loose : AreLoose [] before c.before.plan c.loose
  pub loose_now : AreLoose resets after c.after_resets.plan c.loose_now
  pub pages : AreSuperblockPages before c.pages
  pub pages_now : AreSuperblockPages after c.pages_now
  pub first : IsLeastNumber (IsWrittenInRecords before after) c.first
  pub firsts : AreFirstWritten before after c.before c.after c.firsts
  pub ids : AreBoundIds c.before.bindings c.after_resets.bindings c.ids

-- the lines of the doubts of both images
abbrev pub doubts_of_both : Compared → List ℕ
doubts_of_both c = firm_lines (codes "before") c.pages c.before ++ firm_lines (codes "after") c.pages_now c.after

-- the lines of what became of the extents, the named locators and the manifest
abbrev pub changes : List ℕ → Compared → List ℕ
changes resets c =
    written_line 0 c.first
    ++ extent_lines resets c.before c.after c.firsts
    ++ named_lines resets c.after.checked
    ++ manifest_changes c.before c.after_resets c.loose.frames c.loose_now.frames c.ids

-- the generation of the superblock that counts, if one does
abbrev pub generation_of : Choice → Option ℕ
generation_of choice = option_map (λ c. c.generation) choice.superblock

-- two generations, if both are there
abbrev pub both_of : Option ℕ → Option ℕ → Option (ℕ × ℕ)
both_of (Some old) (Some new) = Some (old, new)
both_of _ _ = None

-- the last line if it isn't safe
abbrev pub unsafe_line : List ℕ
unsafe_line = codes "unsafe" ++ 10 ∷ []

-- the last line if it is
abbrev pub safe_line : ℕ → ℕ → List ℕ
safe_line old new = codes "safe" ++ spaced (decimal old) ++ spaced (decimal new) ++ 10 ∷ []

-- some lines and the last one: that it is safe if there are none before it, or else that it isn't
abbrev pub with_last : ℕ → ℕ → List ℕ → List ℕ
with_last old new lines = lines ++ (if len lines == 0 then safe_line old new else unsafe_line)

-- the whole text by the lines of doubts, the other lines, and the generations; without one of these it has
-- no lines but the doubts and the last one
abbrev pub whole_text : List ℕ → List ℕ → Option (ℕ × ℕ) → List ℕ
whole_text doubts others None = doubts ++ unsafe_line
whole_text doubts others (Some both) = with_last both.0 both.1 (doubts ++ generation_line both.0 both.1 ++ others)

-- it is safe: both superblocks count, and there is no line
abbrev pub is_safe_by : List ℕ → List ℕ → Option (ℕ × ℕ) → Bool
is_safe_by doubts others None = false
is_safe_by doubts others (Some both) = len (doubts ++ generation_line both.0 both.1 ++ others) == 0

-- the generations of two images
abbrev pub generations_in : Compared → Option (ℕ × ℕ)
generations_in c = both_of (generation_of c.before.choice) (generation_of c.after.choice)

-- the whole text
abbrev pub comparison_text : List ℕ → Compared → List ℕ
comparison_text resets c = whole_text (doubts_of_both c) (changes resets c) (generations_in c)

-- whether it is safe
abbrev pub is_safe : List ℕ → Compared → Bool
is_safe resets c = is_safe_by (doubts_of_both c) (changes resets c) (generations_in c)

-- the text is that of what is found in two images, with these extents to be reset, and the truth value says whether it is safe
pub record IsComparison (resets : List ℕ) (before after : Image) (text : List ℕ) (safe : Bool) : Type 0 where
  pub compared : Compared
  pub are : AreCompared resets before after compared
  pub text_is : text ≡ comparison_text resets compared
  pub verdict : safe ≡ is_safe resets compared
