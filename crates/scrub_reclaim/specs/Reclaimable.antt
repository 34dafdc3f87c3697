-- The lines that say which extents can be reclaimed, and what must be moved first.
use Rattle.std.specs.Prelude.{◌≡◌, ◌≢◌, ◌⊎◌, ◌++◌, ◌∷◌, ◌==◌, ◌&&◌, ◌||◌, [], ℕ, Bool, true, List, All, Contains, Some, codes, length, map, not, if◌then◌else◌}
use Rattle.std.specs.Fmt.{decimal}
use Rattle.std.specs.List.{filter, flat_map, list_all}
use Rattle.scrub_disk.specs.Image.{Image}
use Rattle.scrub_super.specs.declared.pages.SuperblockPage.{SuperblockPage}
use Rattle.scrub_super.specs.Contents.{Contents}
use Rattle.scrub_super.specs.Pages.{AreSuperblockPages}
use Rattle.scrub_scan.specs.Line.{spaced}
use Rattle.scrub_check.specs.declared.lists.kept_chunk.KeptChunk.{KeptChunk}
use Rattle.scrub_check.specs.declared.statuses.checked.Checked.{Checked}
use Rattle.scrub_check.specs.declared.statuses.status.Status.TheVariants.{Sound}
use Rattle.scrub_scan.specs.declared.standing.Standing.{Standing}
use Rattle.scrub_check.specs.Candidates.{CandidateValue}
use Rattle.scrub_check.specs.Live.{has_sound_at}
use Rattle.scrub_check.specs.Spares.{spares_of}
use Rattle.scrub_loose.specs.Loose.{AreLoose, LooseValue, loose_of}
use Rattle.scrub_report.specs.Report.{report_text}
use Rattle.scrub_found.specs.Scrubbed.{Scrubbed, IsScrubbed}
use Rattle.scrub_found.specs.Texts.{owner_text}
use Rattle.scrub_listings.specs.Locators.{place_text}
use Rattle.scrub_reclaim.specs.declared.doubts.Doubt.{Doubt}
use Rattle.scrub_reclaim.specs.Doubts.{Acceptance, Accepted, accepted_on, are_accepted, doubt_text, doubts, is_accepted, is_any_gone, is_crowded, is_loose, is_named, is_settled_by_last, is_spare}
use Rattle.scrub_reclaim.specs.Room.{room_if, room_lines}

-- ---- the lines of doubts

-- the first word of a doubt's line: `accepted` if it was accepted, or else `doubt`
abbrev pub doubt_word : Accepted → Doubt → List ℕ
doubt_word accepted doubt = if is_accepted accepted doubt then codes "accepted" else codes "doubt"

-- the line of a doubt: its first word, its kind and its numbers, and a line feed
abbrev pub doubt_line : Accepted → Doubt → List ℕ
doubt_line accepted doubt = doubt_word accepted doubt ++ spaced (doubt_text doubt) ++ 10 ∷ []

-- the lines of some doubts, in their order
abbrev pub doubt_lines : Accepted → List Doubt → List ℕ
doubt_lines accepted list = flat_map (doubt_line accepted) list

-- ---- the lines of extents to reclaim

-- the named locator points to place p of extent e
abbrev pub points_to : ℕ → ℕ → Checked → Bool
points_to e p c = (c.locator.extent == e) && (c.locator.offset == p)

-- the named locators that point to place p of extent e, in the order of named locators
abbrev pub pointing_to : List Checked → ℕ → ℕ → List Checked
pointing_to checked e p = filter (points_to e p) checked

-- a move: a named locator to a chunk to keep, and how many bytes the chunk's frame takes
pub record MoveValue : Type 0 where
  pub named : Checked
  pub bytes : ℕ

-- the moves of a chunk to keep of extent e: the named locators that point to it, in their order
abbrev pub moves_of : List Checked → ℕ → KeptChunk → List MoveValue
moves_of checked e k = map (λ c. record { named = c; bytes = k.bytes }) (pointing_to checked e k.start)

-- the moves of a candidate, by ascending chunk
abbrev pub moves : List Checked → CandidateValue → List MoveValue
moves checked a = flat_map (moves_of checked a.extent) a.chunks

-- the line of a move: `move EXTENT OFFSET LENGTH UUID OWNER BYTES` and a line feed
abbrev pub move_line : MoveValue → List ℕ
move_line m =
    codes "move" ++ spaced (place_text m.named.locator) ++ spaced (owner_text m.named.owner) ++ spaced (decimal m.bytes) ++ 10 ∷ []

-- the text of an extent to reclaim: `reclaim EXTENT FREE`
abbrev pub freed_text : ℕ → ℕ → List ℕ
freed_text extent free = codes "reclaim" ++ spaced (decimal extent) ++ spaced (decimal free)

-- the line of a candidate: `reclaim EXTENT FREE` and a line feed
abbrev pub reclaim_line : CandidateValue → List ℕ
reclaim_line a = freed_text a.extent a.free ++ 10 ∷ []

-- a candidate's line and those of its moves
abbrev pub candidate_lines : List Checked → CandidateValue → List ℕ
candidate_lines checked a = reclaim_line a ++ flat_map move_line (moves checked a)

-- the lines of some candidates and their moves, in their order
abbrev pub all_candidate_lines : List Checked → List CandidateValue → List ℕ
all_candidate_lines checked candidates = flat_map (candidate_lines checked) candidates

-- ---- the whole text

-- the doubts of what was found, with that of the last generation if it is given
abbrev pub doubts_for : Acceptance → List SuperblockPage → LooseValue → Scrubbed → List Doubt
doubts_for a pages loose found = doubts a.last pages loose found

-- what is accepted of the doubts of what was found
abbrev pub accepted_in : Acceptance → Scrubbed → Accepted
accepted_in a found = accepted_on a found.choice

-- each doubt was accepted
abbrev pub is_clear : Acceptance → List SuperblockPage → LooseValue → Scrubbed → Bool
is_clear a pages loose found = are_accepted (accepted_in a found) (doubts_for a pages loose found)

-- the extents to reclaim: all candidates if each doubt was accepted, or else none
abbrev pub reclaimed : Acceptance → List SuperblockPage → LooseValue → Scrubbed → List CandidateValue
reclaimed accepted pages loose found = if is_clear accepted pages loose found then found.candidates else []

-- the lines of extents with room, if there are extents to reclaim, or else nothing
abbrev pub rooms_for : List CandidateValue → LooseValue → Scrubbed → List ℕ
rooms_for candidates loose found =
    if length candidates == 0 then [] else room_lines found.plan.geometry found.all loose found.checked candidates

-- the lines of the doubts, then those of the extents to reclaim, and then those of extents with room
abbrev pub reclaim_text : Acceptance → List SuperblockPage → LooseValue → Scrubbed → List ℕ
reclaim_text accepted pages loose found =
    doubt_lines (accepted_in accepted found) (doubts_for accepted pages loose found)
    ++ all_candidate_lines found.checked (reclaimed accepted pages loose found)
    ++ rooms_for (reclaimed accepted pages loose found) loose found

-- the text is the lines of the doubts, of the extents to reclaim and of those with room, of what is found in an image; and the
-- truth value says whether each doubt was accepted, so that no line begins with `doubt`
pub record AreReclaimLines (image : Image) (accepted : Acceptance) (text : List ℕ) (clear : Bool) : Type 0 where
  pub found : Scrubbed
  pub scrubbed : IsScrubbed image found
  pub pages : List SuperblockPage
  pub held : AreSuperblockPages image pages
  pub loose : LooseValue
  pub are_loose : AreLoose [] image found.plan loose
  pub text_is : text ≡ reclaim_text accepted pages loose found
  pub verdict : clear ≡ is_clear accepted pages loose found

-- ---- what follows

-- the extents to reclaim are the candidates of a report of the same image, all of them in its order if it is clear, or
-- else none; the lines of the extents with room follow
pub record AreOfCandidates (image : Image) (accepted : Acceptance) (report text : List ℕ) (clear : Bool) : Type 0 where
  pub found : Scrubbed
  pub scrubbed : IsScrubbed image found
  pub pages : List SuperblockPage
  pub held : AreSuperblockPages image pages
  pub loose : LooseValue
  pub are_loose : AreLoose [] image found.plan loose
  pub report_is : report ≡ report_text found
  pub text_is :
      text ≡ doubt_lines (accepted_in accepted found) (doubts_for accepted pages loose found) ++ all_candidate_lines found.checked (if clear then found.candidates else []) ++ rooms_for (if clear then found.candidates else []) loose found

-- a named locator is sound and points to a chunk that a candidate keeps, and with the bytes of the chunk's frame it is among the
-- candidate's moves
pub record IsMoved (checked : List Checked) (a : CandidateValue) (c : Checked) : Type 0 where
  pub sound : c.status ≡ Sound
  pub chunk : KeptChunk
  pub kept : Contains a.chunks chunk
  pub start_is : chunk.start ≡ c.locator.offset
  pub line : Contains (moves checked a) (record { named = c; bytes = chunk.bytes })

-- each named locator into one of these extents is sound, points to a chunk to keep, and is among the moves
abbrev pub AreMoved : List Checked → List CandidateValue → Type 0
AreMoved checked candidates = All (λ a. All (λ c. c.locator.extent ≡ a.extent → IsMoved checked a c) checked) candidates

-- no doubt of a kind was accepted
abbrev pub AcceptsNone : (Doubt → Bool) → Acceptance → List SuperblockPage → LooseValue → Scrubbed → Type 0
AcceptsNone is_of_kind a pages loose found =
    list_all (λ d. not (is_of_kind d && is_accepted (accepted_in a found) d)) (doubts_for a pages loose found) ≡ true

-- no spare was accepted: no line begins with `accepted spare`
abbrev pub AcceptsNoSpare : Acceptance → List SuperblockPage → LooseValue → Scrubbed → Type 0
AcceptsNoSpare a pages loose found = AcceptsNone is_spare a pages loose found

-- no loose copy was accepted: no line begins with `accepted loose`
abbrev pub AcceptsNoLoose : Acceptance → List SuperblockPage → LooseValue → Scrubbed → Type 0
AcceptsNoLoose a pages loose found = AcceptsNone is_loose a pages loose found

-- no crowded extent was accepted: no line begins with `accepted crowded`
abbrev pub AcceptsNoCrowded : Acceptance → List SuperblockPage → LooseValue → Scrubbed → Type 0
AcceptsNoCrowded a pages loose found = AcceptsNone is_crowded a pages loose found

-- a named locator has a spare that is live or in none of these extents
pub record HasSafeSpare (found : Scrubbed) (listed : List CandidateValue) (c : Checked) : Type 0 where
  pub spare : Standing
  pub among : Contains (spares_of found.all c) spare
  pub stays : (has_sound_at found.checked spare.extent spare.offset ≡ true) ⊎ All (λ a. a.extent ≢ spare.extent) listed

-- each named locator that has a spare has one that is live or in none of these extents
abbrev pub KeepsSpares : Scrubbed → List CandidateValue → Type 0
KeepsSpares found listed = All (λ c. spares_of found.all c ≢ [] → HasSafeSpare found listed c) found.checked

-- an extent has no line of room, whether it is listed or not
abbrev pub HasNoRoomLine : LooseValue → Scrubbed → ℕ → Type 0
HasNoRoomLine loose found e =
    (is_listed : Bool) → All (λ f. f.extent ≡ e → room_if is_listed found.plan.geometry found.all loose found.checked f ≡ []) found.all

-- a named locator has a loose copy in none of these extents, in an extent without a line of room
pub record HasSafeLoose (loose : LooseValue) (found : Scrubbed) (listed : List CandidateValue) (c : Checked) : Type 0 where
  pub copy : Standing
  pub among : Contains (loose_of found.all loose.frames c) copy
  pub stays : All (λ a. a.extent ≢ copy.extent) listed
  pub unwritten : HasNoRoomLine loose found copy.extent

-- each named locator that has a loose copy has one in none of these extents, in an extent without a line of room
abbrev pub KeepsLoose : LooseValue → Scrubbed → List CandidateValue → Type 0
KeepsLoose loose found listed = All (λ c. loose_of found.all loose.frames c ≢ [] → HasSafeLoose loose found listed c) found.checked

-- a crowded extent is none of these, and has no line of room
pub record IsLeftAlone (loose : LooseValue) (found : Scrubbed) (listed : List CandidateValue) (e : ℕ) : Type 0 where
  pub stays : All (λ a. a.extent ≢ e) listed
  pub unwritten : HasNoRoomLine loose found e

-- while a payload is gone, each crowded extent is none of these, and has no line of room
abbrev pub KeepsCrowded : LooseValue → Scrubbed → List CandidateValue → Type 0
KeepsCrowded loose found listed = is_any_gone found.all found.checked ≡ true → All (IsLeftAlone loose found listed) loose.crowded

-- ---- by the generation of the last superblock

-- the superblock that counts has this generation, and each doubt is accepted by a line with its text, or is of a kind that the last
-- superblock settles
pub record IsListedByLast (last : ℕ) (a : Acceptance) (pages : List SuperblockPage) (loose : LooseValue) (found : Scrubbed) : Type 0 where
  pub counts : Contents
  pub is : found.choice.superblock ≡ Some counts
  pub generation : counts.generation ≡ last
  pub each : list_all (λ d. is_named a.lines d || is_settled_by_last d) (doubts_for a pages loose found) ≡ true
