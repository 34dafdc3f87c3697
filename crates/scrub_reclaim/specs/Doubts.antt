-- What may have hidden a newer superblock, a newer binding, or a chunk past a write pointer, and what a reset might take the last copy
-- of: the doubts of a disk, in the order of their lines.
use Rattle.std.specs.Prelude.{◌≡◌, ◌≢◌, ◌≤◌, ◌+◌, ◌-◌, ◌*◌, ◌==◌, ◌&&◌, ◌||◌, ℕ, ⊤, All, Bool, true, false, not, codes, List, [], ◌∷◌, ◌++◌, Option, Some, None, is_none, nat_lt, map, if◌then◌else◌}
use Rattle.std.specs.Fmt.{decimal}
use Rattle.std.specs.Str.{bytes_eq}
use Rattle.scrub_scan.specs.Line.{spaced}
use Rattle.std.specs.Option.{option_map, option_map_or, option_to_list}
use Rattle.std.specs.List.{enumerate_from, filter, filter_map, flat_map, list_all, list_any, range_with_len}
use Rattle.scrub_frame.specs.Frame.{frame_overhead}
use Rattle.scrub_super.specs.declared.pages.SuperblockPage.{SuperblockPage}
use Rattle.scrub_super.specs.declared.pages.SuperblockPage.TheVariants.{Lost, Damaged}
use Rattle.scrub_super.specs.Chosen.{Choice}
use Rattle.scrub_super.specs.Pages.{is_stray}
use Rattle.scrub_scan.specs.Scanned.{Scanned}
use Rattle.scrub_scan.specs.declared.standing.Standing.{Standing}
use Rattle.scrub_check.specs.declared.named.Owner.{Owner}
use Rattle.scrub_check.specs.declared.statuses.checked.Checked.{Checked}
use Rattle.scrub_check.specs.Candidates.{CandidateValue}
use Rattle.scrub_check.specs.Live.{has_sound_at}
use Rattle.scrub_check.specs.Spares.{spares_by, spares_of}
use Rattle.scrub_check.specs.declared.runs.RunState.{RunState}
use Rattle.scrub_check.specs.declared.runs.RunState.TheVariants.{Read}
use Rattle.scrub_loose.specs.Loose.{LooseValue, is_gone, loose_of}
use Rattle.scrub_found.specs.Scrubbed.{Scrubbed}
use Rattle.scrub_found.specs.Texts.{owner_text, state_text}
use Rattle.scrub_listings.specs.Locators.{place_words}
use Rattle.scrub_listings.specs.Summary.{counts_as}
use Rattle.scrub_reclaim.specs.declared.doubts.Doubt.{Doubt}
use Rattle.scrub_reclaim.specs.declared.doubts.Doubt.TheVariants.{NoSuperblock, Tie, Last, SuperblockLost, SuperblockDamaged, SuperblockStray, RunLost, Spare, Loose, Crowded, Tail, TailLost}
use Rattle.scrub_reclaim.specs.declared.page_ranges.PageRange.{PageRange}

-- ---- neighbouring pages

-- a page in front of ranges: the first page of the first range if that range follows it directly, or else a range of its
-- own
abbrev pub with_page : ℕ → List PageRange → List PageRange
with_page q [] = record { first = q; last = q } ∷ []
with_page q (r ∷ rs) = if q + 1 == r.first then record { first = q; last = r.last } ∷ rs else record { first = q; last = q } ∷ r ∷ rs

-- ascending pages joined into as few ranges as possible
abbrev pub page_ranges : List ℕ → List PageRange
page_ranges [] = []
page_ranges (q ∷ qs) = with_page q (page_ranges qs)

-- the pages of a range
abbrev pub pages_within : PageRange → List ℕ
pages_within r = range_with_len r.first (r.last + 1 - r.first)

-- no range is directly followed by the next
abbrev pub HaveGapsBetween : List PageRange → Type 0
HaveGapsBetween [] = ⊤
HaveGapsBetween (r ∷ []) = ⊤
HaveGapsBetween (r ∷ s ∷ rs) = (r.last + 1 ≢ s.first) × HaveGapsBetween (s ∷ rs)

-- no range is empty, the ranges hold just these pages in their order, and none is directly followed by the next
pub record AreJoined (pages : List ℕ) (ranges : List PageRange) : Type 0 where
  pub filled : All (λ r. r.first ≤ r.last) ranges
  pub same : flat_map pages_within ranges ≡ pages
  pub apart : HaveGapsBetween ranges

-- ---- each kind of doubt

-- the doubts of a choice: no superblock counts, or two or more records have the greatest generation
abbrev pub choice_doubts : Choice → List Doubt
choice_doubts choice = (if is_none choice.superblock then NoSuperblock ∷ [] else []) ++ (if choice.tie then Tie ∷ [] else [])

-- the doubt that the last superblock that was written has this generation, unless that is the generation that counts
abbrev pub last_doubt : Choice → ℕ → List Doubt
last_doubt choice last = if counts_as choice last then [] else Last (option_map (λ c. c.generation) choice.superblock) last ∷ []

-- that doubt, if the generation of the last superblock that was written is given
abbrev pub last_doubts : Choice → Option ℕ → List Doubt
last_doubts choice last = option_map_or (last_doubt choice) last []

-- the doubt that page q of extent 0 is unreadable
abbrev pub superblock_lost : ℕ → SuperblockPage → Option Doubt
superblock_lost q Lost = Some (SuperblockLost q)
superblock_lost q _ = None

-- the doubt that page q of extent 0 is damaged: it begins with the letters of a kind of record, and no valid
-- record holds the first of them
abbrev pub superblock_damaged : ℕ → SuperblockPage → Option Doubt
superblock_damaged q (Damaged kind) = Some (SuperblockDamaged q)
superblock_damaged q _ = None

-- the doubt that page q of extent 0 has a byte other than zero that no valid record holds, and isn't damaged
abbrev pub superblock_stray : ℕ → SuperblockPage → Option Doubt
superblock_stray q p = if is_stray p then Some (SuperblockStray q) else None

-- the doubts of one kind for all pages of extent 0, by ascending page
abbrev pub page_doubts : (ℕ → SuperblockPage → Option Doubt) → List SuperblockPage → List Doubt
page_doubts doubt pages = filter_map (λ p. doubt p.0 p.1) (enumerate_from 0 pages)

-- the doubt that index run k is lost, with what became of it
abbrev pub run_lost : ℕ → RunState → Option Doubt
run_lost k Read = None
run_lost k state = Some (RunLost k state)

-- a doubt for each lost index run, by number
abbrev pub run_doubts : List RunState → List Doubt
run_doubts states = filter_map (λ s. run_lost s.0 s.1) (enumerate_from 0 states)

-- the doubt that an extent has nonzero bytes at or past its write pointer, with the first of them and how many there
-- are
abbrev pub tail_doubts : Scanned → List Doubt
tail_doubts f = option_to_list (option_map (λ first. Tail f.extent first f.findings.tail_count) f.findings.tail_first)

-- page q has a byte at or past the write pointer, by the bytes of a page
abbrev pub ends_past : ℕ → ℕ → ℕ → Bool
ends_past page pointer q = nat_lt pointer ((q + 1) * page)

-- the unreadable pages of an extent that have a byte at or past its write pointer, by the bytes of a page
abbrev pub lost_past : ℕ → Scanned → List ℕ
lost_past page f = filter (ends_past page f.pointer) f.findings.bad_pages

-- a doubt for each range of an extent's unreadable pages
abbrev pub range_doubts : ℕ → List PageRange → List Doubt
range_doubts extent ranges = map (λ r. TailLost extent r.first r.last) ranges

-- the doubts of an extent's unreadable pages with a byte at or past its write pointer, joined into as few ranges as
-- possible
abbrev pub tail_lost_doubts : ℕ → Scanned → List Doubt
tail_lost_doubts page f = range_doubts f.extent (page_ranges (lost_past page f))

-- ---- spares

-- a reset might take the spare: it isn't live, and its extent is among these
abbrev pub is_at_risk : List Checked → List ℕ → Standing → Bool
is_at_risk checked extents s = not (has_sound_at checked s.extent s.offset) && list_any (λ n. n == s.extent) extents

-- the spares that no reset of these extents takes
abbrev pub safe_spares : List Checked → List ℕ → List Standing → List Standing
safe_spares checked extents ss = filter (λ s. not (is_at_risk checked extents s)) ss

-- how many bytes the frame takes
abbrev pub frame_bytes : Standing → ℕ
frame_bytes s = s.length + frame_overhead s.form

-- the doubt that some copies make if there are some and none of them stays: that of the first one
abbrev pub first_doubt : (Standing → Doubt) → List Standing → List Standing → List Doubt
first_doubt doubt_of [] stay = []
first_doubt doubt_of (s ∷ ss) [] = doubt_of s ∷ []
first_doubt doubt_of (s ∷ ss) (t ∷ ts) = []

-- the doubt of a spare of this owner's locator
abbrev pub spare_doubt : Owner → Standing → Doubt
spare_doubt owner s = Spare s.extent s.offset s.length s.uuid owner (frame_bytes s)

-- the doubt that the spares of a named locator make if these extents are reset
abbrev pub spare_doubts_of : List Scanned → List Checked → List ℕ → Checked → List Doubt
spare_doubts_of all checked extents c = first_doubt (spare_doubt c.owner) (spares_of all c) (safe_spares checked extents (spares_of all c))

-- the doubts that spares make if the candidates are reset, by named locator
abbrev pub spare_doubts : List Scanned → List Checked → List CandidateValue → List Doubt
spare_doubts all checked candidates = flat_map (spare_doubts_of all checked (map (λ a. a.extent) candidates)) checked

-- the doubts that the spares of one locator make, by the chunks among which its spares are, and those that stay
abbrev pub spare_doubts_by : List Standing → List Standing → Checked → List Doubt
spare_doubts_by found stay c = first_doubt (spare_doubt c.owner) (spares_by found c) (spares_by stay c)

-- ---- loose copies

-- the frame is in one of these extents
abbrev pub is_in : List ℕ → Standing → Bool
is_in extents s = list_any (λ n. n == s.extent) extents

-- the frames that are in none of these extents
abbrev pub outside : List ℕ → List Standing → List Standing
outside extents ss = filter (λ s. not (is_in extents s)) ss

-- the doubt of a loose copy of this owner's locator
abbrev pub loose_doubt : Owner → Standing → Doubt
loose_doubt owner s = Loose s.extent s.offset s.length s.uuid owner (frame_bytes s)

-- the doubt that a named locator's loose copies make, if it has some, and all of them are in these extents
abbrev pub loose_doubts_of : List Scanned → List Standing → List ℕ → Checked → List Doubt
loose_doubts_of all loose extents c = first_doubt (loose_doubt c.owner) (loose_of all loose c) (outside extents (loose_of all loose c))

-- the doubts that loose copies make if the candidates are reset, by named locator
abbrev pub loose_doubts : List Scanned → List Standing → List Checked → List CandidateValue → List Doubt
loose_doubts all loose checked candidates = flat_map (loose_doubts_of all loose (map (λ a. a.extent) candidates)) checked

-- ---- crowded extents

-- the payload of one of these named locators is gone
abbrev pub is_any_gone : List Scanned → List Checked → Bool
is_any_gone all checked = list_any (is_gone all) checked

-- the crowded extents in which no copy was looked for: none, unless a payload is gone
abbrev pub crowded_now : List Scanned → List ℕ → List Checked → List ℕ
crowded_now all crowded checked = if is_any_gone all checked then crowded else []

-- the doubt of a crowded extent, if it is among these
abbrev pub crowded_doubt : List ℕ → ℕ → List Doubt
crowded_doubt extents e = if list_any (λ n. n == e) extents then Crowded e ∷ [] else []

-- the doubts that crowded extents make if the candidates are reset, while a payload is gone
abbrev pub crowded_doubts : List Scanned → List ℕ → List Checked → List CandidateValue → List Doubt
crowded_doubts all crowded checked candidates = flat_map (crowded_doubt (map (λ a. a.extent) candidates)) (crowded_now all crowded checked)

-- ---- all of them

-- all doubts, by kind, from a choice, the generation of the last superblock that was written if it is given, the pages of extent
-- 0, the states of the runs, the bytes of a page, the scanned extents, the loose frames, the named locators and the candidates
abbrev pub doubts_in : Choice → Option ℕ → List SuperblockPage → List RunState → ℕ → List Scanned → LooseValue → List Checked → List CandidateValue → List Doubt
doubts_in choice last pages states page all loose checked candidates =
    choice_doubts choice
    ++ last_doubts choice last
    ++ page_doubts superblock_lost pages
    ++ page_doubts superblock_damaged pages
    ++ page_doubts superblock_stray pages
    ++ run_doubts states
    ++ spare_doubts all checked candidates
    ++ loose_doubts all loose.frames checked candidates
    ++ crowded_doubts all loose.crowded checked candidates
    ++ flat_map tail_doubts all
    ++ flat_map (tail_lost_doubts page) all

-- all doubts of what was found on a disk: by kind, and within a kind by page, run, or extent and page
abbrev pub doubts : Option ℕ → List SuperblockPage → LooseValue → Scrubbed → List Doubt
doubts last pages loose found =
    doubts_in found.choice last pages found.read.states found.plan.geometry.page found.all loose found.checked found.candidates

-- ---- their texts

-- the generation that counts in decimal, or `none`
abbrev pub generation_text : Option ℕ → List ℕ
generation_text None = codes "none"
generation_text (Some generation) = decimal generation

-- a doubt's kind and its numbers
abbrev pub doubt_text : Doubt → List ℕ
doubt_text NoSuperblock = codes "no-superblock"
doubt_text Tie = codes "tie"
doubt_text (Last counts last) = codes "last" ++ spaced (generation_text counts) ++ spaced (decimal last)
doubt_text (SuperblockLost q) = codes "superblock-lost" ++ spaced (decimal q)
doubt_text (SuperblockDamaged q) = codes "superblock-damaged" ++ spaced (decimal q)
doubt_text (SuperblockStray q) = codes "superblock-stray" ++ spaced (decimal q)
doubt_text (RunLost k state) = codes "run-lost" ++ spaced (decimal k) ++ spaced (state_text state)
doubt_text (Spare extent offset size uuid owner bytes) =
    codes "spare" ++ spaced (place_words extent offset size uuid) ++ spaced (owner_text owner) ++ spaced (decimal bytes)
doubt_text (Loose extent offset size uuid owner bytes) =
    codes "loose" ++ spaced (place_words extent offset size uuid) ++ spaced (owner_text owner) ++ spaced (decimal bytes)
doubt_text (Crowded extent) = codes "crowded" ++ spaced (decimal extent)
doubt_text (Tail extent first count) = codes "tail" ++ spaced (decimal extent) ++ spaced (decimal first) ++ spaced (decimal count)
doubt_text (TailLost extent first last) = codes "tail-lost" ++ spaced (decimal extent) ++ spaced (decimal first) ++ spaced (decimal last)

-- ---- what was accepted

-- what a person accepts: doubts by the texts of their lines; and, if it is given, that the last superblock that was written to the
-- disk has this generation, and that nothing was written to the disk after it
pub record Acceptance : Type 0 where
  pub lines : List (List ℕ)
  pub last : Option ℕ

-- what is accepted on a disk: doubts by the texts of their lines; and whether it is known that the superblock that counts is the
-- last one that was written
pub record Accepted : Type 0 where
  pub lines : List (List ℕ)
  pub is_last : Bool

-- the superblock that counts has the generation that was given
abbrev pub is_last : Option ℕ → Choice → Bool
is_last last choice = option_map_or (counts_as choice) last false

-- what is accepted on a disk with this choice
abbrev pub accepted_on : Acceptance → Choice → Accepted
accepted_on a choice = record { lines = a.lines; is_last = is_last a.last choice }

-- the doubt is one that spares make
abbrev pub is_spare : Doubt → Bool
is_spare (Spare extent offset size uuid owner bytes) = true
is_spare _ = false

-- the doubt is one that loose copies make
abbrev pub is_loose : Doubt → Bool
is_loose (Loose extent offset size uuid owner bytes) = true
is_loose _ = false

-- the doubt is one that a crowded extent makes
abbrev pub is_crowded : Doubt → Bool
is_crowded (Crowded extent) = true
is_crowded _ = false

-- the doubt is none if the superblock that counts is the last one that was written, and nothing was written after it
abbrev pub is_settled_by_last : Doubt → Bool
is_settled_by_last (SuperblockDamaged q) = true
is_settled_by_last (SuperblockStray q) = true
is_settled_by_last (Tail extent first count) = true
is_settled_by_last (TailLost extent first last) = true
is_settled_by_last _ = false

-- the doubt may be accepted
abbrev pub may_be_accepted : Doubt → Bool
may_be_accepted d = is_settled_by_last d || is_spare d || is_loose d || is_crowded d

-- one of the lines has the text of the doubt, which may be accepted
abbrev pub is_named : List (List ℕ) → Doubt → Bool
is_named lines doubt = may_be_accepted doubt && list_any (λ line. bytes_eq line (doubt_text doubt)) lines

-- the doubt is accepted: by its line, or with all that the last superblock settles
abbrev pub is_accepted : Accepted → Doubt → Bool
is_accepted accepted doubt = is_named accepted.lines doubt || (accepted.is_last && is_settled_by_last doubt)

-- each of these doubts is accepted
abbrev pub are_accepted : Accepted → List Doubt → Bool
are_accepted accepted list = list_all (is_accepted accepted) list
