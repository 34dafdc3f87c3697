-- Which extents may be reclaimed, what that frees, and what has to be kept.
use Rattle.std.specs.Prelude.{◌*◌, ◌-◌, ◌==◌, ◌&&◌, ◌||◌, ℕ, Bool, not, nat_lt, List, [], map, if◌then◌else◌}
use Rattle.std.specs.Ordering.{nat_cmp, ordering_then}
use Rattle.std.specs.List.{filter, list_all}
use Rattle.std.specs.List.Sorted.{IsPermutation, IsStrictlySortedBy}
use Rattle.scrub_disk.specs.declared.geometry.Geometry.{Geometry}
use Rattle.scrub_super.specs.Plan.{PlanValue}
use Rattle.scrub_scan.specs.Item.{start_of}
use Rattle.scrub_scan.specs.Scanned.{Scanned}
use Rattle.scrub_check.specs.declared.lists.kept_chunk.KeptChunk.{KeptChunk}
use Rattle.scrub_check.specs.declared.statuses.checked.Checked.{Checked}
use Rattle.scrub_check.specs.Checked.{is_sound}
use Rattle.scrub_check.specs.Live.{live_chunks, live_bytes, size_of}

-- where chunks to keep begin
abbrev pub starts_of : List KeptChunk → List ℕ
starts_of chunks = map (λ k. k.start) chunks

-- an extent to reclaim, how many bytes that frees, and its live chunks, which are kept, ascending
pub record CandidateValue : Type 0 where
  pub extent : ℕ
  pub free : ℕ
  pub chunks : List KeptChunk

-- each named locator with this extent's number is sound
abbrev pub has_sound_alone : List Checked → Scanned → Bool
has_sound_alone checked f = list_all (λ c. not (c.locator.extent == f.extent) || is_sound c.status) checked

-- the extent may be reclaimed: its pointer isn't 0, no unreadable page has a byte below that, each locator to it is
-- sound, and live chunks take at most half of the bytes below the pointer
abbrev pub is_reclaimable : Geometry → List Checked → Scanned → Bool
is_reclaimable g checked f =
    nat_lt 0 f.pointer && list_all (λ q. not (nat_lt (q * g.page) f.pointer)) f.findings.bad_pages
    && has_sound_alone checked f && not (nat_lt f.pointer (2 * live_bytes checked f))

-- an extent as a candidate: where each live chunk begins, and how many bytes its frame takes
abbrev pub candidate_of : List Checked → Scanned → CandidateValue
candidate_of checked f = record { extent = f.extent; free = f.pointer - live_bytes checked f; chunks = map (λ item. record { start = start_of item; bytes = size_of item }) (live_chunks checked f) }

-- the candidates, by what they free, falling, and then by number: none without a superblock or in doubt, and else all
-- extents that may be reclaimed
pub record AreCandidates (plan : PlanValue) (all : List Scanned) (checked : List Checked) (in_doubt : Bool) (candidates : List CandidateValue) : Type 0 where
  pub filtered : IsPermutation (if plan.has_superblock && not in_doubt then map (candidate_of checked) (filter (is_reclaimable plan.geometry checked) all) else []) candidates
  pub ordered : IsStrictlySortedBy (λ (a b : CandidateValue). ordering_then (nat_cmp b.free a.free) (nat_cmp a.extent b.extent)) candidates
