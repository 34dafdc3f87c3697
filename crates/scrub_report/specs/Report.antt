-- The report: the JSON value (RFC 8259) of each part of what was found. A UUID is written as in RFC 9562, in lower case.
use Rattle.std.specs.Prelude.{◌≡◌, ℕ, List, [], ◌∷◌, ◌++◌, Option, codes, filter, if◌then◌else◌, length, map, option_map}
use Rattle.std.specs.List.{zip}
use Rattle.hex.specs.Hex.{encode_lower}
use Rattle.uuid.specs.Text.{hyphenated_text, lower}
use Rattle.serde_json.specs.Data.{Data, boolean, string}
use Rattle.serde_json.specs.Written.{compact_text}
use Rattle.scrub_disk.specs.Image.{Image}
use Rattle.scrub_frame.specs.declared.locator.Locator.{Locator}
use Rattle.scrub_scan.specs.Line.{line_of}
use Rattle.scrub_scan.specs.Scanned.{Scanned}
use Rattle.scrub_run.specs.declared.shard_id.ShardId.{ShardId}
use Rattle.scrub_merge.specs.Binding.{BindingValue}
use Rattle.scrub_check.specs.declared.statuses.checked.Checked.{Checked}
use Rattle.scrub_check.specs.declared.lists.place.Place.{Place}
use Rattle.scrub_check.specs.declared.lists.place.SharedPlace.{SharedPlace}
use Rattle.scrub_check.specs.declared.runs.RunState.{RunState}
use Rattle.scrub_check.specs.Candidates.{CandidateValue}
use Rattle.scrub_check.specs.Checked.{dangling, hidden, is_hidden}
use Rattle.scrub_check.specs.Chunks.{orphans, twins}
use Rattle.scrub_check.specs.Live.{live_bytes}
use Rattle.scrub_report.specs.Json.{natural, natural_or_null, list, with_keys}
use Rattle.scrub_found.specs.Scrubbed.{Scrubbed, IsScrubbed, is_clean_disk}
use Rattle.scrub_found.specs.Texts.{owner_text, state_text, status_text}

-- a list of numbers: of extents, of pages or of places
abbrev pub numbers_data : List ℕ → Data
numbers_data numbers = list (map natural numbers)

-- one of `dangling` and `hidden`: a locator's extent, length, offset and owner, its status as `reason` unless it is
-- hidden, and its UUID
abbrev pub locator_data : Checked → Data
locator_data c = with_keys (
    (codes "extent", natural c.locator.extent) ∷
    (codes "length", natural c.locator.length) ∷
    (codes "offset", natural c.locator.offset) ∷
    (codes "owner", string (owner_text c.owner)) ∷
    (if is_hidden c.status then [] else (codes "reason", string (status_text c.status)) ∷ [])
    ++ (codes "uuid", string (hyphenated_text lower c.locator.uuid)) ∷ [])

-- one of `orphans` and `twins`: a chunk by its extent, its payload's length, its start and its UUID
abbrev pub place_data : Place → Data
place_data p = with_keys (
    (codes "extent", natural p.extent) ∷
    (codes "length", natural p.length) ∷
    (codes "offset", natural p.offset) ∷
    (codes "uuid", string (hyphenated_text lower p.uuid)) ∷ [])

-- the text of the report of what was found, as compact JSON with a line feed: one object of fifteen keys, in ascending
-- order of their bytes. Of a candidate `keep` has the starts of the chunks to move first; `tail_at` is the offset of an
-- extent's first tail byte, or null; the runs are those of the plan, newest first, and `entries` is null if one is lost;
-- `records` is on how many pages a valid record begins
abbrev pub report_text : Scrubbed → List ℕ
report_text s = compact_text (with_keys (
    (codes "broken", list (map (λ (id : ShardId). string (encode_lower id.0)) s.broken)) ∷ (
      codes "candidates",
      list (map (λ (c : CandidateValue). with_keys (
          (codes "extent", natural c.extent) ∷
          (codes "free", natural c.free) ∷
          (codes "keep", numbers_data (map (λ k. k.start) c.chunks)) ∷ [])) s.candidates),
    ) ∷
    (codes "clean", boolean (is_clean_disk s)) ∷
    (codes "dangling", list (map locator_data (dangling s.checked))) ∷
    (codes "doubtful", list (map (λ (b : BindingValue). string (encode_lower b.id.0)) (filter (λ b. b.doubtful) s.bindings))) ∷ (
      codes "extents",
      list (map (λ (f : Scanned). with_keys (
          (codes "bad", numbers_data f.findings.bad_pages) ∷
          (codes "extent", natural f.extent) ∷
          (codes "items", list (map (λ item. string (line_of item)) f.findings.items)) ∷
          (codes "live", natural (live_bytes s.checked f)) ∷
          (codes "pointer", natural f.pointer) ∷
          (codes "tail", natural f.findings.tail_count) ∷
          (codes "tail_at", natural_or_null f.findings.tail_first) ∷ [])) s.all),
    ) ∷ (
      codes "geometry",
      with_keys (
          (codes "extents", natural s.plan.geometry.extents) ∷
          (codes "page", natural s.plan.geometry.page) ∷
          (codes "pages", natural s.plan.geometry.pages) ∷ []),
    ) ∷
    (codes "hidden", list (map locator_data (hidden s.checked))) ∷
    (codes "orphans", list (map place_data (orphans s.all s.checked))) ∷
    (codes "retired", numbers_data s.plan.retired) ∷ (
      codes "runs",
      list (map (λ (r : Locator × (Option ℕ × RunState)). with_keys (
          (codes "entries", natural_or_null r.1.0) ∷
          (codes "extent", natural r.0.extent) ∷
          (codes "offset", natural r.0.offset) ∷
          (codes "state", string (state_text r.1.1)) ∷ [])) (zip s.plan.runs (zip (map (option_map length) s.read.runs) s.read.states))),
    ) ∷
    (codes "shards", natural (length s.bindings)) ∷ (
      codes "shared",
      list (map (λ (p : SharedPlace). with_keys (
          (codes "count", natural p.count) ∷
          (codes "extent", natural p.extent) ∷
          (codes "offset", natural p.offset) ∷ [])) s.shared),
    ) ∷ (
      codes "super",
      with_keys (
          (codes "bad", numbers_data s.choice.bad_pages) ∷
          (codes "generation", natural_or_null (option_map (λ c. c.generation) s.choice.superblock)) ∷
          (codes "page", natural_or_null s.choice.page) ∷
          (codes "records", natural s.choice.records) ∷
          (codes "tie", boolean s.choice.tie) ∷ []),
    ) ∷
    (codes "twins", list (map place_data (twins s.all))) ∷ [])) ++ 10 ∷ []

-- the text is that of the report of what is found in an image
pub record IsReport (image : Image) (text : List ℕ) : Type 0 where
  pub found : Scrubbed
  pub scrubbed : IsScrubbed image found
  pub text_is : text ≡ report_text found
