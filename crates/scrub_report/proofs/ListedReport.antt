-- The lists give the report of what was found, and its verdict.
use Rattle.std.proofs.Common.{◌≡◌, ◌&&◌, ◌++◌, ◌∷◌, [], ℕ, List, Bool, codes, filter, length, map, refl, sym, ap, ◌∙◌}
use Rattle.std.specs.Prelude.{◌==◌, option_map}
use Rattle.std.specs.List.{list_all, zip}
use Rattle.std.proofs.lemmas.List.{length-map}
use Rattle.std.proofs.lemmas.Simd.{map-map}
use Rattle.hex.specs.Hex.{encode_lower}
use Rattle.serde_json.specs.Data.{boolean, string}
use Rattle.serde_json.specs.Written.{compact_text}
use Rattle.scrub_disk.specs.Image.{Image}
use Rattle.scrub_run.specs.declared.shard_id.ShardId.{ShardId}
use Rattle.scrub_merge.specs.Binding.{BindingValue}
use Rattle.scrub_check.specs.declared.statuses.checked.Checked.{Checked}
use Rattle.scrub_check.specs.Checked.{dangling, hidden, is_sound}
use Rattle.scrub_check.specs.Live.{live_bytes}
use Rattle.scrub_report.specs.declared.listed.Listed.{Listed}
use Rattle.scrub_report.specs.declared.listed.JudgedWithoutMap.{JudgedWithoutMap}
use Rattle.scrub_found.specs.declared.judging.DrawnScan.{DrawnScan}
use Rattle.scrub_found.specs.declared.runs.RunRow.{RunRow}
use Rattle.scrub_report.specs.declared.shards.Shards.{Shards}
use Rattle.scrub_report.specs.Json.{list, natural, with_keys}
use Rattle.scrub_report.specs.steps.Lists.{AreListsOf, AreOfSome, AreShardsOf, IsReportBy, is_clean_listed, unlisted}
use Rattle.scrub_found.specs.Judged.{Beside, IsDrawnFrom, IsLivenessBy, found_with, is_clean_by}
use Rattle.scrub_report.specs.Report.{locator_data, numbers_data, place_data, report_text}
use Rattle.scrub_found.specs.Scrubbed.{IsScrubbed, Scrubbed, is_clean_disk}
use Rattle.scrub_report.specs.steps.Tokens.{extent_values, listed_extents, listed_text}
use Rattle.scrub_report.specs.steps.Values.{candidate_data, extent_data, geometry_data, ids_data, row_data, run_data, shared_data, super_data}
use Rattle.scrub_found.proofs.CleanLists.{sound_alone}
use Rattle.scrub_found.proofs.FoundBeside.{beside_drawn, found_drawn}
use Rattle.scrub_found.proofs.Verdicts.{clean_by_sound}
use Rattle.scrub_report.proofs.RunRows.{rows_shown}
use Rattle.scrub_report.proofs.ScannedLive.{beside_scanned}

module _ {D : Type 0} (image : Image) (broken : List ShardId) (checked : List Checked) (d : DrawnScan D) (s : Shards) (l : Listed D)
    (drawn : IsDrawnFrom image checked d) (shards : AreShardsOf d.map s) (are_broken : broken ≡ d.drawn.broken.items)
    (lists : AreListsOf (unlisted d) s l) where
  live : IsLivenessBy d.scan.plan d.scan.all.extents checked d.in_doubt l.liveness
  live = lists.liveness_is checked drawn.lists.locators_are

  those_dangling : l.dangling.items ≡ dangling checked
  those_dangling = lists.dangling_are ∙ drawn.lists.dangling_are

  those_hidden : l.hidden.items ≡ hidden checked
  those_hidden = lists.hidden_are ∙ drawn.lists.hidden_are

  -- what was found
  abbrev beside_it : Beside
  beside_it = beside_drawn image checked d drawn l.liveness.shared.items l.liveness.candidates.items

  abbrev found : Scrubbed
  found = found_with d.scan d.map checked beside_it

  found_there : IsScrubbed image found
  found_there =
      found_drawn image checked d drawn l.liveness.shared.items l.liveness.candidates.items live.shared live.candidates

  none_wrong : (length l.dangling.items == 0 && length l.hidden.items == 0) ≡ list_all (λ c. is_sound c.status) checked
  none_wrong = (λ i. length (those_dangling i) == 0 && length (those_hidden i) == 0) ∙ sound_alone checked

  clean_lists : is_clean_listed l ≡ is_clean_disk found
  clean_lists =
      (λ i. is_clean_by (lists.scan_is i) (lists.runs_are i) (none_wrong i) l.liveness.shared.items)
      ∙ clean_by_sound d.scan d.runs.items d.map checked beside_it drawn.rows

  rows_are : map row_data l.runs.items ≡ map (λ r. run_data r.0 r.1.0 r.1.1)
      (zip d.scan.plan.runs (zip (map (option_map length) drawn.read.runs) drawn.read.states))
  rows_are =
      ap (λ (rows : List RunRow). map row_data rows) lists.runs_are
      ∙ rw (drawn.rows.locators_are, drawn.rows.entries_are, drawn.rows.states_are) at (rows_shown d.runs.items)

  extents_are : list (listed_extents l) ≡ list (map (λ f. extent_data (live_bytes checked f) f) d.scan.all.extents)
  extents_are =
      (λ i. list (extent_values ((lists.scan_is i).all.extents) l.liveness.live.items))
      ∙ ap list (beside_scanned checked d.scan.all.extents l.liveness.live.items live.live)

  doubtful_are : ids_data l.shards.doubtful.items ≡ list (map (λ (b : BindingValue). string (encode_lower b.id.0)) (filter (λ b. b.doubtful) d.map))
  doubtful_are =
      ap (λ (x : Shards). ids_data x.doubtful.items) lists.shards_are ∙ ap ids_data shards.doubtful_are
      ∙ ap list (map-map (λ (id : ShardId). string (encode_lower id.0)) (λ (b : BindingValue). b.id) (filter (λ b. b.doubtful) d.map))

  text_of : (clean : Bool) → clean ≡ is_clean_listed l → listed_text l broken clean ≡ report_text found
  text_of clean known = λ i. compact_text (with_keys (
      (codes "broken", ids_data (are_broken i)) ∷
      (codes "candidates", list (map candidate_data l.liveness.candidates.items)) ∷
      (codes "clean", boolean ((known ∙ clean_lists) i)) ∷
      (codes "dangling", list (map locator_data (those_dangling i))) ∷
      (codes "doubtful", doubtful_are i) ∷
      (codes "extents", extents_are i) ∷
      (codes "geometry", geometry_data ((lists.scan_is i).plan.geometry)) ∷
      (codes "hidden", list (map locator_data (those_hidden i))) ∷
      (codes "orphans", list (map place_data (live.orphans_are i))) ∷
      (codes "retired", numbers_data ((lists.scan_is i).plan.retired)) ∷
      (codes "runs", list (rows_are i)) ∷
      (codes "shards", natural ((ap (λ (x : Shards). x.count) lists.shards_are ∙ shards.count_is) i)) ∷
      (codes "shared", list (map shared_data l.liveness.shared.items)) ∷
      (codes "super", super_data ((lists.scan_is i).chosen)) ∷
      (codes "twins", list (map place_data (lists.twins_are i))) ∷ [])) ++ 10 ∷ []

  -- the text and the verdict are those of what was found
  pub reported : (text : List ℕ) (clean : Bool) → clean ≡ is_clean_listed l → text ≡ listed_text l broken clean →
      IsReportBy image d.map checked text clean
  reported text clean known is = record {
    found = found;
    scrubbed = found_there;
    bindings_are = refl;
    checked_are = refl;
    text_is = is ∙ text_of clean known;
    verdict = known ∙ clean_lists;
  }

-- each extent has its live bytes
pub as_many : {D : Type 0} (d : JudgedWithoutMap D) (s : Shards) (l : Listed D) → AreOfSome d → AreListsOf d s l →
    length l.liveness.live.items ≡ length l.scan.all.extents
as_many d s l some lists =
    ap length (lists.liveness_is some.0 some.1).live
    ∙ length-map d.scan.all.extents (live_bytes some.0) ∙ sym (λ i. length ((lists.scan_is i).all.extents))
