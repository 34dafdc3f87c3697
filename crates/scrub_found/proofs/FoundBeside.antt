-- What is found beside judged locators, or by what was drawn from them: with lists that follow from them, and that there are such
-- lists.
use Rattle.std.proofs.Common.{ℕ, List, Option, None}
use Rattle.std.specs.List.Sorted.{IsStrictlyIncreasing}
use Rattle.scrub_disk.specs.Image.{Image}
use Rattle.scrub_frame.specs.declared.locator.Locator.{Locator}
use Rattle.scrub_scan.specs.AllFindings.{extent_numbers}
use Rattle.scrub_run.specs.declared.shard_id.ShardId.{ShardId}
use Rattle.scrub_check.specs.declared.lists.place.SharedPlace.{SharedPlace}
use Rattle.scrub_check.specs.Candidates.{AreCandidates, CandidateValue}
use Rattle.scrub_check.specs.Checked.{AreBrokenShards}
use Rattle.scrub_check.specs.Shared.{AreShared}
use Rattle.scrub_check.proofs.OneList.{some_candidates, the_broken, the_shared}
use Rattle.scrub_check.specs.declared.statuses.checked.Checked.{Checked}
use Rattle.scrub_found.specs.declared.judging.DrawnScan.{DrawnScan}
use Rattle.scrub_found.specs.declared.judging.Judged.{Judged}
use Rattle.scrub_found.specs.Judged.{AreJudgedBut, AreJudgedFrom, Beside, IsDrawnFrom, IsFoundBut, IsFoundFrom, found_with}
use Rattle.scrub_found.specs.Scrubbed.{IsScrubbed}
use Rattle.scrub_found.proofs.GivenPlans.{rising_from}

module _ {D : Type 0} (given : Option (List Locator)) (resets : List ℕ) (image : Image) (j : Judged D) (are : AreJudgedFrom given resets image j) where
  -- these lists beside them
  abbrev pub beside_from : List SharedPlace → List ShardId → List CandidateValue → Beside
  beside_from shared broken candidates = record {
    read = are.read;
    shared = shared;
    broken = broken;
    candidates = candidates;
  }

  -- with lists that follow from them, they are what is found
  pub with_lists_from : (shared : List SharedPlace) (broken : List ShardId) (candidates : List CandidateValue) →
      AreShared j.checked.items shared → AreBrokenShards j.checked.items broken →
      AreCandidates j.scan.plan j.scan.all.extents j.checked.items j.in_doubt candidates →
      IsFoundFrom given resets image j (beside_from shared broken candidates)
  with_lists_from shared broken candidates x y z = record {
    rows = are.rows;
    scrubbed = record {
      choice = are.scanned.chosen;
      plan = are.scanned.planned;
      all = are.scanned.scanned;
      read = are.read_are;
      bindings = are.map_is;
      checked = are.checked;
      shared = x;
      broken = y;
      candidates = rw are.doubt at z;
    };
  }

  rising : IsStrictlyIncreasing (extent_numbers j.scan.all.extents)
  rising =
      rw are.scanned.scanned.extents
      (rising_from given resets image j.scan.chosen j.scan.plan are.scanned.chosen are.scanned.planned)

  -- A list of candidates follows from the judged locators.
  pub some_candidates_from : (candidates : List CandidateValue) × AreCandidates j.scan.plan j.scan.all.extents j.checked.items j.in_doubt candidates
  some_candidates_from = some_candidates j.scan.plan j.scan.all.extents j.checked.items j.in_doubt rising

  -- with some lists, they are what is found
  abbrev pub all_beside_from : Beside
  all_beside_from = beside_from (the_shared j.checked.items).answer (the_broken j.checked.items).answer some_candidates_from.0

  -- With the lists of `all_beside_from`, the judged locators are what is found in the image.
  pub found_beside_from : IsFoundFrom given resets image j all_beside_from
  found_beside_from =
      let shared = the_shared j.checked.items in
      let broken = the_broken j.checked.items in
      with_lists_from shared.answer broken.answer some_candidates_from.0 shared.meets broken.meets some_candidates_from.1

-- ---- by the choice

module _ {D : Type 0} (resets : List ℕ) (image : Image) (j : Judged D) (are : AreJudgedBut resets image j) where
  -- these lists beside them
  abbrev pub beside : List SharedPlace → List ShardId → List CandidateValue → Beside
  beside = beside_from None resets image j are

  -- with lists that follow from them, they are what is found
  pub with_lists : (shared : List SharedPlace) (broken : List ShardId) (candidates : List CandidateValue) →
      AreShared j.checked.items shared → AreBrokenShards j.checked.items broken →
      AreCandidates j.scan.plan j.scan.all.extents j.checked.items j.in_doubt candidates →
      IsFoundBut resets image j (beside shared broken candidates)
  with_lists = with_lists_from None resets image j are

  -- A list of candidates follows from the judged locators.
  pub some_candidates_of : (candidates : List CandidateValue) × AreCandidates j.scan.plan j.scan.all.extents j.checked.items j.in_doubt candidates
  some_candidates_of = some_candidates_from None resets image j are

  -- with some lists, they are what is found
  abbrev pub all_beside : Beside
  all_beside = all_beside_from None resets image j are

  -- With the lists of `all_beside`, the judged locators are what is found in the image.
  pub found_beside : IsFoundBut resets image j all_beside
  found_beside = found_beside_from None resets image j are

-- ---- by what is drawn from the named locators

module _ {D : Type 0} (image : Image) (checked : List Checked) (d : DrawnScan D) (are : IsDrawnFrom image checked d) where
  -- these lists beside them, and the broken shards that were drawn
  abbrev pub beside_drawn : List SharedPlace → List CandidateValue → Beside
  beside_drawn shared candidates = record {
    read = are.read;
    shared = shared;
    broken = d.drawn.broken.items;
    candidates = candidates;
  }

  -- with lists that follow from the checked locators, what is found
  pub found_drawn : (shared : List SharedPlace) (candidates : List CandidateValue) → AreShared checked shared →
      AreCandidates d.scan.plan d.scan.all.extents checked d.in_doubt candidates →
      IsScrubbed image (found_with d.scan d.map checked (beside_drawn shared candidates))
  found_drawn shared candidates x z = record {
    choice = are.scanned.chosen;
    plan = are.scanned.planned;
    all = are.scanned.scanned;
    read = are.read_are;
    bindings = are.map_is;
    checked = are.checked_are;
    shared = x;
    broken = are.lists.broken_are;
    candidates = rw are.doubt at z;
  }
