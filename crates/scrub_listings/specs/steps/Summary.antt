-- Steps of the summary: what is counted of what follows from judged locators.
use Rattle.std.specs.Prelude.{◌≡◌}
use Rattle.scrub_check.specs.Checked.{AreBrokenShards}
use Rattle.scrub_check.specs.Chunks.{twins}
use Rattle.scrub_check.specs.Runs.{ReadRunsValue}
use Rattle.scrub_found.specs.declared.judging.Judged.{Judged}
use Rattle.scrub_found.specs.Judged.{Beside, IsLivenessOf}
use Rattle.scrub_listings.specs.declared.summary.CountedLists.{CountedLists}

-- the lists follow from the judged locators
pub record AreSummaryLists {D : Type 0} (j : Judged D) (l : CountedLists) : Type 0 where
  pub liveness_is : IsLivenessOf j l.liveness
  pub twins_are : l.twins.items ≡ twins j.scan.all.extents
  pub broken_are : AreBrokenShards j.checked.items l.broken.items

-- the lists and the runs that were read, beside the judged locators
abbrev pub beside_lists : ReadRunsValue → CountedLists → Beside
beside_lists read l = record {
  read = read;
  shared = l.liveness.shared.items;
  broken = l.broken.items;
  candidates = l.liveness.candidates.items;
}
