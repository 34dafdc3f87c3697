-- The answer of a scrub.
use Rattle.std.specs.Prelude.{◌≡◌, ℕ, List, Bool}
use Rattle.scrub_disk.specs.Image.{Image}
use Rattle.scrub_run.specs.Run.{run_bytes}
use Rattle.scrub_found.specs.Scrubbed.{Scrubbed, IsScrubbed, is_clean_disk}
use Rattle.scrub_report.specs.Report.{report_text}
use Rattle.scrub_report.specs.Index.{index_entries}

-- an answer: the text of the report, the bytes of the index, and whether the disk is clean
pub record AnswerValue : Type 0 where
  pub report : List ℕ
  pub index : List ℕ
  pub is_clean : Bool

-- each part of the answer is that of what is found in the image
pub record IsScrubAnswer (image : Image) (a : AnswerValue) : Type 0 where
  pub found : Scrubbed
  pub scrubbed : IsScrubbed image found
  pub report : a.report ≡ report_text found
  pub index : a.index ≡ run_bytes (index_entries found.checked found.bindings)
  pub clean : a.is_clean ≡ is_clean_disk found
