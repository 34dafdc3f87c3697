-- An image has exactly one report, one index and one verdict whether it is clean, since what is found on it is unique.
use Rattle.std.proofs.Common.{◌≡◌, [], refl, ◌∙◌, ap}
use Rattle.list_facts.proofs.OneAnswers.{HasOneAnswer}
use Rattle.scrub_disk.specs.Image.{Image}
use Rattle.scrub_run.specs.Run.{run_bytes}
use Rattle.scrub_found.specs.Scrubbed.{IsScrubbed, Scrubbed, is_clean_disk}
use Rattle.scrub_found.proofs.Existing.{some_scrub}
use Rattle.scrub_found.proofs.OneScrub.{one_scrub}
use Rattle.scrub_report.specs.Answer.{AnswerValue, IsScrubAnswer}
use Rattle.scrub_report.specs.Index.{index_entries}
use Rattle.scrub_report.specs.Report.{report_text}

abbrev answer_for : Scrubbed → AnswerValue
answer_for s = record {
  report = report_text s;
  index = run_bytes (index_entries s.checked s.bindings);
  is_clean = is_clean_disk s;
}

-- An image has exactly one answer.
pub one_answer : (image : Image) → HasOneAnswer (IsScrubAnswer image)
one_answer image = record {
  answer = answer_for found.0;
  meets = record { found = found.0; scrubbed = found.1; report = refl; index = refl; clean = refl };
  only = λ a is.
      let parts : a ≡ answer_for is.found = λ i. record { report = is.report i; index = is.index i; is_clean = is.clean i } in
      parts ∙ ap answer_for (one_scrub image is.found found.0 is.scrubbed found.1);
}
  where
    found : (s : Scrubbed) × IsScrubbed image s
    found = some_scrub [] image
