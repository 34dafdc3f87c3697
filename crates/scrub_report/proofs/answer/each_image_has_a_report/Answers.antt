use Rattle.std.proofs.Common.{refl}
use Rattle.scrub_found.proofs.Existing.{some_planned_extents, some_takings}
use Rattle.scrub_report.proofs.OneReport.{one_answer}
use Rattle.scrub_report.proofs.answer.each_image_has_a_report.Goals as goal

pub returns : goal.returns
returns c = record {
  report = λ image. let one = one_answer image in (one.answer, one.meets);
  index = λ image. let one = one_answer image in (one.answer.index, one.answer, one.meets, refl);
  planned = some_planned_extents;
  takings = some_takings;
}
