-- The law, from the one answer.
use Rattle.list_facts.proofs.OneAnswers.{same_answer}
use Rattle.scrub_report.proofs.OneReport.{one_answer}
use Rattle.scrub_report.proofs.answer.one_report.Goals as goal

pub returns : goal.returns
returns c = λ image. same_answer (one_answer image)
