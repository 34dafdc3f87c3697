-- The report is that of the demo's disk.
use Rattle.std.proofs.lemmas.Result.{IfOk-weaker}
use Rattle.scrub_disk.specs.Memory.{image_of}
use Rattle.scrub_cli.proofs.commands.demo.demo.Goals as goal

pub returns-clause-answer : goal.returns-clause-answer
returns-clause-answer g c =
    IfOk-weaker c.disk_answer.result _ _
    (λ r answer. record { image = image_of c.in_ok-disk.disk; disk = c.in_ok-disk.ensures; answer = answer })
    c.disk_answer.ensures.answer

pub returns-clause-workers : goal.returns-clause-workers
returns-clause-workers g c = IfOk-weaker c.disk_answer.result _ _ (λ r takings. takings.members) c.disk_answer.ensures.takings
