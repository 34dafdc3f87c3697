use Rattle.scrub_scan.proofs.Existing.{some_findings, some_all_findings}
use Rattle.scrub_scan.proofs.all_findings.each_plan_has_all_findings.Goals as goal

pub returns : goal.returns
returns c = record { extent = some_findings; plan = some_all_findings }
