use Rattle.scrub_scan.proofs.Claims.{only_frame, plain_frame}
use Rattle.scrub_scan.proofs.standing.a_claim_is_of_one_frame.Goals as goal

pub returns-clause-only : goal.returns-clause-only
returns-clause-only c = only_frame

pub returns-clause-plain : goal.returns-clause-plain
returns-clause-plain c = plain_frame
