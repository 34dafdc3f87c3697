use Rattle.scrub_scan.specs.steps.OneFrame.{one_frame_under}
use Rattle.scrub_scan.proofs.standing.one_frame_stands.Goals as goal

pub returns : goal.returns
returns c = one_frame_under
