-- What was read of an index run.
use Rattle.scrub_disk.specs.Image.{Image}
use Rattle.scrub_frame.specs.declared.locator.Locator.{Locator}
use Rattle.scrub_super.specs.Plan.{PlanValue}
use Rattle.scrub_check.specs.declared.runs.RunWithStatus.{RunWithStatus}
use Rattle.scrub_check.specs.Runs.{HasRunIn}
use Rattle.scrub_check.specs.Status.{HasStatusIn}

-- the run of a locator, what became of it, and the status of the locator
pub record IsRunWithStatus (image : Image) (plan : PlanValue) (l : Locator) (r : RunWithStatus) : Type 0 where
  pub run : HasRunIn image plan l r.run r.state
  pub status : HasStatusIn image plan l r.status
