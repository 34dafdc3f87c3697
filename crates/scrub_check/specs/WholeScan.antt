-- The scan of a whole disk, on which the statuses and the lists of this crate rest.
use Rattle.std.specs.Prelude.{◌≡◌, List}
use Rattle.scrub_disk.specs.Image.{Image}
use Rattle.scrub_super.specs.Planned.{extents_in_use}
use Rattle.scrub_super.specs.Plan.{PlanValue}
use Rattle.scrub_scan.specs.Scanned.{Scanned}
use Rattle.scrub_scan.specs.AllFindings.{AreAllFindings}

-- the scan of a whole disk: the plan is of the disk's sizes, each extent in use is planned, and the findings are those
-- of one reader
pub record IsWholeScan (image : Image) (plan : PlanValue) (all : List Scanned) : Type 0 where
  pub geometry : plan.geometry ≡ image.geometry
  pub planned : plan.planned ≡ extents_in_use image.geometry.extents plan.retired
  pub findings : AreAllFindings image plan all
