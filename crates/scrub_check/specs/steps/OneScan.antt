-- That a scan is whole can hold in one way alone.
use Rattle.std.proofs.Common.{List}
use Rattle.std.proofs.Props.{props}
use Rattle.scrub_disk.specs.Image.{Image}
use Rattle.scrub_super.specs.Plan.{PlanValue}
use Rattle.scrub_scan.specs.Scanned.{Scanned}
use Rattle.scrub_scan.specs.steps.Props.{IsFindings-prop}
use Rattle.scrub_scan.specs.AllFindings.{AreAllFindings}
use Rattle.scrub_check.specs.WholeScan.{IsWholeScan}

-- the findings of a plan can be those of an image in one way alone
AreAllFindings-prop : (image : Image) (plan : PlanValue) (all : List Scanned) → IsProp (AreAllFindings image plan all)
AreAllFindings-prop image plan all = hlevel (IsFindings-prop, props)

-- a scan can be whole in one way alone
pub IsWholeScan-prop : (image : Image) (plan : PlanValue) (all : List Scanned) → IsProp (IsWholeScan image plan all)
IsWholeScan-prop image plan all = hlevel (AreAllFindings-prop, props)
