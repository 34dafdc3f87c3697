-- An extent that was tiled, but for digests that are put in later.
use Rattle.std.specs.Prelude.{◌≤◌, ◌+◌, ◌*◌, ◌/◌, IfSome}
use Rattle.scrub_disk.specs.Image.{Image}
use Rattle.scrub_scan.specs.declared.group.Tiled.{Tiled}
use Rattle.scrub_scan.specs.steps.Pages.{IsTarget, Scans}
use Rattle.scrub_scan.specs.steps.Gathering.{HasReadTo}

-- the scanner came to the place of an extent of this image, and the tiling could go back to where seals were first trusted
pub record IsTiled (image : Image) (t : Tiled) : Type 0 where
  pub target : IsTarget image t.target
  pub scans : Scans image t.target t.scanner
  pub read : HasReadTo image t.target t.scanner.pages t.place
  pub affordable : IfSome t.collected.trusted_from (λ first.
      t.scanner.pages.asked ≤ first / t.target.page * (image.geometry.pages + 5))
