-- The bytes in memory are those of the image.
use Rattle.std.proofs.Common.{Bool, subst, sym}
use Rattle.std.specs.Prelude.{IsTrue, ◌↔◌}
use Rattle.scrub_scan.specs.Extent.{Extent}
use Rattle.scrub_loose.specs.Outer.{IsReadableExtent}
use Rattle.scrub_loose.specs.steps.Walk.{AreRunsBefore}
use Rattle.scrub_loose.proofs.ReadablePages.{whole_marks}
use Rattle.scrub_loose.proofs.RunsFound.{runs_of_extent}
use Rattle.scrub_loose.proofs.outer.walk_extent.Goals as goal

pub returns : goal.returns
returns g c =
    let image = g.D.PageSource.image c.args.disk.now in
    let e = c.args.extent in
    let rs = c.in_ok-runs.runs.items in
    let before =
    subst (λ (x : Extent). AreRunsBefore x e x.pointer rs) c.in_ok-inside.ensures.same c.in_ok-runs.ensures in
    record {
      runs = runs_of_extent image e before.frames rs c.requires.in_disk before.outer before.runs;
      readable =
          subst (λ (b : Bool). IsTrue b ↔ IsReadableExtent image e) (sym c.is_whole.ensures)
          (whole_marks image e c.in_ok-inside.inside.readable.items c.in_ok-inside.ensures.marks);
    }
