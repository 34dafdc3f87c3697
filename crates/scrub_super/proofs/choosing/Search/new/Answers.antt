-- Nothing is held or found after the last page.
use Rattle.std.proofs.Common.{◌∙◌, ap, arith, refl, sym}
use Rattle.scrub_super.proofs.BytesFromPages.{nothing_searched}
use Rattle.scrub_super.proofs.choosing.Search.new.Goals as goal

pub returns : goal.returns
returns g c =
    let image = g.D.PageSource.image c.args.disk.now in
    let pages = ap (λ x. x.pages) c.geometry-geometry.ensures in
    record {
      held = rw c.geometry-geometry.ensures at (c.in_ok-held.ensures image.page);
      found = nothing_searched image refl c.new-found.ensures.newest c.new-found.ensures.records c.new-found.ensures.superblock;
      few = omega (arith, c.new-found.ensures.records);
      count = sym c.in_ok-readable.readable.ok.0 ∙ c.in_ok-readable.ensures.len ∙ c.pages.ensures ∙ pages;
      marks = λ q low high. absurd (omega (arith, low, high));
    }
