-- Each way out of `load_earlier`, in the order of the code.
use Rattle.std.proofs.Common.{ap, inl, inr, refl, sym, ◌∙◌}
use Rattle.std.proofs.lemmas.Result.{err_from_is_err_and}
use Rattle.scrub_cli.specs.DiskImage.{AreLossesKept}
use Rattle.scrub_cli.specs.Manifest.{MayBeReset, may_all_be_reset}
use Rattle.scrub_cli.proofs.CompareAnswers.{each_names}
use Rattle.scrub_cli.proofs.NamedPages.{named_in_range}
use Rattle.scrub_cli.proofs.commands.compare.load_earlier.Goals as goal

-- no sizes were found
pub returns-in_err-geometry-clause-disk : goal.returns-in_err-geometry-clause-disk
returns-in_err-geometry-clause-disk g c =
    let p = err_from_is_err_and c.from_residual.result c.from_residual.ensures.1 in
    rw (p.1, p.2) (inr (inl c.in_err-geometry.ensures.geometry))

-- an extent can't be reset
pub returns-then-not-may_all_be_reset-clause-disk : goal.returns-then-not-may_all_be_reset-clause-disk
returns-then-not-may_all_be_reset-clause-disk g c = inr (inr (
  c.in_ok-geometry.geometry,
  c.in_ok-geometry.ensures.geometry,
  inl (ap (may_all_be_reset c.in_ok-geometry.geometry) (sym c.deref.ensures.value)
      ∙ sym c.may_all_be_reset.ensures ∙ c.if-not-may_all_be_reset.true),
))

-- it isn't known what is lost
pub returns-in_err-losses-clause-disk : goal.returns-in_err-losses-clause-disk
returns-in_err-losses-clause-disk g c =
    let args = c.args.args.now in
    let sizes = c.in_ok-geometry.geometry in
    let places : MayBeReset (g.I.Images.known c.args.images.now args.scan.image.name.now) (g.I.Images.known_map c.args.images.now) args sizes = record {
      sizes = c.in_ok-geometry.ensures.geometry;
      in_disk = ap (may_all_be_reset sizes) (sym c.deref.ensures.value) ∙ sym c.may_all_be_reset.ensures ∙ c.if-not-may_all_be_reset.false;
    } in
    let p = err_from_is_err_and c.from_residual-in_err-losses.result c.from_residual-in_err-losses.ensures.1 in
    rw (p.1, p.2)
    (inr (inr (
      sizes,
      places.sizes,
      inr (
        places,
        inr (inl (
          each_names args.runs.items sizes c.requires.no_runs,
          inl (rw (c.geometry_of.ensures.same_images, c.geometry_of.ensures.same_maps) at c.in_err-losses.ensures.losses),
        )),
      ),
    )))

pub load_raw-requires-clause-pages : goal.load_raw-requires-clause-pages
load_raw-requires-clause-pages g c =
    λ κs h. named_in_range c.in_ok-geometry.geometry c.args.args.now.scan.image.bad_pages.items c.in_ok-losses.losses.pages.items c.in_ok-losses.ensures.losses.named

-- the image isn't loaded
pub returns-in_err-before-clause-disk : goal.returns-in_err-before-clause-disk
returns-in_err-before-clause-disk g c =
    let args = c.args.args.now in
    let maps = g.I.Images.known_map c.args.images.now in
    let sizes = c.in_ok-geometry.geometry in
    let places : MayBeReset (g.I.Images.known c.args.images.now args.scan.image.name.now) maps args sizes = record {
      sizes = c.in_ok-geometry.ensures.geometry;
      in_disk = ap (may_all_be_reset sizes) (sym c.deref.ensures.value) ∙ sym c.may_all_be_reset.ensures ∙ c.if-not-may_all_be_reset.false;
    } in
    let kept : AreLossesKept maps args.scan.image sizes c.in_ok-losses.losses = rw c.geometry_of.ensures.same_maps at c.in_ok-losses.ensures.losses in
    let p = err_from_is_err_and c.from_residual-in_err-before.result c.from_residual-in_err-before.ensures.1 in
    rw (p.1, p.2)
    (inr (inr (
      sizes,
      places.sizes,
      inr (
        places,
        inr (inl (
          each_names args.runs.items sizes c.requires.no_runs,
          inr (
            record { pages = c.in_ok-losses.losses.pages.items; named = kept.named; blocks = kept.map.blocks; mapped = kept.map.are },
            c.in_err-before.ensures.disk _ (rw c.geometry_of.ensures.same_images at c.in_ok-losses.ensures.raw),
          ),
        )),
      ),
    )))

pub returns-clause-disk : goal.returns-clause-disk
returns-clause-disk g c =
    let args = c.args.args.now in
    let maps = g.I.Images.known_map c.args.images.now in
    let sizes = c.in_ok-geometry.geometry in
    let kept : AreLossesKept maps args.scan.image sizes c.in_ok-losses.losses = rw c.geometry_of.ensures.same_maps at c.in_ok-losses.ensures.losses in (
      record {
        places = record {
          sizes = c.in_ok-geometry.ensures.geometry;
          in_disk = ap (may_all_be_reset sizes) (sym c.deref.ensures.value) ∙ sym c.may_all_be_reset.ensures ∙ c.if-not-may_all_be_reset.false;
        };
        pages = c.in_ok-losses.losses.pages.items;
        blocks = kept.map.blocks;
        losses = record { named = kept.named; mapped = kept.map.are };
        loaded =
            c.in_ok-before.ensures.disk _ (rw c.geometry_of.ensures.same_images at c.in_ok-losses.ensures.raw) kept.map.blocks kept.map.keeps;
      },
      refl,
      kept.map.keeps,
    )
