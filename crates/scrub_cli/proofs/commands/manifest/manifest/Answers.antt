-- Each way out of `manifest`, in the order of the code.
use Rattle.std.proofs.Common.{Vec, Global, ap, inl, inr, sym, ◌∙◌}
use Rattle.std.specs.Prelude.{option_map}
use Rattle.std.proofs.lemmas.Result.{err_from_is_err_and}
use Rattle.scrub_disk.specs.Parted.{image_of}
use Rattle.scrub_frame.specs.declared.locator.Locator.{Locator}
use Rattle.scrub_cli.specs.Manifest.{MayBeReset, may_all_be_reset}
use Rattle.scrub_cli.proofs.GivenRunsAnswers.{located_shown}
use Rattle.scrub_cli.proofs.commands.manifest.manifest.Goals as goal

pub manifest_listing-requires-clause-located : goal.manifest_listing-requires-clause-located
manifest_listing-requires-clause-located g c κs within =
    located_shown c.in_ok-disk.given c.as_deref-given.result c.as_deref-given.ensures.value c.in_ok-disk.ensures.located

-- no sizes were found
pub returns-in_err-geometry : goal.returns-in_err-geometry
returns-in_err-geometry g c =
    let p = err_from_is_err_and c.from_residual.result c.from_residual.ensures.1 in
    rw (p.1, p.2) (inr (inl c.in_err-geometry.ensures.geometry))

-- an extent can't be reset
pub returns-then-not-may_all_be_reset : goal.returns-then-not-may_all_be_reset
returns-then-not-may_all_be_reset g c = inr (inr (
  c.in_ok-geometry.geometry,
  c.in_ok-geometry.ensures.geometry,
  inl (ap (may_all_be_reset c.in_ok-geometry.geometry) (sym c.deref.ensures.value)
      ∙ sym c.may_all_be_reset.ensures ∙ c.if-not-may_all_be_reset.true),
))

-- no disk was loaded
pub returns-in_err-disk : goal.returns-in_err-disk
returns-in_err-disk g c =
    let args = c.args.args.now in
    let known = g.I.Images.known c.args.images.now args.scan.image.name.now in
    let maps = g.I.Images.known_map c.args.images.now in
    let sizes = c.in_ok-geometry.geometry in
    let places : MayBeReset known maps args sizes = record {
      sizes = c.in_ok-geometry.ensures.geometry;
      in_disk = ap (may_all_be_reset sizes) (sym c.deref.ensures.value) ∙ sym c.may_all_be_reset.ensures ∙ c.if-not-may_all_be_reset.false;
    } in
    let p = err_from_is_err_and c.from_residual-in_err-disk.result c.from_residual-in_err-disk.ensures.1 in
    rw (p.1, p.2)
    (inr (inr (
      sizes,
      c.in_ok-geometry.ensures.geometry,
      inr (places, rw (c.geometry_of.ensures.same_images, c.geometry_of.ensures.same_maps, c.deref-2.ensures.value) at c.in_err-disk.ensures.disk),
    )))

pub returns : goal.returns
returns g c = (
  image_of c.in_ok-disk.disk,
  option_map (λ (v : Vec Locator Global). v.items) c.in_ok-disk.given,
  record {
    disk = record {
      geometry = c.in_ok-geometry.geometry;
      places = record {
        sizes = c.in_ok-geometry.ensures.geometry;
        in_disk =
            ap (may_all_be_reset c.in_ok-geometry.geometry) (sym c.deref.ensures.value) ∙ sym c.may_all_be_reset.ensures
            ∙ c.if-not-may_all_be_reset.false;
      };
      loaded = rw (c.geometry_of.ensures.same_images, c.geometry_of.ensures.same_maps, c.deref-2.ensures.value) at c.in_ok-disk.ensures.disk;
    };
    listed = rw (c.as_deref-given.ensures.value, c.deref-3.ensures.value) at c.in_ok-manifest_listing.ensures.answer;
  },
  rw c.as_deref-given.ensures.value at c.in_ok-manifest_listing.ensures.takings,
)
