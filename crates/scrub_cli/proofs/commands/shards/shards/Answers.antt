-- Each way out of `shards`, in the order of the code.
use Rattle.std.proofs.Common.{Vec, Global, inl, inr}
use Rattle.std.specs.Prelude.{option_map}
use Rattle.std.proofs.lemmas.Result.{err_from_is_err_and}
use Rattle.scrub_disk.specs.Parted.{image_of}
use Rattle.scrub_frame.specs.declared.locator.Locator.{Locator}
use Rattle.scrub_cli.proofs.GivenRunsAnswers.{located_shown}
use Rattle.scrub_cli.proofs.commands.shards.shards.Goals as goal

pub archived-requires-clause-located : goal.archived-requires-clause-located
archived-requires-clause-located g c κs within =
    located_shown c.in_ok-disk.given c.as_deref.result c.as_deref.ensures.value c.in_ok-disk.ensures.located

-- no sizes were found
pub returns-in_err-geometry : goal.returns-in_err-geometry
returns-in_err-geometry g c =
    let p = err_from_is_err_and c.from_residual.result c.from_residual.ensures.1 in
    rw (p.1, p.2) (inr (inl c.in_err-geometry.ensures.geometry))

-- no disk was loaded that has the runs which are given
pub returns-in_err-disk : goal.returns-in_err-disk
returns-in_err-disk g c =
    let p = err_from_is_err_and c.from_residual-in_err-disk.result c.from_residual-in_err-disk.ensures.1 in
    rw (p.1, p.2)
    (inr (inr (
      c.in_ok-geometry.geometry,
      c.in_ok-geometry.ensures.geometry,
      rw (c.geometry_of.ensures.same_images, c.geometry_of.ensures.same_maps, c.deref.ensures.value) at c.in_err-disk.ensures.disk,
    )))

pub returns : goal.returns
returns g c = (
  image_of c.in_ok-disk.disk,
  option_map (λ (v : Vec Locator Global). v.items) c.in_ok-disk.given,
  record {
    disk = record {
      geometry = c.in_ok-geometry.geometry;
      sizes = c.in_ok-geometry.ensures.geometry;
      loaded = rw (c.geometry_of.ensures.same_images, c.geometry_of.ensures.same_maps, c.deref.ensures.value) at c.in_ok-disk.ensures.disk;
    };
    archived = rw c.as_deref.ensures.value at c.in_ok-archived.ensures.answer;
  },
  rw c.as_deref.ensures.value at c.in_ok-archived.ensures.takings,
)
