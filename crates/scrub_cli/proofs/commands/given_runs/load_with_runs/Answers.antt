-- Each way out of `load_with_runs`, in the order of the code.
use Rattle.std.proofs.Common.{inl, inr, subst, sym}
use Rattle.std.proofs.lemmas.Result.{err_from_is_err_and}
use Rattle.scrub_disk.specs.declared.geometry.Geometry.{Geometry as Sizes}
use Rattle.scrub_disk.specs.Parted.{image_of}
use Rattle.scrub_cli.specs.GivenRuns.{NameRuns}
use Rattle.scrub_cli.proofs.GivenRunsAnswers.{loaded_geometry}
use Rattle.scrub_cli.proofs.commands.given_runs.load_with_runs.Goals as goal

-- a word names no place
pub returns-in_err-places-clause-disk : goal.returns-in_err-places-clause-disk
returns-in_err-places-clause-disk g c =
    let p = err_from_is_err_and c.from_residual.result c.from_residual.ensures.1 in
    rw (p.1, p.2) (inl c.in_err-places.ensures)

-- no disk was loaded
pub returns-in_err-disk-clause-disk : goal.returns-in_err-disk-clause-disk
returns-in_err-disk-clause-disk g c =
    let p = err_from_is_err_and c.from_residual-in_err-disk.result c.from_residual-in_err-disk.ensures.1 in
    rw (p.1, p.2) (inr (inl ((c.in_ok-places.places.items, c.in_ok-places.ensures), c.in_err-disk.ensures)))

-- the disk has the sizes for which the places were named
pub given_runs-requires-after_bounds : goal.given_runs-requires-after_bounds
given_runs-requires-after_bounds g c κs =
    let args = c.args.args.now in
    let known = g.I.Images.known c.args.images.now args.name.now in
    let maps = g.I.Images.known_map c.args.images.now in
    rw c.deref.ensures.value
    (subst (λ (s : Sizes). NameRuns s c.args.words.now c.in_ok-places.places.items)
    (sym (loaded_geometry known maps args c.args.geometry (image_of c.in_ok-disk.disk) c.in_ok-disk.ensures)) c.in_ok-places.ensures)

-- at a place there is no run
pub returns-in_err-given-clause-disk : goal.returns-in_err-given-clause-disk
returns-in_err-given-clause-disk g c =
    let p = err_from_is_err_and c.from_residual-in_err-given.result c.from_residual-in_err-given.ensures.1 in
    rw (p.1, p.2) (inr (inr (image_of c.in_ok-disk.disk, c.in_ok-disk.ensures, c.in_err-given.ensures.given)))

pub returns-clause-disk : goal.returns-clause-disk
returns-clause-disk g c = record { loaded = c.in_ok-disk.ensures; gives = c.in_ok-given.ensures.given }
