-- Each way out of `load_raw_extent`, in the order of the code.
use Rattle.std.proofs.Common.{◌≡◌, arith, ap, Err}
use Rattle.std.proofs.lemmas.Result.{err_from_is_err_and}
use Rattle.scrub_disk.specs.OneExtent.{image_of}
use Rattle.scrub_cli.proofs.DiskAnswers.{load_fault, loaded_as_known}
use Rattle.scrub_cli.proofs.commands.disk_extent.load_raw_extent.Goals as goal

pub extent_of_raw-requires-clause-in_range : goal.extent_of_raw-requires-clause-in_range
extent_of_raw-requires-clause-in_range g c = rw c.deref.ensures.value c.requires.pages

-- the extent was not loaded
pub returns-in_err-disk : goal.returns-in_err-disk
returns-in_err-disk g c known is =
    let p = err_from_is_err_and c.from_residual.result c.from_residual.ensures.1 in
    rw (p.1, p.2)
    (load_fault known _ c.args.geometry c.in_err-disk.field-0.0 is.same_bytes (λ e. c.in_err-disk.ensures.too_long (ap Err e)))

pub returns : goal.returns
returns g c known is blocks keeps = record {
  before = image_of c.in_ok-disk.disk;
  loaded =
      loaded_as_known (λ e. e ≡ c.args.extent) known _ _ c.args.geometry c.args.losses.now.pages.items (image_of c.in_ok-disk.disk) _ _
      is.same_bytes is.same_fails is.same_bound (omega arith) (rw c.deref.ensures.value at c.in_ok-disk.ensures.loaded);
  rescued = c.in_ok-apply_map.ensures blocks keeps;
}
