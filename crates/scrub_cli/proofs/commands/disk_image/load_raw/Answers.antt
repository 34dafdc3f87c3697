-- Each way out of `load_raw`, in the order of the code.
use Rattle.std.proofs.Common.{ap, Err}
use Rattle.std.proofs.lemmas.Result.{err_from_is_err_and}
use Rattle.scrub_disk.specs.Parted.{image_of}
use Rattle.scrub_disk.specs.Raw.{every_extent}
use Rattle.scrub_cli.proofs.DiskAnswers.{load_fault, loaded_as_known}
use Rattle.scrub_cli.proofs.commands.disk_image.load_raw.Goals as goal

pub load_in_parts-requires-clause-in_range : goal.load_in_parts-requires-clause-in_range
load_in_parts-requires-clause-in_range g c = λ κs h. rw c.deref.ensures.value c.requires.pages

-- the image was not loaded
pub returns-in_err-disk-clause-disk : goal.returns-in_err-disk-clause-disk
returns-in_err-disk-clause-disk g c known is =
    let p = err_from_is_err_and c.from_residual-in_err-disk.result c.from_residual-in_err-disk.ensures.1 in
    rw (p.1, p.2)
    (load_fault known _ c.args.geometry c.in_err-disk.field-0.0 is.same_bytes
    (λ e. c.in_err-disk.ensures.too_long (ap Err e) _ c.in_ok-readers.ensures.known))

pub returns-clause-disk : goal.returns-clause-disk
returns-clause-disk g c known is blocks keeps =
    let pages = c.args.losses.now.pages.items in
    let image = image_of c.in_ok-disk.disk in
    let loaded = rw c.deref.ensures.value at (c.in_ok-disk.ensures.loaded _ c.in_ok-readers.ensures.known _ c.in_ok-readers.ensures.faults) in
    record {
      before = image;
      loaded =
          loaded_as_known every_extent known _ _ c.args.geometry pages image _ _ is.same_bytes is.same_fails is.same_bound c.in_ok-readers.ensures.bounded loaded;
      rescued = c.in_ok-apply_map.ensures blocks keeps;
    }
