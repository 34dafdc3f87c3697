-- Each way out of `load_disk`, in the order of the code.
use Rattle.std.proofs.Common.{inl, inr}
use Rattle.std.proofs.lemmas.Result.{err_from_is_err_and}
use Rattle.scrub_disk.specs.Parted.{image_of}
use Rattle.scrub_disk.specs.Raw.{every_extent}
use Rattle.scrub_cli.specs.DiskImage.{AreReadBefore, IsDiskFault, IsLoadedDisk}
use Rattle.scrub_cli.proofs.DiskAnswers.{loaded_disk, matched}
use Rattle.scrub_cli.proofs.NamedPages.{named_in_range}
use Rattle.scrub_cli.proofs.commands.disk_image.load_disk.Goals as goal

-- it isn't known what is lost
pub returns-in_err-losses : goal.returns-in_err-losses
returns-in_err-losses g c =
    let p = err_from_is_err_and c.from_residual.result c.from_residual.ensures.1 in
    rw (p.1, p.2) (inl c.in_err-losses.ensures.losses)

pub load_raw-requires-clause-pages : goal.load_raw-requires-clause-pages
load_raw-requires-clause-pages g c =
    λ κs h. named_in_range c.args.geometry c.args.args.now.bad_pages.items c.in_ok-losses.losses.pages.items c.in_ok-losses.ensures.losses.named

-- the image is loaded, or isn't
pub returns : goal.returns
returns g c =
    let args = c.args.args.now in
    let disk = c.args.geometry in
    let known = g.I.Images.known c.args.images.now args.name.now in
    let maps = g.I.Images.known_map c.args.images.now in
    let losses = c.in_ok-losses.ensures.losses in
    let before : AreReadBefore maps args disk =
    record { pages = c.in_ok-losses.losses.pages.items; named = losses.named; blocks = losses.map.blocks; mapped = losses.map.are } in
    matched c.load_raw.result _ (λ d. IsLoadedDisk known maps args disk (image_of d)) _ (IsDiskFault known maps args disk)
    (c.load_raw.ensures.disk known c.in_ok-losses.ensures.raw)
    (λ d loaded. loaded_disk every_extent known maps args disk c.in_ok-losses.losses (image_of d) losses c.in_ok-losses.ensures.found loaded)
    (λ fault is. inr (before, is))
