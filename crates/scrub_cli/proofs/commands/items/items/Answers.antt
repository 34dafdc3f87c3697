-- Each way out of `items`, in the order of the code.
use Rattle.std.proofs.Common.{◌≡◌, arith, ap, inl, inr, ◌∙◌}
use Rattle.std.specs.List.{list_all}
use Rattle.std.proofs.lemmas.Result.{err_from_is_err_and}
use Rattle.scrub_disk.specs.OneExtent.{image_of}
use Rattle.scrub_found.specs.Scrubbed.{is_clean_item}
use Rattle.scrub_cli.specs.DiskImage.{IsLoadedDiskIn}
use Rattle.scrub_cli.specs.Lines.{lines_of}
use Rattle.scrub_cli.specs.Outcome.{outcome_of}
use Rattle.scrub_cli.proofs.ItemsAnswers.{placed, pointer_fault, items_answer}
use Rattle.scrub_cli.proofs.commands.items.items.Goals as goal

-- no sizes were found
pub returns-in_err-geometry : goal.returns-in_err-geometry
returns-in_err-geometry g c =
    let p = err_from_is_err_and c.from_residual.result c.from_residual.ensures.1 in
    rw (p.1, p.2) (inr (inl c.in_err-geometry.ensures.geometry))

-- the disk has no such extent
pub returns-then-args-geometry : goal.returns-then-args-geometry
returns-then-args-geometry g c =
    inr (inr (c.in_ok-geometry.geometry, c.in_ok-geometry.ensures.geometry, inl (omega (arith, c.if-args-geometry.true))))

-- the pointer is past the end of the extent
pub returns-then-pointer-extent_bytes : goal.returns-then-pointer-extent_bytes
returns-then-pointer-extent_bytes g c =
    pointer_fault (g.I.Images.known c.args.images.now c.args.args.now.image.name.now) (g.I.Images.known_map c.args.images.now)
    c.args.args.now c.in_ok-geometry.geometry
    c.unwrap_or-pointer.result c.extent_bytes.result c.extent_bytes-2.result c.in_ok-geometry.ensures.geometry
    (omega (arith, c.if-args-geometry.false))
    c.unwrap_or-pointer.ensures c.extent_bytes.ensures c.extent_bytes-2.ensures c.if-pointer-extent_bytes.true

-- no disk was loaded
pub returns-in_err-disk : goal.returns-in_err-disk
returns-in_err-disk g c =
    let args = c.args.args.now in
    let disk = c.in_ok-geometry.geometry in
    let at = placed (g.I.Images.known c.args.images.now args.image.name.now) (g.I.Images.known_map c.args.images.now) args disk c.unwrap_or-pointer.result c.extent_bytes.result c.extent_bytes-2.result c.in_ok-geometry.ensures.geometry
    (omega (arith, c.if-args-geometry.false)) c.unwrap_or-pointer.ensures c.extent_bytes.ensures c.extent_bytes-2.ensures
    (omega (arith, c.if-pointer-extent_bytes.false)) in
    let p = err_from_is_err_and c.from_residual-in_err-disk.result c.from_residual-in_err-disk.ensures.1 in
    rw (p.1, p.2)
    (inr (inr (
      disk,
      c.in_ok-geometry.ensures.geometry,
      inr (at.0, rw (c.geometry_of.ensures.same_images, c.geometry_of.ensures.same_maps) at c.in_err-disk.ensures),
    )))

pub returns : goal.returns
returns g c =
    let args = c.args.args.now in
    let disk = c.in_ok-geometry.geometry in
    let at = placed (g.I.Images.known c.args.images.now args.image.name.now) (g.I.Images.known_map c.args.images.now) args disk c.unwrap_or-pointer.result c.extent_bytes.result c.extent_bytes-2.result c.in_ok-geometry.ensures.geometry
    (omega (arith, c.if-args-geometry.false)) c.unwrap_or-pointer.ensures c.extent_bytes.ensures c.extent_bytes-2.ensures
    (omega (arith, c.if-pointer-extent_bytes.false)) in
    let known = g.I.Images.known c.args.images.now args.image.name.now in
    let maps = g.I.Images.known_map c.args.images.now in
    let answer = c.in_ok-listing.field-0 in
    let tiling = c.in_ok-tiling.tiling in
    let loaded : IsLoadedDiskIn (λ e. e ≡ args.extent) known maps args.image disk (image_of c.in_ok-disk.disk) =
    rw (c.geometry_of.ensures.same_images, c.geometry_of.ensures.same_maps) at c.in_ok-disk.ensures in
    items_answer known maps args disk (image_of c.in_ok-disk.disk) c.unwrap_or-pointer.result answer.text.items answer.outcome at.0
    loaded at.1
    (record {
      items = tiling;
      tiled = c.in_ok-tiling.ensures;
      spelled = c.in_ok-listing.ensures.text ∙ ap lines_of c.as_slice.ensures;
      ended = c.in_ok-listing.ensures.outcome ∙ ap (λ is. outcome_of (list_all is_clean_item is)) c.as_slice.ensures;
    })
