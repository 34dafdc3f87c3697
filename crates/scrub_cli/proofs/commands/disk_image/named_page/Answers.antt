-- An argument is at most one pair, and that pair may be outside the disk.
use Rattle.std.proofs.Common.{arith}
use Rattle.scrub_cli.proofs.commands.disk_image.named_page.Goals.{else-extent-geometry-via-then-extent-geometry+else-page-geometry, else-extent-geometry-via-else-extent-geometry}
use Rattle.scrub_cli.proofs.commands.disk_image.named_page.Goals as goal

-- no pair, and so no page
pub returns-in_err-extent : goal.returns-in_err-extent
returns-in_err-extent c =
    let extents = c.args.geometry.extents_most in
    let pages = c.args.geometry.pages_most in
    rw c.from_residual.ensures (λ at named.
    let in_extents = named.in_extents in
    let in_pages = named.in_pages in
    c.in_err-extent.ensures.pair at.0 at.1 (omega (arith, in_extents, extents)) (omega (arith, in_pages, pages)) named.pair)

-- the pair is outside the disk
pub returns-else-extent-geometry : goal.returns-else-extent-geometry
returns-else-extent-geometry c at named =
    let one = c.in_ok-extent.ensures.only at.0 at.1 named.pair in
    let in_extents = named.in_extents in
    let in_pages = named.in_pages in
    elim c.else-extent-geometry.branch [
      | else-extent-geometry-via-then-extent-geometry+else-page-geometry w ↦
          omega (arith, one.1, in_pages, w.if-page-geometry.false)
      | else-extent-geometry-via-else-extent-geometry w ↦ omega (arith, one.0, in_extents, w.if-extent-geometry.false)
    ]
