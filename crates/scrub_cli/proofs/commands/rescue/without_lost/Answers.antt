-- There is one mark for each page, and each marked page is unreadable.
use Rattle.std.proofs.Common.{rules, ◌≡◌, ◌∙◌, ap, ◌*◌, length}
use Rattle.scrub_disk.specs.Image.{disk_bytes}
use Rattle.scrub_cli.proofs.Rescues.{loses_pages, page_blocks}
use Rattle.scrub_cli.proofs.commands.rescue.without_lost.Goals as goal

pub mark_lost-requires : goal.mark_lost-requires
mark_lost-requires g c =
    let sizes = (g.D.PageSource.image c.args.disk).geometry in
    let end : c.extent_bytes.result * c.extents.result ≡ disk_bytes sizes =
    ap (λ n. n * c.extents.result) c.extent_bytes.ensures
    ∙ ap (λ n. c.geometry-geometry.result.page * c.geometry-geometry.result.pages * n) c.extents.ensures
    ∙ ap disk_bytes c.geometry-geometry.ensures in (
      search rules,
      page_blocks sizes c.page.result (c.extent_bytes.result * c.extents.result) (length c.deref.result.now)
          (c.page.ensures ∙ ap (λ x. x.page) c.geometry-geometry.ensures) end
          (ap length c.deref.ensures.value ∙ c.in_ok-lost.ensures.one_each),
    )

pub returns : goal.returns
returns g c = λ blocks keeps.
    let before = g.D.PageSource.image c.args.disk in
    let end : c.extent_bytes.result * c.extents.result ≡ disk_bytes before.geometry =
    ap (λ n. n * c.extents.result) c.extent_bytes.ensures
    ∙ ap (λ n. c.geometry-geometry.result.page * c.geometry-geometry.result.pages * n) c.extents.ensures
    ∙ ap disk_bytes c.geometry-geometry.ensures in
    loses_pages c.deref.result.now c.in_ok-lost.lost.items blocks before (g.D.PageSource.image c.mark_lost.new.disk) c.page.result
    (c.extent_bytes.result * c.extents.result) c.deref.ensures.value
    (c.page.ensures ∙ ap (λ x. x.page) c.geometry-geometry.ensures) end (c.in_ok-lost.ensures.lost blocks keeps) c.mark_lost.ensures
