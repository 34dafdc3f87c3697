-- One more page, and the extent once all are read.
use Rattle.std.proofs.Common.{arith, sym, ◌∙◌, ap, ◌≡◌, ◌≤◌, ◌<◌, ◌+◌, ◌*◌, cond, Some, None}
use Rattle.scrub_disk.specs.Image.{extent_bytes}
use Rattle.scrub_disk.proofs.PagesRead.{one_more_page_in_vec, page_answered, all_pages_read, page_fits, length-page_bytes}
use Rattle.scrub_disk.proofs.buffered_extent.read_extent.Goals as goal

pub loop-page-preserved : goal.loop-page-preserved
loop-page-preserved g c =
    let image = g.D.PageSource.image c.args.disk.now in
    let size : c.page-size.result ≡ image.geometry.page =
    c.page-size.ensures ∙ ap (λ x. x.page) c.geometry-geometry.ensures in
    let pages : c.pages-page-end.result ≡ image.geometry.pages =
    c.pages-page-end.ensures ∙ ap (λ x. x.pages) c.geometry-geometry.ensures in
    let below : c.loop-page.page < image.geometry.pages = omega (arith, pages, c.loop-page-test.true) in
    let fits : c.loop-page.page * c.page-size.result + c.page-size.result ≤ extent_bytes image.geometry =
    page_fits c.page-size.result c.loop-page.page image.geometry.pages (extent_bytes image.geometry) below
    (ap (λ m. m * image.geometry.pages) (sym size)) in
    one_more_page_in_vec (image.page c.args.extent) c.page-size.result c.loop-page.page (extent_bytes image.geometry)
    c.loop-page.bytes c.deref_mut.result.now c.read_page-read.new.out c.loop-page.readable.items c.push.new.self.items
    c.is_ok.result
    c.loop-page.invariant.0 c.loop-page.invariant.1 fits c.deref_mut.ensures.value
    (length-page_bytes c.page-size.result (c.loop-page.page * c.page-size.result) (extent_bytes image.geometry) c.deref_mut.result.now c.loop-page.bytes.items c.read_page-read.new.out c.read_page-read.auto.out c.deref_mut.ensures.value c.loop-page.invariant.0 fits)
    (page_answered c.read_page-read.result (image.page c.args.extent c.loop-page.page) c.read_page-read.new.out c.read_page-read.ensures.readable c.read_page-read.ensures.unreadable
    ∙ ap (λ b. cond b (Some c.read_page-read.new.out) None) (sym c.is_ok.ensures.value))
    c.in_ok-push.ensures.items

pub returns : goal.returns
returns g c =
    let image = g.D.PageSource.image c.args.disk.now in
    let pages : c.pages-page-end.result ≡ image.geometry.pages =
    c.pages-page-end.ensures ∙ ap (λ x. x.pages) c.geometry-geometry.ensures in
    let all : c.loop-page.page ≡ image.geometry.pages =
    omega (arith, pages, c.loop-page-test.false, c.loop-page.auto.page-end) in
    all_pages_read image c.args.extent c.page-size.result c.loop-page.page c.loop-page.bytes.items
    c.loop-page.readable.items
    (c.page-size.ensures ∙ ap (λ x. x.page) c.geometry-geometry.ensures) all c.loop-page.invariant.0
    c.loop-page.invariant.1
