-- One page down.
use Rattle.std.proofs.Common.{refl}
use Rattle.std.proofs.lemmas.Result.{IfOk-weaker}
use Rattle.scrub_super.proofs.BytesFromPages.{held_bytes, searched_more}
use Rattle.scrub_super.proofs.choosing.Search.read.Goals as goal

pub returns-clause-searched : goal.returns-clause-searched
returns-clause-searched g c =
    let image = g.D.PageSource.image c.args.disk.now in
    IfOk-weaker _ _ _
    (λ _ found. searched_more c.read.result c.requires.searched c.requires.in_pages c.read.ensures.held c.read.ensures.readable refl found c.add_page.ensures.few)
    ((rw c.geometry.ensures at (c.add_page.ensures.found image.page)) (held_bytes c.read.ensures.held c.as_slice.ensures)
    c.requires.searched.found)

pub returns-clause-found : goal.returns-clause-found
returns-clause-found g c =
    let image = g.D.PageSource.image c.args.disk.now in
    (rw c.geometry.ensures at (c.add_page.ensures.on_page image.page)) (held_bytes c.read.ensures.held c.as_slice.ensures)
