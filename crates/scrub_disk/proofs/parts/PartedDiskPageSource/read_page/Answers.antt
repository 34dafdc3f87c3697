-- The page is in its block.
use Rattle.scrub_disk.proofs.JoinedBlocks.{read_in_block, slot_in_block}
use Rattle.scrub_disk.proofs.parts.PartedDiskPageSource.read_page.Goals as goal

pub read_page-requires-clause-pages : goal.read_page-requires-clause-pages
read_page-requires-clause-pages c =
    let d = c.args.self.now in
    rw c.requires.one_page
    (slot_in_block d.geometry d.blocks.items d.stride c.args.extent c.args.page c.pages.result c.index-block.result.now
    d.some d.sizes d.stored d.enough c.requires.in_extents c.requires.in_pages c.pages.ensures c.index-block.ensures).1

pub read_page-requires-clause-in_block : goal.read_page-requires-clause-in_block
read_page-requires-clause-in_block c =
    let d = c.args.self.now in
    (slot_in_block d.geometry d.blocks.items d.stride c.args.extent c.args.page c.pages.result c.index-block.result.now
    d.some d.sizes d.stored d.enough c.requires.in_extents c.requires.in_pages c.pages.ensures c.index-block.ensures).0

pub returns-clause-readable : goal.returns-clause-readable
returns-clause-readable c =
    let d = c.args.self.now in
    read_in_block d.geometry d.blocks.items d.unreadable.items d.stride c.args.extent c.args.page c.pages.result _
    c.index.result.now c.index-block.result.now c.read_page.new.out
    d.some d.sizes d.stored d.enough d.each_page c.requires.in_extents c.requires.in_pages c.pages.ensures c.requires.one_page
    c.index.ensures c.if-index.false c.index-block.ensures c.read_page.ensures
