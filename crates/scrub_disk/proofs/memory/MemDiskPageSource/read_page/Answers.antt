-- The page whose mark was set is unreadable.
use Rattle.scrub_disk.proofs.HeldBytes.{read_marked}
use Rattle.scrub_disk.proofs.memory.MemDiskPageSource.read_page.Goals as goal

pub returns-then-index-clause-unreadable : goal.returns-then-index-clause-unreadable
returns-then-index-clause-unreadable c =
    read_marked c.args.self.now.geometry c.args.self.now.bytes.items c.args.self.now.unreadable.items c.args.extent c.args.page
    c.pages.result c.index.result.now
    c.args.self.now.each_page c.requires.in_extents c.requires.in_pages c.pages.ensures c.index.ensures c.if-index.true
