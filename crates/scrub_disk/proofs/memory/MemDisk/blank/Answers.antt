-- All bytes are zero, and no mark is set.
use Rattle.scrub_disk.proofs.HeldBytes as held
use Rattle.scrub_disk.proofs.memory.MemDisk.blank.Goals as goal

pub returns : goal.returns
returns c =
    rw
    (c.in_ok-bytes.ensures.items_if_clones_equal (λ _ e. e), c.in_ok-unreadable.ensures.items_if_clones_equal (λ _ e. e), c.page.ensures, c.pages.ensures, c.extents.ensures)
    (held.blank c.args.geometry)
