-- In a page that is the same no byte is refused.
use Rattle.std.proofs.Common.{◌*◌, ◌+◌}
use Rattle.scrub_compare.proofs.ChangedBytes.{page_passes}
use Rattle.scrub_compare.proofs.bytes.first_in_page.Goals as goal

pub returns-then-is_same_page : goal.returns-then-is_same_page
returns-then-is_same_page c =
    page_passes c.args.old.now c.args.new.now c.args.allowed.room c.args.allowed.to c.args.page (c.args.page * c.args.size)
    (c.args.page * c.args.size + c.args.size) (c.is_same_page.ensures c.if-is_same_page.true)
