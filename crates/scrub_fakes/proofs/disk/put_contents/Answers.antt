-- The record was written to an empty list, and put at the start of the page.
use Rattle.std.proofs.Common.{◌∙◌, refl}
use Rattle.scrub_fakes.proofs.Built.{puts_record}
use Rattle.scrub_fakes.proofs.disk.put_contents.Goals as goal

pub returns : goal.returns
returns c =
    puts_record c.geometry-geometry.ensures c.page.ensures refl c.new-record.ensures.items
    c.in_ok-write_record.ensures.ok c.deref.ensures.value (c.len.ensures ∙ c.write_record.new.out.ok.0)
    c.in_ok-put.ensures
