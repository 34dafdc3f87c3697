-- The five writes fill the sixty bytes.
use Rattle.std.proofs.Common.{arith, refl, replicate}
use Rattle.scrub_frame.proofs.Locators.{fields_written}
use Rattle.scrub_frame.proofs.locator.write_locator.Goals as goal

pub returns-clause-bytes : goal.returns-clause-bytes
returns-clause-bytes c =
    fields_written c.args.locator.now c.number_bytes.result c.number_bytes-2.result c.number_bytes-3.result
    c.as_bytes.result.now (replicate 60 0)
    c.put_part.new.bytes c.put_part-2.new.bytes c.put_part-3.new.bytes c.put_part-4.new.bytes c.put_part-5.new.bytes
    c.number_bytes.ensures c.number_bytes-2.ensures c.number_bytes-3.ensures c.as_bytes.ensures (omega arith)
    (omega arith) refl
    c.put_part.ensures c.put_part-2.ensures c.put_part-3.ensures c.put_part-4.ensures c.put_part-5.ensures
