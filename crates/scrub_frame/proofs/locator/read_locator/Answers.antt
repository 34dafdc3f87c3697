-- The fields that were read are spelled by the bytes.
use Rattle.std.proofs.Common.{arith, drop, ◌∙◌}
use Rattle.std.proofs.lemmas.List.{take-take}
use Rattle.scrub_frame.proofs.Locators.{fields_read}
use Rattle.scrub_frame.proofs.locator.read_locator.Goals as goal

pub returns-clause-bytes : goal.returns-clause-bytes
returns-clause-bytes c =
    fields_read c.args.bytes.now c.uuid_at.result c.copy_from_slice.new.self c.read_u32.result c.read_u32-2.result
    c.read_u32-3.result c.told-bytes c.fits-bytes
    c.read_u32.ensures c.read_u32-2.ensures c.read_u32-3.ensures
    (c.uuid_at.ensures ∙ take-take 16 16 (drop 12 c.args.bytes.now) (omega arith)) c.copy_from_slice.ensures.after
