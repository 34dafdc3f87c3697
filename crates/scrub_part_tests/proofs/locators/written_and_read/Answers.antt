-- The round trip follows from both contracts and the law that no two locators have the same bytes.
use Rattle.std.proofs.Common.{◌∙◌}
use Rattle.scrub_frame.proofs.Locators.{one_locator_lem}
use Rattle.scrub_part_tests.proofs.locators.written_and_read.Goals as goal

pub returns : goal.returns
returns c =
    one_locator_lem c.read_locator.result c.args.locator.now c.read_locator.ensures.in_range c.write_locator.ensures.in_range
    (c.read_locator.ensures.bytes ∙ c.write_locator.ensures.bytes)
