-- One more locator.
use Rattle.std.proofs.Common.{arith, ap, length, length-append}
use Rattle.list_facts.proofs.Spelling.{fit_more, written_more}
use Rattle.scrub_frame.specs.Locator.{locator_bytes, IsLocator}
use Rattle.scrub_frame.proofs.locator.append_locators.Goals as goal

pub loop-locator-preserved : goal.loop-locator-preserved
loop-locator-preserved c = record {
  fit =
      fit_more IsLocator c.args.locators.now c.loop-locator.locator-index c.locator-item.result c.loop-locator-test.true
      c.locator-item.is c.write_locator.ensures.in_range c.loop-locator.invariant.fit;
  written =
      written_more locator_bytes c.args.out.now.items c.loop-locator.out.items c.append.new.out.items
      c.write_locator.result c.args.locators.now c.loop-locator.locator-index c.locator-item.result
      c.loop-locator-test.true c.locator-item.is c.write_locator.ensures.bytes c.loop-locator.invariant.written
      c.append.ensures.items;
  room = omega (arith, ap length c.append.ensures.items, length-append c.loop-locator.out.items c.write_locator.result);
  grown = omega arith;
}
