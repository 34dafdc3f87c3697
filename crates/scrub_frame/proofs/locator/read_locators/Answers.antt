-- One more locator is read.
use Rattle.std.proofs.Common.{arith, [], ◌∷◌, ◌∙◌, length-append}
use Rattle.std.proofs.lemmas.List.Elements.{All-push}
use Rattle.list_facts.proofs.Spelling.{read_more}
use Rattle.scrub_frame.specs.Locator.{locator_bytes, IsLocator}
use Rattle.scrub_frame.proofs.locator.read_locators.Goals as goal

pub loop-i-preserved : goal.loop-i-preserved
loop-i-preserved c =
    rw c.in_ok-push.ensures.items (record {
      count =
          omega (arith, length-append c.loop-i.locators.items (c.read_locator.result ∷ []), c.loop-i.invariant.count);
      fit =
          All-push IsLocator c.loop-i.locators.items c.read_locator.result c.loop-i.invariant.fit
          c.read_locator.ensures.in_range;
      spelled =
          read_more locator_bytes 60 c.loop-i.i c.args.bytes.now c.loop-i.locators.items c.read_locator.result
          c.loop-i.invariant.spelled (c.read_locator.ensures.bytes ∙ c.copy_from_slice.ensures.after);
    })
