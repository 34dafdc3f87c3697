-- The page was asked for.
use Rattle.std.proofs.Common.{arith, refl, rules}
use Rattle.scrub_scan.proofs.ReadPages.{far_read}
use Rattle.scrub_scan.proofs.pages.TwoPages.load_far.Goals as goal

pub returns-then-ne-2-clause-reads : goal.returns-then-ne-2-clause-reads
returns-then-ne-2-clause-reads g c = record {
  near = search rules;
  read = λ n h.
      far_read c.args.self.now _ n c.args.page refl c.read.ensures.number
      (λ small. omega (arith, c.read.ensures.counted, small)) h;
  asked = omega (arith, c.read.ensures.counted);
  known = search rules;
}
