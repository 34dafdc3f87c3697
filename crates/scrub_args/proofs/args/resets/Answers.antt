-- The numbers, sorted and each once.
use Rattle.scrub_args.proofs.Numbers.{rising_once}
use Rattle.scrub_args.proofs.args.resets.Goals as goal

pub returns : goal.returns
returns c =
    let once = rising_once c.in_ok-resets.resets.items c.sort.new.self.items c.dedup.new.self.items c.in_ok-sort.ensures.permutation c.in_ok-sort.ensures.sorted c.dedup.ensures.filtered in
    record {
      numbers = c.in_ok-resets.resets.items;
      given = c.in_ok-resets.ensures;
      rising = once.0;
      same = once.1;
    }
