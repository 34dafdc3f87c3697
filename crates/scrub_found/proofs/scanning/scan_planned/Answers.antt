-- All extents in use were planned, and taken.
use Rattle.std.proofs.Common.{rules}
use Rattle.scrub_found.proofs.GivenPlans.{takings_from, whole_from}
use Rattle.scrub_found.proofs.scanning.scan_planned.Goals as goal

pub returns-clause-scan : goal.returns-clause-scan
returns-clause-scan g c = λ given resets chosen follows.
    record {
      chosen = chosen;
      planned = follows;
      scanned = search rules;
      whole =
          whole_from given resets c.args.chosen c.args.plan (g.D.PageSource.image c.args.disk.now) c.in_ok-all.all.extents
          chosen follows (search rules);
    }

pub returns-clause-takings : goal.returns-clause-takings
returns-clause-takings g c = λ given resets chosen follows.
    takings_from given resets c.args.chosen c.args.plan (g.D.PageSource.image c.args.disk.now) c.args.workers _ chosen follows
    c.in_ok-all.ensures.workers c.in_ok-all.ensures.partition c.in_ok-all.ensures.counted
