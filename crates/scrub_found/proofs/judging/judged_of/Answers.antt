-- The rows are those of the runs that were read.
use Rattle.std.proofs.Common.{rules, length, sym, ◌∙◌, ap}
use Rattle.scrub_check.proofs.Listed.{as_many}
use Rattle.scrub_found.proofs.judging.judged_of.Goals as goal

-- there are as many runs as the plan names
pub run_rows-requires : goal.run_rows-requires
run_rows-requires g c =
    as_many (g.D.PageSource.image c.args.scan.disk.now) c.args.scan.plan c.in_ok-read.read c.in_ok-read.ensures.runs
    ∙ sym (ap length c.runs.ensures.runs)

pub check_named-requires-clause-statuses : goal.check_named-requires-clause-statuses
check_named-requires-clause-statuses g c κs within = rw c.deref.ensures.value c.in_ok-read.ensures.statuses

pub returns-clause-judged : goal.returns-clause-judged
returns-clause-judged g c = λ given resets scanned.
    record {
      read = c.in_ok-read.read;
      rows = search rules;
      doubt = search rules;
      scanned = scanned;
      read_are = search rules;
      map_is = search rules;
      checked = search rules;
    }
