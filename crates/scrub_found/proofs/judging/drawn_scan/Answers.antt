-- The rows are those of the runs that were read, and the lists those of the checked locators.
use Rattle.std.proofs.Common.{rules, length, sym, ◌∙◌, ap}
use Rattle.scrub_check.proofs.Listed.{as_many}
use Rattle.scrub_found.proofs.judging.drawn_scan.Goals as goal

-- there are as many runs as the plan names
pub run_rows-requires : goal.run_rows-requires
run_rows-requires g c =
    as_many (g.D.PageSource.image c.args.scan.disk.now) c.args.scan.plan c.in_ok-read.read c.in_ok-read.ensures.runs
    ∙ sym (ap length c.runs.ensures.runs)

pub draw_named-requires-clause-statuses : goal.draw_named-requires-clause-statuses
draw_named-requires-clause-statuses g c κs within = rw c.deref.ensures.value c.in_ok-read.ensures.statuses

pub returns : goal.returns
returns g c = (
  c.in_ok-drawn.ensures.checked,
  record {
    read = c.in_ok-read.read;
    rows = search rules;
    doubt = search rules;
    scanned = c.requires;
    read_are = search rules;
    map_is = search rules;
    checked_are = c.in_ok-drawn.ensures.are;
    lists = c.in_ok-drawn.ensures.lists;
  },
)
