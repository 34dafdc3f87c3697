-- The doubts of the rows are those of their states.
use Rattle.std.proofs.Common.{rules, tests}
use Rattle.std.proofs.lemmas.Iterator.{YieldsList-from_slice, items_from_collect}
use Rattle.std.proofs.lemmas.Iterator.Consumers.{YieldsList-from_enumerate, YieldsList-from_filter_map}
use Rattle.scrub_reclaim.specs.Doubts.{run_lost}
use Rattle.scrub_reclaim.proofs.RunDoubts.{rows_doubted}
use Rattle.scrub_reclaim.proofs.doubting.lost_runs.Goals as goal

pub returns : goal.returns
returns c =
    let by_rows = items_from_collect _ c.collect.ensures.ran
    (YieldsList-from_filter_map _ (λ r. run_lost r.0 r.1.state) (YieldsList-from_enumerate (YieldsList-from_slice c.args.runs.now (cc)) (cc))
    c.filter_map.ensures.closure (λ x r q k. search (rules, tests))) in
    rw (rows_doubted 0 c.args.runs.now) at by_rows
