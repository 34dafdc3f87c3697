-- A frame of an extent in use is one of an extent other than extent 0, and each of these is in use.
use Rattle.scrub_shard.proofs.ByRuns.{lost_by_runs, lost_if_nowhere}
use Rattle.scrub_shard.proofs.shard.a_lost_payload_is_on_no_extent.Goals as goal

pub returns-clause-none_retired : goal.returns-clause-none_retired
returns-clause-none_retired c = lost_if_nowhere

pub returns-clause-by_runs : goal.returns-clause-by_runs
returns-clause-by_runs c = lost_by_runs
