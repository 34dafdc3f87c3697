-- What `<` means, by the bytes.
use Rattle.scrub_run.proofs.Order.{below_decided}
use Rattle.scrub_run.proofs.shard_id.is_below.Goals as goal

pub returns : goal.returns
returns c = below_decided c.args.first c.args.second c.lt.result c.lt.ensures
