-- What was scanned is that of the image, by the runs that are given or by the superblock that counts.
use Rattle.scrub_found.specs.GivenRuns.{given_in}
use Rattle.scrub_shard.proofs.shard.read_shard.Goals as goal

pub shard_of-requires-after_bounds : goal.shard_of-requires-after_bounds
shard_of-requires-after_bounds g c κs within = c.in_ok-scan.ensures.scan.whole

pub returns-clause-shard : goal.returns-clause-shard
returns-clause-shard g c =
    rw c.in_ok-scan.ensures.image at (c.in_ok-answer.ensures (given_in c.args.given) c.in_ok-scan.ensures.scan)
