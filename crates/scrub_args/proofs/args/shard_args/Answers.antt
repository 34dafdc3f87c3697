-- The arguments of `shard` are those that were found.
use Rattle.scrub_args.proofs.args.shard_args.Goals as goal

pub returns : goal.returns
returns c = record {
  scan = c.in_ok-scan_args.ensures;
  id = c.text.ensures;
  runs = c.in_ok-given_texts.ensures;
}
