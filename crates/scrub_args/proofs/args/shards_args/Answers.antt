-- The arguments of `shards` are those that were found.
use Rattle.scrub_args.proofs.args.shards_args.Goals as goal

pub returns : goal.returns
returns c = record {
  scan = c.in_ok-scan_args.ensures;
  runs = c.in_ok-given_texts.ensures;
  is_partial = c.flag.ensures;
}
