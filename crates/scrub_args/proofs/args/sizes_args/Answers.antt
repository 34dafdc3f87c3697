-- The arguments of `sizes` are those that were found.
use Rattle.std.proofs.Common.{◌∙◌, codes}
use Rattle.clap.specs.Words.{found_of}
use Rattle.clap.proofs.WalkLemmas.{first_value-rows}
use Rattle.scrub_args.proofs.args.sizes_args.Goals as goal

pub returns : goal.returns
returns c = record {
  name = c.text.ensures;
  map_name = c.get_str.ensures ∙ first_value-rows (found_of c.args.matches.now) (codes "map");
}
