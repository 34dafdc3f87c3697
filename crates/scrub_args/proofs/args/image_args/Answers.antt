-- The arguments on a disk and its image are those that were found.
use Rattle.std.proofs.Common.{◌∙◌, codes}
use Rattle.clap.specs.Words.{found_of}
use Rattle.clap.proofs.WalkLemmas.{first_value-rows}
use Rattle.scrub_args.proofs.args.image_args.Goals as goal

pub returns : goal.returns
returns c =
    let f = found_of c.args.matches.now in
    record {
      sizes = c.in_ok-given_sizes.ensures;
      name = c.text.ensures;
      bad_pages = c.in_ok-given_texts.ensures;
      map_name = c.get_str.ensures ∙ first_value-rows f (codes "map");
    }
