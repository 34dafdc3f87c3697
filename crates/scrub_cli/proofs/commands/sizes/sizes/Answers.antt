-- Something wasn't opened, or the records of the image are listed.
use Rattle.std.proofs.lemmas.Result.{err_from_is_err_and}
use Rattle.scrub_cli.proofs.commands.sizes.sizes.Goals as goal

pub returns-in_err-opened : goal.returns-in_err-opened
returns-in_err-opened g c =
    let p = err_from_is_err_and c.from_residual.result c.from_residual.ensures.1 in
    rw (p.1, p.2) c.in_err-opened.ensures.map

pub returns : goal.returns
returns g c =
    let map = c.in_ok-opened.ensures.map in
    let known = g.I.Images.known c.args.images.now c.args.args.now.name.now in
    record {
      blocks = map.blocks;
      mapped = map.are;
      listed =
          c.in_ok-sizes_listing.ensures known map.blocks
          (c.in_ok-front.ensures.front known c.in_ok-opened.ensures.raw map.blocks map.keeps);
    }
