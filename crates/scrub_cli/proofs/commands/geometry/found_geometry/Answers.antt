-- Something wasn't opened, or the sizes of the records are found, or none.
use Rattle.std.proofs.Common.{inl, inr}
use Rattle.std.proofs.lemmas.Result.{err_from_is_err_and}
use Rattle.scrub_cli.proofs.GeometryAnswers.{sizes_by_front}
use Rattle.scrub_cli.proofs.commands.geometry.found_geometry.Goals as goal

pub returns-in_err-opened-clause-geometry : goal.returns-in_err-opened-clause-geometry
returns-in_err-opened-clause-geometry g c =
    let p = err_from_is_err_and c.from_residual.result c.from_residual.ensures.1 in
    rw (p.1, p.2) (inl c.in_err-opened.ensures.map)

pub returns-in-Certain-clause-geometry : goal.returns-in-Certain-clause-geometry
returns-in-Certain-clause-geometry g c =
    let map = c.in_ok-opened.ensures.map in
    let known = g.I.Images.known c.args.images.now c.args.name.now in
    record {
      blocks = map.blocks;
      mapped = map.are;
      sizes =
          rw (← c.in-Certain.is)
          (sizes_by_front known map.blocks c.in_ok-front.front c.in_ok-found.found
          (c.in_ok-front.ensures.front known c.in_ok-opened.ensures.raw map.blocks map.keeps) c.in_ok-found.ensures);
    }

pub returns-in-Certain-clause-found : goal.returns-in-Certain-clause-found
returns-in-Certain-clause-found g c =
    let known = g.I.Images.known c.args.images.now c.args.name.now in
    rw (c.open.ensures.same_images, ← c.in-Certain.is)
    (λ blocks keeps. sizes_by_front known blocks c.in_ok-front.front c.in_ok-found.found
    (c.in_ok-front.ensures.front known c.in_ok-opened.ensures.raw blocks keeps) c.in_ok-found.ensures)

pub returns-in-Uncertain-clause-geometry : goal.returns-in-Uncertain-clause-geometry
returns-in-Uncertain-clause-geometry g c =
    let map = c.in_ok-opened.ensures.map in
    let known = g.I.Images.known c.args.images.now c.args.name.now in
    inr (record {
      blocks = map.blocks;
      mapped = map.are;
      sizes =
          rw (← c.in-Uncertain.is)
          (sizes_by_front known map.blocks c.in_ok-front.front c.in_ok-found.found
          (c.in_ok-front.ensures.front known c.in_ok-opened.ensures.raw map.blocks map.keeps) c.in_ok-found.ensures);
    })

pub returns-clause-geometry : goal.returns-clause-geometry
returns-clause-geometry g c =
    let map = c.in_ok-opened.ensures.map in
    let known = g.I.Images.known c.args.images.now c.args.name.now in
    inr (record {
      blocks = map.blocks;
      mapped = map.are;
      sizes =
          rw (← c.in-NotFound.is)
          (sizes_by_front known map.blocks c.in_ok-front.front c.in_ok-found.found
          (c.in_ok-front.ensures.front known c.in_ok-opened.ensures.raw map.blocks map.keeps) c.in_ok-found.ensures);
    })
