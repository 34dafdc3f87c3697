-- Each way out of `losses_of`, in the order of the code.
use Rattle.std.proofs.Common.{inl, inr}
use Rattle.std.proofs.lemmas.Result.{err_from_is_err_and}
use Rattle.scrub_cli.proofs.GeometryAnswers.{found_again}
use Rattle.scrub_cli.proofs.commands.disk_image.losses_of.Goals as goal

-- an argument names no page
pub returns-in_err-pages-clause-losses : goal.returns-in_err-pages-clause-losses
returns-in_err-pages-clause-losses g c =
    let p = err_from_is_err_and c.from_residual.result c.from_residual.ensures.1 in
    rw (p.1, p.2) (inl (rw c.deref.ensures.value at c.in_err-pages.ensures))

-- the map or the image wasn't opened
pub returns-in_err-opened-clause-losses : goal.returns-in_err-opened-clause-losses
returns-in_err-opened-clause-losses g c =
    let p = err_from_is_err_and c.from_residual-in_err-opened.result c.from_residual-in_err-opened.ensures.1 in
    rw (p.1, p.2)
    (inr (
      rw c.in_err-opened.ensures.not_again at c.requires.found,
      (c.in_ok-pages.pages.items, rw c.deref.ensures.value at c.in_ok-pages.ensures),
      c.in_err-opened.ensures.map,
    ))

pub returns-clause-found : goal.returns-clause-found
returns-clause-found g c left =
    found_again (g.I.Images.known c.args.images.now c.args.args.now.name.now) c.args.geometry c.args.opened (λ o. o.map) c.in_ok-opened.opened.map
    c.requires.found c.in_ok-opened.ensures.same_map left

pub returns-clause-losses : goal.returns-clause-losses
returns-clause-losses g c = record { named = rw c.deref.ensures.value at c.in_ok-pages.ensures; map = c.in_ok-opened.ensures.map }
