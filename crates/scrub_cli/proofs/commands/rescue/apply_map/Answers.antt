-- With a map the pages that it lacks are lost, and without one none is.
use Rattle.std.proofs.lemmas.Result.{IfOk-weaker}
use Rattle.scrub_cli.proofs.Rescues.{loses_by_map, loses_none}
use Rattle.scrub_cli.proofs.commands.rescue.apply_map.Goals as goal

pub returns-in-Some : goal.returns-in-Some
returns-in-Some g c =
    rw c.in-Some.is
    (IfOk-weaker c.without_lost.result _ _
    (λ r loses blocks keeps. loses_by_map c.in-Some.map (g.D.PageSource.image c.args.disk) (g.D.PageSource.image r) loses blocks keeps)
    c.without_lost.ensures)

pub returns-in-None : goal.returns-in-None
returns-in-None g c = rw c.in-None.is (λ blocks keeps. loses_none (g.D.PageSource.image c.args.disk) blocks keeps)
