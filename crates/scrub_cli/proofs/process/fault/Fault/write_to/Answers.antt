-- The limit's name is that of the fault.
use Rattle.std.proofs.Common.{OnOk, ◌++◌, codes, subst}
use Rattle.std.proofs.lemmas.List.{append-nil}
use Rattle.std.specs.Fmt.{decimal}
use Rattle.std.specs.Io.KnownBytes.{Appends}
use Rattle.scrub_cli.specs.Fault.{line}
use Rattle.scrub_report.specs.Output.{AppendsFront}
use Rattle.scrub_cli.proofs.process.fault.Fault.write_to.Goals as goal

pub returns-in-Geometry-clause-front : goal.returns-in-Geometry-clause-front
returns-in-Geometry-clause-front g c =
    rw c.in-Geometry.is (rw c.limit.ensures c.write_line-in-Geometry.ensures.front)

pub returns-in-Geometry-clause-whole : goal.returns-in-Geometry-clause-whole
returns-in-Geometry-clause-whole g c =
    rw c.in-Geometry.is (rw c.limit.ensures c.write_line-in-Geometry.ensures.whole)

-- a line of the map ends with its number
pub returns-in-MapLine-clause-front : goal.returns-in-MapLine-clause-front
returns-in-MapLine-clause-front g c =
    rw c.in-MapLine.is
    (subst (λ text. AppendsFront (g.E.Write.contents c.args.err.now) (g.E.Write.contents c.write_number.new.err) (line text))
    (append-nil (codes "map refused: line " ++ decimal c.in-MapLine.line)) c.write_number.ensures.front)

pub returns-in-MapLine-clause-whole : goal.returns-in-MapLine-clause-whole
returns-in-MapLine-clause-whole g c =
    rw c.in-MapLine.is
    (subst (λ text. OnOk c.write_number.result (Appends (g.E.Write.contents c.args.err.now) (g.E.Write.contents c.write_number.new.err) (line text)))
    (append-nil (codes "map refused: line " ++ decimal c.in-MapLine.line)) c.write_number.ensures.whole)
