-- The text was written whole, or begun.
use Rattle.scrub_cli.specs.Fault.{text_of}
use Rattle.scrub_cli.specs.Streams.{Gets}
use Rattle.scrub_cli.proofs.Appending.{by_call}
use Rattle.scrub_cli.proofs.process.fault.Fault.end.Goals as goal

pub returns : goal.returns
returns g c = record {
  status = c.status.ensures;
  text =
      by_call (λ told. Gets told (g.E.Write.contents c.args.err.now, g.E.Write.contents c.write_to.new.err) (text_of c.args.self.now))
      c.write_to.result c.write_to.ensures.front c.write_to.ensures.whole;
}
