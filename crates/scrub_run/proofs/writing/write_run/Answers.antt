-- One more entry is written, and at the end they are a run.
use Rattle.std.proofs.Common.{All, arith, refl}
use Rattle.std.proofs.lemmas.Grind.{common_steps}
use Rattle.list_facts.proofs.Spelling.{fit_more, written_more}
use Rattle.scrub_run.specs.steps.Parts.{entry_bytes, IsEntry}
use Rattle.scrub_run.proofs.writing.write_run.Goals as goal

pub loop-entry-preserved : goal.loop-entry-preserved
loop-entry-preserved c = record {
  fit = fit_more IsEntry c.args.entries.now c.loop-entry.entry-index c.entry-item.result c.loop-entry-test.true c.entry-item.is c.in_ok-append.ensures.fit c.loop-entry.invariant.fit;
  written = written_more entry_bytes c.in_ok-run.run' c.loop-entry.run c.append.new.self (entry_bytes c.entry-item.result) c.args.entries.now c.loop-entry.entry-index c.entry-item.result
      c.loop-entry-test.true c.entry-item.is refl c.loop-entry.invariant.written c.in_ok-append.ensures.written;
}

pub returns-clause-read_again : goal.returns-clause-read_again
returns-clause-read_again c =
    let fit : All IsEntry c.args.entries.now = λ k d here. c.loop-entry.invariant.fit k d (omega (arith, here)) in
    grind (arith, common_steps, fit)
