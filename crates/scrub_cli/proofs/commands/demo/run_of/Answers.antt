-- The size of a run of one shard with one chunk.
use Rattle.std.proofs.Common.{ap, length, ◌∙◌}
use Rattle.std.proofs.lemmas.Result.{IfOk-weaker}
use Rattle.scrub_run.specs.Entry.{EntryValue}
use Rattle.scrub_cli.proofs.DemoSizes.{run_size}
use Rattle.scrub_cli.proofs.commands.demo.run_of.Goals as goal

pub returns-clause-size : goal.returns-clause-size
returns-clause-size c =
    IfOk-weaker c.write_run.result _ _ (λ bytes run. run_size c.new-entry.result bytes.items
    (ap (λ (e : EntryValue). length e.locators) c.new-entry.ensures ∙ ap length c.in_ok-from_slice.ensures.items)
    run) c.write_run.ensures.read_again
