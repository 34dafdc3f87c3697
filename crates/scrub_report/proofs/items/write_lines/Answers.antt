-- At the end all are written.
use Rattle.std.proofs.Common.{◌++◌, arith, ap, ◌∙◌}
use Rattle.std.proofs.lemmas.List.{take_all}
use Rattle.scrub_report.specs.steps.Tokens.{shown_tokens}
use Rattle.scrub_report.specs.steps.Values.{item_data}
use Rattle.scrub_report.proofs.items.write_lines.Goals as goal

pub returns-clause-tokens : goal.returns-clause-tokens
returns-clause-tokens c =
    c.loop-item.invariant.0
    ∙ ap (λ xs. c.args.out.now.tokens ++ shown_tokens item_data xs)
    (take_all c.loop-item.item-index c.args.items.now (omega (arith, c.loop-item-test.false)))
