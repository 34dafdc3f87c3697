-- The first lines are written.
use Rattle.std.proofs.Common.{◌≡◌, ◌++◌, take}
use Rattle.scrub_report.specs.steps.Tokens.{shown_tokens}
use Rattle.scrub_report.specs.steps.Values.{item_data}
use Rattle.scrub_report.proofs.items.write_lines.Given as goal

abbrev pub invariant-loop-item : goal.invariant-loop-item
invariant-loop-item l = (l.out.tokens ≡ l.fn.out.tokens ++ shown_tokens item_data (take l.item-index l.items)) × (l.out.before ≡ l.fn.out.before)
