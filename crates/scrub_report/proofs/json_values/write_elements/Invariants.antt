-- The first elements are written.
use Rattle.std.proofs.Common.{◌≡◌, ◌++◌, take}
use Rattle.scrub_report.specs.steps.Tokens.{shown_tokens}
use Rattle.scrub_report.proofs.json_values.write_elements.Given as goal

abbrev pub invariant-loop-item : goal.invariant-loop-item
invariant-loop-item g l = (l.out.tokens ≡ l.fn.out.tokens ++ shown_tokens g.T.WriteJson.shown (take l.item-index l.items)) × (l.out.before ≡ l.fn.out.before)
