-- The extents so far are written, after the comma.
use Rattle.std.proofs.Common.{◌≡◌, map}
use Rattle.scrub_scan.specs.Scanned.{scanned}
use Rattle.scrub_report.specs.steps.Tokens.{pair_data, shown_tokens}
use Rattle.scrub_report.proofs.extents.extents_text.Given as goal

abbrev pub invariant-loop-found : goal.invariant-loop-found
invariant-loop-found g l = record {
  tokens : l.out.tokens ≡ shown_tokens pair_data (map (λ p. (scanned p.0.now, p.1.now)) l.yielded);
  before : l.out.before ≡ l.initial.out.before;
}
