-- In zeros nothing is counted, and nothing found.
use Rattle.std.proofs.Common.{◌+◌, sym, ap, option_map}
use Rattle.scrub_scan.proofs.AllZero.{zeros_counted, zeros_nowhere}
use Rattle.scrub_scan.proofs.tail.nonzero_bytes.Goals as goal

pub returns-then-is_zero-clause-count : goal.returns-then-is_zero-clause-count
returns-then-is_zero-clause-count c = sym (zeros_counted c.args.part.now (c.is_zero.ensures.0 c.if-is_zero.true))

pub returns-then-is_zero-clause-first : goal.returns-then-is_zero-clause-first
returns-then-is_zero-clause-first c =
    sym
    (ap (option_map (λ i. c.args.start + i)) (zeros_nowhere c.args.part.now (c.is_zero.ensures.0 c.if-is_zero.true)))
