use Rattle.std.proofs.Common.{rules, arith}
use Rattle.scrub_pool.proofs.Steps.{merges, is_one, not_one}
use Rattle.scrub_pool.proofs.extent_queue.ExtentQueue.join.Goals as goal

pub absorb-requires-clause-rule : goal.absorb-requires-clause-rule
absorb-requires-clause-rule g c =
    let theirs = c.other.invariant.one in
    let none = not_one _ _ theirs (search rules) in
    merges _ _ _ _ (is_one _ (search rules)) none (omega (arith, theirs, none))
