use Rattle.std.proofs.Common.{◌≡◌, None, length}
use Rattle.scrub_book.specs.Worker.{held_by, results_of}
use Rattle.scrub_pool.specs.steps.Working.{IsSamePart, IsAtWork}
use Rattle.scrub_pool.proofs.worker.take_until_empty.Given as goal

abbrev pub invariant-loop : goal.invariant-loop
invariant-loop g l =
    (goal.iterator-loop g).can_next l.iterator' × (goal.iterator-loop g).is_finite l.iterator'
    × IsSamePart l.initial.pass l.pass
    × (l.share.parts ≡ 1) × (l.share.amount ≡ length (results_of l.core)) × (held_by l.core ≡ None) × IsAtWork
    l.job.queue.now l.job.plan.now (g.D.PageSource.image l.disk) l.pass l.core
