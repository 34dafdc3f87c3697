use Rattle.std.proofs.Common.{arith, ap, get_or}
use Rattle.list_facts.proofs.Rising.{All_below_at}
use Rattle.scrub_pool.proofs.Steps.{pushes, queue_at_most_pushed}
use Rattle.scrub_pool.proofs.extent_queue.push_next.Goals as goal

pub push_as-requires-clause-rule : goal.push_as-requires-clause-rule
push_as-requires-clause-rule g c =
    let is = c.requires.front in
    let alive = ap (λ v. v.firsts) is in
    let next = get_or c.args.planned.now c.args.number 0 in (
      pushes _ _ _ _ alive (ap (λ v. v.out) is)
          (rw (ap (λ v. v.pushed) is) (All_below_at c.args.planned.now c.args.number c.requires.rising c.requires.next)),
      queue_at_most_pushed _ _ (omega (arith, alive)),
    )
