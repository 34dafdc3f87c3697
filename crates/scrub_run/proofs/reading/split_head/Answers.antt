-- The first eight bytes are the head that was read.
use Rattle.std.proofs.Common.{arith}
use Rattle.list_facts.proofs.Slices.{ne_false}
use Rattle.scrub_run.proofs.Runs.{head_read}
use Rattle.scrub_run.proofs.reading.split_head.Goals as goal

pub returns-clause-found : goal.returns-clause-found
returns-clause-found c =
    let magic = c.in_ok-magic.ensures.cases in
    let count = c.in_ok-count.ensures.cases in
    head_read c.args.body.now _ _ _ _ c.read_u32.result (λ i. omega (arith, c.type_inv.body i)) magic.0 magic.1 count.0 count.1
    (omega (arith, magic.2, count.2)) (ne_false _ _ c.ne.result c.ne.ensures c.if-ne.false) c.read_u32.ensures
