-- A head with a list is written in two parts.
use Rattle.scrub_super.proofs.Heads.{head_written}
use Rattle.scrub_super.proofs.head.append_head.Goals as goal

pub returns-in-Some-clause-items : goal.returns-in-Some-clause-items
returns-in-Some-clause-items c =
    head_written c.args.geometry c.args.out.now.items c.args.head.generation c.args.head.runs
    c.in-Some.is (rw c.common_head_of-in-Some.ensures at c.append-in-Some.ensures.items) c.to_be_bytes.ensures
    c.append-in-Some-2.ensures.items
