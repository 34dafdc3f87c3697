-- Bytes that begin with no letters of a kind, or differ from the front made from their own numbers, are no front.
use Rattle.std.proofs.Common.{arith}
use Rattle.list_facts.proofs.Slices.{ne_true}
use Rattle.scrub_super.proofs.Fronts.{front_magic, front_read, front_again}
use Rattle.scrub_super.proofs.head.read_common_head.Goals as goal
use Rattle.scrub_super.proofs.head.read_common_head.Goals.{then-runs-gt-MAX_RUNS-via-then-runs-gt-MAX_RUNS, then-runs-gt-MAX_RUNS-via-else-runs-gt-MAX_RUNS+then-ne}

pub returns-in_err-kind-clause-none : goal.returns-in_err-kind-clause-none
returns-in_err-kind-clause-none c =
    rw c.from_residual.ensures (λ k n r h. c.in_err-kind.ensures.none k (front_magic k h))

pub returns-then-runs-gt-MAX_RUNS-clause-none : goal.returns-then-runs-gt-MAX_RUNS-clause-none
returns-then-runs-gt-MAX_RUNS-clause-none c = λ k n r h.
    elim c.then-runs-gt-MAX_RUNS.branch [
      | then-runs-gt-MAX_RUNS-via-then-runs-gt-MAX_RUNS w ↦
          omega (
            arith,
            (front_read c.in_ok-kind.kind c.in_ok-kind.ensures.found c.read_u64-generation.ensures c.read_u16-runs.ensures h).2,
            h.few,
            w.if-runs-gt-MAX_RUNS.true,
          )
      | then-runs-gt-MAX_RUNS-via-else-runs-gt-MAX_RUNS+then-ne w ↦
          ne_true c.args.bytes.now w.common_head_of.result w.ne.result w.ne.ensures w.if-ne.true
          (front_again c.in_ok-kind.kind c.in_ok-kind.ensures.found c.read_u64-generation.ensures c.read_u16-runs.ensures h w.common_head_of.ensures)
    ]
