-- What `shard` writes, from what its parts give.
use Rattle.std.proofs.Common.{◌≡◌, List, ℕ, subst}
use Rattle.scrub_shard.specs.declared.shard.ShardAnswer.{ShardAnswer}
use Rattle.scrub_cli.specs.declared.process.outcome.Outcome.{Outcome}
use Rattle.scrub_cli.specs.Shard.{IsWrittenFor}

-- what is written for some lines is written for the same lines
pub written_with : (answer : ShardAnswer) (lines others text : List ℕ) (outcome : Outcome) → lines ≡ others →
    IsWrittenFor answer lines text outcome → IsWrittenFor answer others text outcome
written_with answer lines others text outcome same = subst (λ (ls : List ℕ). IsWrittenFor answer ls text outcome) same
