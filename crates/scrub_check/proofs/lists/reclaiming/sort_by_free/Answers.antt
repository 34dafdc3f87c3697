use Rattle.std.proofs.Common.{rules}
use Rattle.std.proofs.lemmas.List.Sorted.{answers_always}
use Rattle.scrub_check.specs.Candidates.{CandidateValue}
use Rattle.scrub_check.proofs.lists.reclaiming.sort_by_free.Goals as goal

-- each call of the key's closure gives what is freed, and the number
pub returns-clause-sorted : goal.returns-clause-sorted
returns-clause-sorted c =
    c.in_ok-sort_by_key.ensures.sorted (λ (a : CandidateValue). (record { 0 = a.free }, a.extent))
    (answers_always _ _ _ (λ f a r h called. search rules))
