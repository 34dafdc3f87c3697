use Rattle.std.proofs.Common.{◌≡◌, All, vec_len}
use Rattle.scrub_pool.specs.steps.Working.{IsNewMember}
use Rattle.scrub_pool.proofs.scanning.new_crew.Given as goal

abbrev pub invariant-loop-number : goal.invariant-loop-number
invariant-loop-number g l =
    (l.first ≡ record l.initial.first { out = l.number }) × (vec_len l.crew ≡ l.number)
    × All (λ h. IsNewMember l.queue l.initial.first.planned h) l.crew.items
