-- The number of workers that was found, or 1.
use Rattle.std.proofs.Common.{arith, codes, inl, inr, refl}
use Rattle.clap.specs.Words.{found_of}
use Rattle.scrub_args.proofs.ArgsFound.{number_to_there, number_up_to}
use Rattle.scrub_args.proofs.args.workers.Goals as goal

pub returns-in-Some : goal.returns-in-Some
returns-in-Some c =
    inr
    (number_up_to (found_of c.args.matches.now) (codes "workers") 64 c.in-Some.workers (omega arith) c.requires.workers
    c.in-Some.ensures.none c.in-Some.ensures.value)

pub returns-in-None : goal.returns-in-None
returns-in-None c = elim c.requires.workers [
  | inl none ↦ inl (none, refl)
  | inr has ↦
      absurd (number_to_there (found_of c.args.matches.now) (codes "workers") 64 (omega arith) has c.in-None.ensures.value)
]
