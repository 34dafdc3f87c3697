-- So many values were read as these numbers.
use Rattle.clap.specs.Words.{values_left}
use Rattle.scrub_args.proofs.Numbers.{AreReadSoFar}
use Rattle.scrub_args.proofs.args.numbers.Given as goal

abbrev pub invariant-loop-value : goal.invariant-loop-value
invariant-loop-value l =
    (goal.iterator-loop-value).can_next l.value-iterator × (goal.iterator-loop-value).is_finite l.value-iterator
    × AreReadSoFar (values_left l.initial.value-iterator) (values_left l.value-iterator) l.numbers.items
