use Rattle.scrub_map.proofs.Numerals.{WritesSoFar}
use Rattle.scrub_map.proofs.number.numeral.Given as goal

abbrev pub invariant-loop-digit : goal.invariant-loop-digit
invariant-loop-digit l = WritesSoFar l.radix l.digits l.digit-index l.value
