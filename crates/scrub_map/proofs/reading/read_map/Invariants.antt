use Rattle.std.proofs.Common.{length}
use Rattle.scrub_map.specs.steps.Reading.{AwaitsBlock}
use Rattle.scrub_map.proofs.MapLines.{HasReadUpTo}
use Rattle.scrub_map.proofs.reading.read_map.Given as goal

abbrev pub invariant-loop-rest : goal.invariant-loop-rest
invariant-loop-rest l = record { read : HasReadUpTo l.text l.rest l.number l.reading; ready : AwaitsBlock l.reading }

abbrev pub decreases-loop-rest : goal.decreases-loop-rest
decreases-loop-rest l = length l.rest
