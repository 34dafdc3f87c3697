use Rattle.clap_walk.proofs.Given.{rows_sound}
use Rattle.clap_walk.proofs.values_are_sound.Goals as goal

pub returns : goal.returns
returns c = λ s words usual clean. (rows_sound s usual words clean).0
