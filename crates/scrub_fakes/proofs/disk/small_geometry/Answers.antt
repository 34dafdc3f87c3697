-- No limit is broken.
use Rattle.scrub_fakes.proofs.Built.{small_fits}
use Rattle.scrub_fakes.proofs.disk.small_geometry.Goals as goal

pub unreachable-requires : goal.unreachable-requires
unreachable-requires c = small_fits c.in-Err.field-0 c.in-Err.ensures
