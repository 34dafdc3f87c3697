-- What was judged was scanned as a whole.
use Rattle.scrub_compare.proofs.manifests.copies_in.Goals as goal

pub of-requires-after_bounds : goal.of-requires-after_bounds
of-requires-after_bounds g c κs within = c.requires.scanned.whole
