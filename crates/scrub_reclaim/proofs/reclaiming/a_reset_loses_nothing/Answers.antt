-- No named locator points into these extents, all others have the status that they had, and what has a copy keeps one.
use Rattle.scrub_reclaim.proofs.Reset.{the_same_index, the_same_named}
use Rattle.scrub_reclaim.proofs.ResetCopies.{same_but_risen, same_without}
use Rattle.scrub_reclaim.proofs.reclaiming.a_reset_loses_nothing.Goals as goal

pub returns-clause-named : goal.returns-clause-named
returns-clause-named c = the_same_named

pub returns-clause-copies : goal.returns-clause-copies
returns-clause-copies c = same_without

pub returns-clause-manifest : goal.returns-clause-manifest
returns-clause-manifest c = same_but_risen

pub returns-clause-index : goal.returns-clause-index
returns-clause-index c = the_same_index
