-- The same is named, and the last words rest on frames anywhere in the extents in use.
use Rattle.scrub_reclaim.proofs.SameManifests.{same_but_last_words, same_manifest}
use Rattle.scrub_reclaim.proofs.resting.a_manifest_rests_on_bytes_below_pointers.Goals as goal

pub returns-clause-below : goal.returns-clause-below
returns-clause-below c = same_but_last_words

pub returns-clause-in_use : goal.returns-clause-in_use
returns-clause-in_use c = same_manifest
