-- Each chunk of an extent with room is still an item, each locator into it is sound, and all others have the status that they had;
-- and no loose copy of one is in it.
use Rattle.scrub_reclaim.proofs.CopyLaw.{chunks_there, named_as_before, same_but_risen}
use Rattle.scrub_reclaim.proofs.copying.a_copy_loses_nothing.Goals as goal

pub returns-clause-named : goal.returns-clause-named
returns-clause-named c rooms before after found rest copies x y = named_as_before rooms before after found rest x y copies

pub returns-clause-manifest : goal.returns-clause-manifest
returns-clause-manifest c = same_but_risen

pub returns-clause-holds : goal.returns-clause-holds
returns-clause-holds c rooms before after found rest copies x y = chunks_there rooms before after found rest x y copies
