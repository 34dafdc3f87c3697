-- The pages from there on were searched.
use Rattle.scrub_super.specs.steps.BytesFrom.{IsSearchedFrom}
use Rattle.scrub_super.proofs.choosing.choose.Given as goal

abbrev pub invariant-loop-page : goal.invariant-loop-page
invariant-loop-page g l = IsSearchedFrom (g.D.PageSource.image l.disk) l.page l.search
