-- How new a record is, by the newest that was seen.
use Rattle.std.proofs.Common.{arith, ◌∙◌, sym}
use Rattle.std.proofs.lemmas.Bool.{false≢true}
use Rattle.scrub_super.specs.declared.pages.Rank.TheVariants.{Tie, Counts, Older}
use Rattle.scrub_super.proofs.Choices.{greatest_found, tie_found, newer_found, nothing_found, rank_found}
use Rattle.scrub_super.proofs.extent_zero.rank_of.Goals as goal

pub returns-in-Some : goal.returns-in-Some
returns-in-Some c = λ image q d seen s e.
    rank_found seen c.args.generation Older (newer_found seen c.in-Some.is (omega (arith, c.if-generation-newest.true)))

pub returns-in-Some-2 : goal.returns-in-Some-2
returns-in-Some-2 c = λ image q d seen s e. rank_found seen c.args.generation Tie (
  greatest_found seen c.in-Some.is (omega (arith, c.if-generation-newest.false)),
  (tie_found seen c.in-Some-2.is).0 c.if-newest.true,
)

pub returns-in_default : goal.returns-in_default
returns-in_default c = λ image q d seen s e. rank_found seen c.args.generation Counts (
  greatest_found seen c.in-Some.is (omega (arith, c.if-generation-newest.false)),
  (λ tie. false≢true (sym c.if-newest.false ∙ (tie_found seen c.in-Some-2.is).1 tie)),
)

pub returns-in_default-2 : goal.returns-in_default-2
returns-in_default-2 c = λ image q d seen s e. absurd (nothing_found seen c.in_default.is s)
