-- The record that was found there, and its rank.
use Rattle.scrub_super.specs.steps.PagesFound.{IsFoundOnPage}
use Rattle.std.proofs.Common.{Some}
use Rattle.scrub_super.proofs.PageLaws.{readable_of}
use Rattle.scrub_super.proofs.extent_zero.page_of.Goals as goal

pub returns-in-Some : goal.returns-in-Some
returns-in-Some c = λ image q known seen.
    let there : IsFoundOnPage image q (Some c.in-Some.record) = rw c.in-Some.is at known.seen.found in (
      there.0,
      there.1,
      there.2.kind,
      there.2.generation,
      there.2.to,
      c.rank_of.ensures image q there.0 seen there.1 there.2.generation,
      (known.seen.bytes, readable_of c.args.page.is_readable known.seen.readable there.1, known.stray_is),
    )
