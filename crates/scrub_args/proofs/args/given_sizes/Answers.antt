-- All are given, none is, or some are.
use Rattle.std.proofs.Common.{sym, ◌∙◌}
use Rattle.clap.specs.Words.{found_of, rows_of}
use Rattle.scrub_args.proofs.ArgsFound.{all_given, none_given, part_fault, part_given}
use Rattle.scrub_args.proofs.args.given_sizes.Goals as goal

pub returns-then-are_none : goal.returns-then-are_none
returns-then-are_none c =
    none_given (rows_of (found_of c.args.matches.now)) c.optional-page.result c.optional-pages.result c.optional-extents.result
    c.optional-page.ensures c.optional-pages.ensures c.optional-extents.ensures (sym c.are_none.ensures ∙ c.if-are_none.true)

pub returns-in-Some : goal.returns-in-Some
returns-in-Some c =
    all_given (rows_of (found_of c.args.matches.now)) c.optional-page.result c.optional-pages.result c.optional-extents.result
    c.in-Some.sizes c.optional-page.ensures c.optional-pages.ensures c.optional-extents.ensures
    (rw c.in-Some.is at c.whole_sizes.ensures)

pub returns-in-None : goal.returns-in-None
returns-in-None c =
    let rows = rows_of (found_of c.args.matches.now) in
    part_fault rows c.refused_part.result
    (part_given rows c.optional-page.result c.optional-pages.result c.optional-extents.result
    c.optional-page.ensures c.optional-pages.ensures c.optional-extents.ensures (sym c.are_none.ensures ∙ c.if-are_none.false)
    (rw c.in-None.is at c.whole_sizes.ensures))
    c.refused_part.ensures
