use Rattle.std.proofs.Common.{sym, ◌∙◌}
use Rattle.scrub_check.proofs.Reclaimable.{none_named, all_named}
use Rattle.scrub_check.proofs.lists.reclaiming.candidates_among.Goals as goal

pub returns-then-not-knows_locators : goal.returns-then-not-knows_locators
returns-then-not-knows_locators c = λ all checked rising is.
    none_named c.args.plan.now all checked c.args.in_doubt c.new.result.items
    (sym c.knows_locators.ensures ∙ c.if-not-knows_locators.true) c.new.ensures.items

pub returns : goal.returns
returns c = λ all checked rising is.
    all_named c.args.plan.now all checked c.args.in_doubt c.args.found.items c.sort_by_free.new.candidates.items
    (sym c.knows_locators.ensures ∙ c.if-not-knows_locators.false) rising is c.sort_by_free.ensures.same
    c.in_ok-sort_by_free.ensures.sorted
