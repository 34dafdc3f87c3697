use Rattle.std.proofs.Common.{sym, ◌∙◌}
use Rattle.scrub_check.proofs.Reclaimable.{none_named, all_named}
use Rattle.scrub_check.proofs.lists.reclaiming.candidates_by.Goals as goal

pub returns-then-not-knows_locators : goal.returns-then-not-knows_locators
returns-then-not-knows_locators g c = λ checked locators.
    none_named c.args.plan.now c.args.all.now.extents checked c.args.in_doubt c.new.result.items
    (sym c.knows_locators.ensures ∙ c.if-not-knows_locators.true) c.new.ensures.items

pub returns : goal.returns
returns g c = λ checked locators.
    all_named c.args.plan.now c.args.all.now.extents checked c.args.in_doubt c.in_ok-found.found.items
    c.sort_by_free.new.candidates.items (sym c.knows_locators.ensures ∙ c.if-not-knows_locators.false)
    c.in_ok-found.ensures.rising (rw c.geometry.ensures at c.in_ok-found.ensures.found checked locators)
    c.in_ok-sort_by_free.ensures.same c.in_ok-sort_by_free.ensures.sorted
