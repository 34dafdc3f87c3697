-- The first one, if none stays.
use Rattle.std.proofs.Common.{sym, ◌∙◌}
use Rattle.scrub_reclaim.specs.Doubts.{spare_doubt}
use Rattle.scrub_reclaim.proofs.SpareDoubts.{first_doubted, no_copy, one_left}
use Rattle.scrub_reclaim.proofs.spare_doubts.add_one.Goals as goal

pub returns-then-not-is_empty : goal.returns-then-not-is_empty
returns-then-not-is_empty c =
    one_left (spare_doubt c.args.owner) c.args.some.now c.args.stay.now c.args.doubts.now.items (sym c.is_empty.ensures ∙ c.if-not-is_empty.true)

pub returns-in-Some : goal.returns-in-Some
returns-in-Some c =
    first_doubted (spare_doubt c.args.owner) c.add_doubt.result c.args.some.now c.args.stay.now c.in-Some.first.now c.args.doubts.now.items c.add_doubt.new.doubts.items
    (sym c.is_empty.ensures ∙ c.if-not-is_empty.false) (sym c.in-Some.ensures.value) c.add_doubt.ensures

pub returns-in-None : goal.returns-in-None
returns-in-None c = no_copy (spare_doubt c.args.owner) c.args.some.now c.args.stay.now c.args.doubts.now.items (sym c.in-None.ensures.value)
