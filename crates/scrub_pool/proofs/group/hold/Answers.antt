-- The extent of this number.
use Rattle.std.proofs.Common.{◌++◌, ◌∙◌, List, ℕ, ap, sym}
use Rattle.scrub_book.specs.Worker.{taken_by}
use Rattle.scrub_pool.proofs.Groups.{one_at}
use Rattle.scrub_pool.proofs.group.hold.Goals as goal

pub returns-clause-taken : goal.returns-clause-taken
returns-clause-taken g c =
    c.took.ensures.taken
    ∙ ap (λ (l : List ℕ). taken_by c.args.core.now ++ l) (sym (one_at c.args.group.now c.args.number c.if-number-group.false))
