use Rattle.std.proofs.Common.{◌∙◌}
use Rattle.scrub_check.proofs.Reclaimable.{found_number}
use Rattle.scrub_check.proofs.lists.extent_set.has_number.Goals as goal

pub returns : goal.returns
returns c =
    c.is_ok.ensures.value
    ∙ found_number c.args.numbers.now c.args.number c.binary_search.result c.requires c.binary_search.ensures.bound
    c.binary_search.ensures.position
