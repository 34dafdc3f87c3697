use Rattle.std.proofs.Common.{◌∙◌, ap, rules}
use Rattle.std.specs.List.{filter}
use Rattle.std.proofs.lemmas.Result.{IfOk-weaker}
use Rattle.scrub_check.specs.steps.ChunkUuids.{is_twin_by}
use Rattle.scrub_check.proofs.SameUuids.{no_twins, twins_found}
use Rattle.scrub_check.proofs.lists.chunks.twins_by.Goals as goal

pub returns-then-are_distinct : goal.returns-then-are_distinct
returns-then-are_distinct g c =
    c.new.ensures.items
    ∙ no_twins c.args.all.now.extents c.args.uuids.now c.requires (c.are_distinct.ensures.0 (search rules))

pub returns : goal.returns
returns g c =
    IfOk-weaker c.twins_among.result _ _
    (λ v is. is ∙ ap (filter (is_twin_by c.args.uuids.now)) (search rules) ∙ twins_found c.args.all.now.extents c.args.uuids.now c.requires)
    c.twins_among.ensures
