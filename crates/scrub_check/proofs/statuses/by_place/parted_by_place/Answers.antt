use Rattle.std.proofs.Common.{rules}
use Rattle.std.proofs.lemmas.Fn.{always_returns_same}
use Rattle.std.proofs.lemmas.List.Elements.{All-weaker}
use Rattle.scrub_check.proofs.JudgedPlaces.{All-run, is_same, one_place}
use Rattle.scrub_check.proofs.statuses.by_place.parted_by_place.Goals as goal

pub returns-clause-one_place : goal.returns-clause-one_place
returns-clause-one_place c =
    let whole = c.in_ok-parts.ensures.runs tt in
    let alike = (c.chunk_by.ensures.runs whole.0 whole.0.seen whole.1).3 is_same (always_returns_same _ _ _ (λ a r f' k. search rules)) in
    rw whole.3.0 (All-weaker _ _ one_place whole.0.items (All-run whole.0 _ alike.0))
