use Rattle.std.proofs.Common.{is_lt, rules}
use Rattle.std.proofs.lemmas.List.Sorted.{answers_always}
use Rattle.list_facts.proofs.Sorted.{rises_as_answered}
use Rattle.scrub_check.proofs.places.sorted_list.rises_strictly.Goals as goal

pub returns : goal.returns
returns g c =
    rises_as_answered g.met.T.Ord.total c.args.list.now c.is_sorted_by.result
    (c.is_sorted_by.ensures.cases (λ x y. is_lt (g.T.Ord.cmp x y)) (answers_always _ _ _ (λ f a r h called. search rules)))
