-- Each call of the key's closure returns the place that a locator points to.
use Rattle.std.proofs.Common.{rules}
use Rattle.std.proofs.lemmas.List.Sorted.{answers_always}
use Rattle.scrub_reclaim.specs.steps.Moves.{named_in}
use Rattle.scrub_reclaim.proofs.ByPlace.{alike, place_shown}
use Rattle.scrub_reclaim.proofs.moves.by_place.Goals as goal

pub returns-clause-rising : goal.returns-clause-rising
returns-clause-rising c = c.in_ok-sort_by_key.ensures.sorted place_shown (answers_always _ _ _ (λ f a r h called. search rules))

pub returns-clause-same : goal.returns-clause-same
returns-clause-same c =
    alike (named_in c.args.extents.now c.args.checked.now) c.in_ok-sorted.sorted.items c.sort_by_key.new.self.items c.in_ok-sorted.ensures
    (c.in_ok-sort_by_key.ensures.stable place_shown (answers_always _ _ _ (λ f a r h called. search rules)))
