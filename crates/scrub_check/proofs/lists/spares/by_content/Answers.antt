-- Each call of the key's closure returns the content of a frame.
use Rattle.std.proofs.Common.{rules}
use Rattle.std.proofs.lemmas.List.Sorted.{answers_always}
use Rattle.scrub_check.specs.Spares.{content_of}
use Rattle.scrub_check.proofs.SpareCopies.{same_copies}
use Rattle.scrub_check.proofs.lists.spares.by_content.Goals as goal

pub returns-clause-sorted : goal.returns-clause-sorted
returns-clause-sorted c = c.in_ok-sort_by_key.ensures.sorted content_of (answers_always _ _ _ (λ f a r h called. search rules))

pub returns-clause-same : goal.returns-clause-same
returns-clause-same c =
    same_copies c.args.found.items c.sort_by_key.new.self.items
    (c.in_ok-sort_by_key.ensures.stable content_of (answers_always _ _ _ (λ f a r h called. search rules)))
