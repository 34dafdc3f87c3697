use Rattle.std.proofs.Common.{◌≡◌, ◌∙◌, ap, rules}
use Rattle.std.proofs.lemmas.Result.{IfOk-weaker}
use Rattle.scrub_check.specs.steps.SoundPlaces.{shared_by}
use Rattle.scrub_check.proofs.SharedPlaces.{none_shared, shared_found}
use Rattle.scrub_check.proofs.lists.shared_places.shared_by.Goals as goal

pub returns-then-are_distinct : goal.returns-then-are_distinct
returns-then-are_distinct c checked are =
    rw c.new.ensures.items
    (none_shared checked c.args.sound.now are (c.are_distinct.ensures.0 (search rules)))

pub returns : goal.returns
returns c checked are =
    let starts = c.args.sound.now in
    let once = c.in_ok-places.places.items in
    let read : c.deref.result.now ≡ once = search rules in
    IfOk-weaker c.shared_among.result _ _
    (λ v is. shared_found checked starts once v.items are c.in_ok-places.ensures (is ∙ ap (shared_by starts) read))
    c.shared_among.ensures
