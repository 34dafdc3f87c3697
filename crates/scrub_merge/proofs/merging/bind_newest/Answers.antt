-- The entry was under the cursor of the newest run with the least identifier, and its copy binds it.
use Rattle.std.proofs.Common.{◌≡◌, ◌↔◌, IsTrue, length, sym, ◌∙◌, false}
use Rattle.std.specs.Prelude.{◌==◌}
use Rattle.std.proofs.lemmas.Bool.{eqb-true, eqb-false}
use Rattle.std.proofs.lemmas.Option.{none-some}
use Rattle.scrub_merge.specs.steps.Cursors.{LostBefore}
use Rattle.scrub_merge.specs.steps.Cursors.{ahead}
use Rattle.scrub_merge.proofs.Left.{first_left, lost_left, rising_left}
use Rattle.scrub_merge.proofs.Moves.{rising_runs}
use Rattle.scrub_merge.proofs.NextBound.{bound_made, no_locators_add_none, locators_add_one}
use Rattle.scrub_merge.proofs.merging.bind_newest.Goals as goal

pub returns-in_default : goal.returns-in_default
returns-in_default c = λ places id count at least first.
    let left = first_left c.args.runs.now places c.args.number count in
    absurd (none-some first.entry (rw (left, at, c.in_default.ensures.none) at first.stands))

pub returns-then-is_empty : goal.returns-then-is_empty
returns-then-is_empty c = λ places id count at least first.
    let runs = c.args.runs.now in
    let number = c.args.number in
    let lost = lost_left runs places number in
    let doubt : IsTrue c.is_doubtful-doubtful.result ↔ LostBefore (ahead runs places) number =
    (λ d. lost.1 (c.is_doubtful-doubtful.ensures.0 d), λ l. c.is_doubtful-doubtful.ensures.1 (lost.0 l)) in
    let none : length c.in-Some.entry.now.locators ≡ 0 =
    rw c.locators.ensures at
    (eqb-true (length c.locators.result.now) 0 (sym c.is_empty.ensures ∙ c.if-is_empty.true)) in
    bound_made {e = c.in-Some.entry.now} first (rw (first_left runs places number count, at) c.in-Some.ensures.found)
    (rising_left runs places (rising_runs runs c.requires.runs)) least doubt
    (no_locators_add_none _ c.args.bindings.now.items none)

pub returns : goal.returns
returns c = λ places id count at least first.
    let runs = c.args.runs.now in
    let number = c.args.number in
    let lost = lost_left runs places number in
    let doubt : IsTrue c.is_doubtful-doubtful.result ↔ LostBefore (ahead runs places) number =
    (λ d. lost.1 (c.is_doubtful-doubtful.ensures.0 d), λ l. c.is_doubtful-doubtful.ensures.1 (lost.0 l)) in
    let empty : (length c.in-Some.entry.now.locators == 0) ≡ false =
    rw (← c.locators.ensures) (sym c.is_empty.ensures ∙ c.if-is_empty.false) in
    bound_made {e = c.in-Some.entry.now} first (rw (first_left runs places number count, at) c.in-Some.ensures.found)
    (rising_left runs places (rising_runs runs c.requires.runs)) least doubt
    (rw (c.in_ok-push.ensures.items, c.new.ensures, c.in_ok-own.ensures) (locators_add_one _ c.args.bindings.now.items (eqb-false (length c.in-Some.entry.now.locators) 0 empty)))
