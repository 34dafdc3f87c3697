-- One more entry, or why there is none.
use Rattle.std.proofs.Common.{◌≡◌, ◌==◌, length, arith, sym, ◌∙◌, ap}
use Rattle.std.proofs.lemmas.Bool.{false≢true}
use Rattle.scrub_run.proofs.Entries.{read_entry_more, no_entry_more, no_rise, nothing_left}
use Rattle.scrub_run.proofs.reading.read_entries.Goals as goal

pub returns-in_default-clause-none : goal.returns-in_default-clause-none
returns-in_default-clause-none c = λ ys count each rising e.
    no_entry_more c.args.bytes.now c.loop.entries.items ys c.loop.rest.now c.loop.counter c.loop.invariant each (omega (arith, count, c.loop-test.true)) e c.in_default.ensures.none

pub returns-then-not-is_above_all-clause-none : goal.returns-then-not-is_above_all-clause-none
returns-then-not-is_above_all-clause-none c = λ ys count each rising e.
    let above = no_rise c.args.bytes.now c.loop.entries.items ys c.loop.rest.now c.in-Some.first.now c.in-Some.others.now c.loop.counter c.in_ok-entry.entry c.loop.invariant each (omega (arith, count, c.loop-test.true)) e rising
    c.in_ok-entry.ensures.entry c.in_ok-entry.ensures.spelled (sym c.in-Some.ensures.found) in
    false≢true (sym c.if-not-is_above_all.true ∙ c.is_above_all.ensures.1 (rw (c.deref.ensures.value, c.id.ensures) above))

pub loop-preserved : goal.loop-preserved
loop-preserved c =
    rw c.in_ok-push.ensures.items
    (read_entry_more c.args.bytes.now c.loop.entries.items c.loop.rest.now c.in-Some.first.now c.in-Some.others.now c.loop.counter c.in_ok-entry.entry c.loop.invariant
    c.in_ok-entry.ensures.entry c.in_ok-entry.ensures.spelled (sym c.in-Some.ensures.found)
    (rw (c.deref.ensures.value, c.id.ensures) at (c.is_above_all.ensures.0 c.if-not-is_above_all.false)))

pub returns-then-not-is_empty-clause-none : goal.returns-then-not-is_empty-clause-none
returns-then-not-is_empty-clause-none c = λ ys count each rising e.
    let nothing : length c.loop.rest.now ≡ 0 =
    nothing_left c.args.bytes.now c.loop.entries.items ys c.loop.rest.now c.loop.counter c.loop.invariant each (omega (arith, count, c.loop-test.false, c.loop.auto.counter-end)) e in
    false≢true (sym c.if-not-is_empty.true ∙ c.is_empty.ensures ∙ ap (λ n. n == 0) nothing)
