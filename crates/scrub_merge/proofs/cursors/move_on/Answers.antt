-- What is taken out of the heap is under its cursor, which moves on; if none is taken, none has the identifier.
use Rattle.std.proofs.Common.{◌≡◌, List, ℕ, sym, ◌∙◌, arith}
use Rattle.std.specs.BinaryHeap.{heap_items}
use Rattle.std.proofs.lemmas.List.{length-set}
use Rattle.std.proofs.lemmas.List.Elements.{All-contains}
use Rattle.scrub_merge.specs.steps.Cursors.{ahead, Under, under_by}
use Rattle.scrub_merge.proofs.Left.{first_within, length-left}
use Rattle.scrub_merge.proofs.Moves.{one_on, rising_runs, same_behind, stand_behind, still_not_below, fewer_one, place_within}
use Rattle.scrub_merge.proofs.Heaps.{taken, popped}
use Rattle.scrub_merge.proofs.cursors.move_on.Goals as goal

pub move_one-requires-clause-within : goal.move_one-requires-clause-within
move_one-requires-clause-within c =
    let at = taken c.loop-number.invariant.heap c.in-Some.ensures.popped in
    omega (
      arith,
      first_within (ahead c.args.runs.now c.loop-number.places) c.in-Some.field-0.0.1 at.0 at.1,
      length-left c.args.runs.now c.loop-number.places,
    )

pub move_one-requires-clause-place : goal.move_one-requires-clause-place
move_one-requires-clause-place c =
    let at = taken c.loop-number.invariant.heap c.in-Some.ensures.popped in
    place_within c.args.runs.now c.loop-number.places c.in-Some.field-0.0.1 c.loop-number.invariant.count c.requires.runs
    at.1

pub move_one-requires-clause-heap : goal.move_one-requires-clause-heap
move_one-requires-clause-heap c = popped c.loop-number.invariant.heap c.in-Some.ensures.popped c.pop_with.ensures.order

pub loop-number-smaller : goal.loop-number-smaller
loop-number-smaller c =
    let at = taken c.loop-number.invariant.heap c.in-Some.ensures.popped in
    rw c.in_ok-move_one.ensures.moved
    (fewer_one c.args.runs.now c.loop-number.places c.in-Some.field-0.0.1 c.loop-number.invariant.count at.1)

pub loop-number-preserved : goal.loop-number-preserved
loop-number-preserved c =
    let runs = c.args.runs.now in
    let id = c.args.id in
    let places : List ℕ = c.loop-number.places in
    let number : ℕ = c.in-Some.field-0.0.1 in
    let at = taken c.loop-number.invariant.heap c.in-Some.ensures.popped in
    let own : at.0.id ≡ id = at.2 ∙ c.in-Some.ensures.own in
    let moved : c.move_one.new.places ≡ one_on places number = c.in_ok-move_one.ensures.moved in
    let rising = rising_runs runs c.requires.runs in
    record {
      count = rw (moved, length-set) c.loop-number.invariant.count;
      behind =
          rw moved
          (same_behind id own runs places number c.loop-number.invariant.count rising at.1 ∙ c.loop-number.invariant.behind);
      heap = c.in_ok-move_one.ensures.heap;
      not_below =
          rw moved
          (still_not_below id own runs places number c.loop-number.invariant.count rising at.1 c.loop-number.invariant.not_below);
    }

pub returns-clause-moved : goal.returns-clause-moved
returns-clause-moved c =
    let id = c.args.id in
    sym (stand_behind id c.args.runs.now c.loop-number.places c.loop-number.invariant.count
    (λ k e at. All-contains (λ (u : Under). u.0.0 ≡ id → ⊥) (heap_items c.loop-number.heap) (under_by k e)
    c.in_default.ensures.none (c.loop-number.invariant.heap.all k e tt at)))
    ∙ c.loop-number.invariant.behind
