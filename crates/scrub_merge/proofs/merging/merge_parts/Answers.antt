-- The cursors begin at all entries, move on by one identifier, and end when nothing is ahead.
use Rattle.std.proofs.Common.{◌≡◌, ◌<◌, ◌≤◌, List, ℕ, zero, length, get_or, arith, sym, ◌∙◌, ap}
use Rattle.std.specs.BinaryHeap.{heap_items}
use Rattle.std.specs.Vec.{with_items}
use Rattle.std.proofs.lemmas.List.{get_or_default, with_items_is, length-replicate}
use Rattle.scrub_run.specs.declared.shard_id.ShardId.{ShardId}
use Rattle.scrub_merge.specs.Binding.{Runs}
use Rattle.scrub_merge.specs.steps.Cursors.{ahead, places_past, IsBound, IsFirstWith, IsLeast}
use Rattle.scrub_merge.specs.ShardMap.{IsShardMap}
use Rattle.scrub_merge.proofs.Maps.{bindings_of}
use Rattle.scrub_merge.proofs.Left.{left_all, left_behind, length-behind, length-left, first_within, fewer}
use Rattle.scrub_merge.proofs.Moves.{rising_runs}
use Rattle.scrub_merge.proofs.Heaps.{first_least, first_newest, none_first}
use Rattle.scrub_merge.proofs.NextBound.{continues_step, continues_end}
use Rattle.scrub_merge.proofs.merging.merge_parts.Goals as goal
use Rattle.scrub_merge.proofs.merging.merge_parts.Goals.{In-Some, In_default, In_ok-bind_newest}

pub loop-least-init : goal.loop-least-init
loop-least-init c =
    let all = c.in_ok-places.ensures.items_if_clones_equal (λ _ e. e) in
    record {
      places = ap length all ∙ length-replicate (length c.args.runs.now) 0;
      runs = c.in_ok-heap.ensures.runs;
      heap = rw (all, left_all c.args.runs.now (length c.args.runs.now)) c.in_ok-heap.ensures.heap;
      continues = rw (all, left_all c.args.runs.now (length c.args.runs.now), c.in_ok-bindings.ensures.items) (λ later map. map);
    }

-- what the first of the heap says
module _ (c : In-Some) where
  abbrev left : Runs
  left = ahead c.args.runs.now c.loop-least.places.items

  least : IsLeast left c.in-Some.field-0.now.0.0
  least =
      first_least c.in-Some.field-0.now c.loop-least.invariant.heap
      (zero, c.in-Some.ensures.item.3.0, sym c.in-Some.ensures.lookup)
      (c.in-Some.ensures.greatest c.loop-least.invariant.heap.order)

  first : IsFirstWith left c.in-Some.field-0.now.0.0 c.in-Some.field-0.now.0.1
  first =
      first_newest c.in-Some.field-0.now c.loop-least.invariant.heap
      (zero, c.in-Some.ensures.item.3.0, sym c.in-Some.ensures.lookup)
      (c.in-Some.ensures.greatest c.loop-least.invariant.heap.order)

  within : c.in-Some.field-0.now.0.1 < length c.args.runs.now
  within =
      omega (
        arith,
        first_within left c.in-Some.field-0.now.0.1 first.entry first.stands,
        length-left c.args.runs.now c.loop-least.places.items,
      )

pub index-place-requires : goal.index-place-requires
index-place-requires c =
    omega (
      arith,
      within (goal.at.index-place-requires c).In-Some,
      c.loop-least.invariant.places,
      c.loop-least.places.ok.0,
    )

pub move_on-requires-clause-least : goal.move_on-requires-clause-least
move_on-requires-clause-least c =
    rw c.deref_mut.ensures.value
    (least (goal.at.move_on-requires-clause-least c).In-Some)

pub bind_newest-requires-clause-within : goal.bind_newest-requires-clause-within
bind_newest-requires-clause-within c = within (goal.at.bind_newest-requires-clause-within c).In-Some

-- what is known once the identifier is bound
module _ (c : In_ok-bind_newest) where
  abbrev some : In-Some
  some = (goal.at.loop-least-preserved c).In-Some

  abbrev runs : Runs
  runs = c.args.runs.now

  abbrev places : List ℕ
  places = c.loop-least.places.items

  abbrev id : ShardId
  id = c.in-Some.field-0.now.0.0

  abbrev number : ℕ
  number = c.in-Some.field-0.now.0.1

  -- the place of the entry that was bound
  place : c.index-place.result.now ≡ get_or places number 0
  place =
      c.index-place.ensures
      ∙ get_or_default places number c.index-place.result.now 0
      (omega (arith, within some, c.loop-least.invariant.places))

  -- the cursors then
  says : c.move_on.new.places ≡ places_past id runs places
  says = rw c.deref_mut.ensures.value at c.in_ok-move_on.ensures.moved

  moved : (with_items c.loop-least.places c.move_on.new.places).items ≡ places_past id runs places
  moved =
      with_items_is c.loop-least.places c.move_on.new.places
      (ap length says ∙ length-behind id runs places ∙ sym c.loop-least.places.ok.0)
      ∙ says

  bound : IsBound (ahead runs places) id c.loop-least.bindings.items c.bind_newest.new.bindings.items
  bound = c.in_ok-bind_newest.ensures places id c.loop-least.invariant.places (sym place) (least some) (first some)

pub loop-least-smaller : goal.loop-least-smaller
loop-least-smaller c =
    let w = first (some c) in
    rw (moved c, left_behind (id c) (runs c) (places c) c.loop-least.invariant.places)
    (fewer (id c) (ahead (runs c) (places c)) (number c) w.entry w.stands w.own)

pub loop-least-preserved : goal.loop-least-preserved
loop-least-preserved c = record {
  places = ap length (moved c) ∙ length-behind (id c) (runs c) (places c) ∙ c.loop-least.invariant.places;
  runs = c.loop-least.invariant.runs;
  heap = rw (moved c) (rw (says c) at c.in_ok-move_on.ensures.heap);
  continues = rw (moved c)
      (continues_step (runs c) (runs c) (places c) c.loop-least.invariant.places
      (rising_runs (runs c) c.loop-least.invariant.runs) (least (some c)) (bound c) c.loop-least.invariant.continues);
}

-- if the heap is empty, the bindings are the map
map : (c : In_default) → IsShardMap c.args.runs.now c.loop-least.bindings.items
map c =
    let none : length (heap_items c.loop-least.heap) ≤ 0 = c.in_default.ensures.item.3 in
    continues_end c.args.runs.now (ahead c.args.runs.now c.loop-least.places.items)
    c.loop-least.bindings.items
    (none_first c.loop-least.invariant.heap (omega (arith, none))) c.loop-least.invariant.continues

pub new-requires : goal.new-requires
new-requires c = bindings_of (map (goal.at.new-requires c).In_default)

pub returns : goal.returns
returns c = rw c.new.ensures (map (goal.at.returns c).In_default)
