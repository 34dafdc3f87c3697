use Rattle.scrub_check.proofs.UuidNumbers.{AddsNumbers-none, next_chunk, next_other}
use Rattle.scrub_check.proofs.lists.chunk_uuids.append_numbers.Goals as goal
use Rattle.scrub_check.proofs.lists.chunk_uuids.append_numbers.Goals.{in-Some+in_ok-push, in_default}

pub loop-item-init : goal.loop-item-init
loop-item-init c = AddsNumbers-none c.args.numbers.now.items

pub loop-item-preserved : goal.loop-item-preserved
loop-item-preserved c =
    let e = c.args.extent in
    let items = c.args.items.now in
    let i = c.loop-item.item-index in
    let item = c.item-item.result in
    let before = c.args.numbers.now.items in
    let so_far = c.loop-item.numbers.items in
    elim c.match-place_of.branch [
      | in-Some+in_ok-push w ↦
          rw (w.numbers-is, w.in_ok-push.ensures.items)
          (next_chunk e items i item c.place_of.result w.in-Some.chunk before so_far w.number_of.result c.loop-item-test.true
          c.item-item.is c.place_of.ensures w.in-Some.is w.number_of.ensures.sixteen w.number_of.ensures.number c.loop-item.invariant)
      | in_default w ↦
          rw w.numbers-is
          (next_other e items i item c.place_of.result before so_far c.loop-item-test.true c.item-item.is c.place_of.ensures
          w.in_default.is c.loop-item.invariant)
    ]
