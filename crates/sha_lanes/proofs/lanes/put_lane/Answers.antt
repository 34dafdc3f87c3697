use Rattle.std.proofs.Common.{refl, arith}
use Rattle.sha_lanes.proofs.LaneByLane.{eight}
use Rattle.sha_lanes.proofs.lanes.put_lane.Goals as goal

pub returns-clause-put : goal.returns-clause-put
returns-clause-put c =
    rw (
      c.with_word.ensures.put,
      c.with_word-2.ensures.put,
      c.with_word-3.ensures.put,
      c.with_word-4.ensures.put,
      c.with_word-5.ensures.put,
      c.with_word-6.ensures.put,
      c.with_word-7.ensures.put,
      c.with_word-8.ensures.put,
    )
    (eight c.args.value.now (omega arith))

pub returns-clause-others : goal.returns-clause-others
returns-clause-others c = λ j ne.
    rw (
      c.with_word.ensures.others j ne,
      c.with_word-2.ensures.others j ne,
      c.with_word-3.ensures.others j ne,
      c.with_word-4.ensures.others j ne,
      c.with_word-5.ensures.others j ne,
      c.with_word-6.ensures.others j ne,
      c.with_word-7.ensures.others j ne,
      c.with_word-8.ensures.others j ne,
    )
    refl
