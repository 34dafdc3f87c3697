-- The last item decides.
use Rattle.std.proofs.Common.{sym, ◌∙◌}
use Rattle.scrub_reclaim.proofs.RoomLines.{last_chunk, no_last}
use Rattle.scrub_reclaim.proofs.room.ends_in_chunk.Goals as goal

pub returns-in-Some : goal.returns-in-Some
returns-in-Some c = c.is_chunk.ensures ∙ sym (last_chunk c.args.items.now c.in-Some.item.now (sym c.in-Some.ensures.value))

pub returns-in-None : goal.returns-in-None
returns-in-None c = sym (no_last c.args.items.now (sym c.in-None.ensures.value))
