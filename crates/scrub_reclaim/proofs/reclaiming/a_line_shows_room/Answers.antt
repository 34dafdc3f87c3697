-- What is found in an extent with a line is as its line says.
use Rattle.scrub_reclaim.proofs.RoomLines.{line_shows_room}
use Rattle.scrub_reclaim.proofs.reclaiming.a_line_shows_room.Goals as goal

pub returns : goal.returns
returns c = line_shows_room
