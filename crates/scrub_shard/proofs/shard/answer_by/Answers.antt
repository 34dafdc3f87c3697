-- No payload is lost, so each can be read.
use Rattle.std.proofs.Common.{sym}
use Rattle.scrub_shard.proofs.Lost.{all_left}
use Rattle.scrub_shard.proofs.shard.answer_by.Goals as goal

pub bytes_for-requires-after_bounds : goal.bytes_for-requires-after_bounds
bytes_for-requires-after_bounds g c κs within =
    all_left (g.D.PageSource.image c.args.disk.now) c.args.copies.now c.args.own.now c.requires (sym c.in-None.ensures)
