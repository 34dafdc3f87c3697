-- What is put goes on where the bytes so far end.
use Rattle.std.proofs.Common.{arith}
use Rattle.scrub_scan.proofs.Gathering.{put_more}
use Rattle.scrub_scan.proofs.scanner.put_between.Goals as goal

pub returns-clause-put : goal.returns-clause-put
returns-clause-put c = λ at part so_far.
    put_more at c.args.place c.args.first c.args.last c.saturating_sub-done.result c.args.out.now c.put_part.new.bytes c.args.part.now
    c.bytes_between.result.now c.requires.order c.requires.room (omega arith) part c.bytes_between.ensures
    c.put_part.ensures so_far
