-- One more write.
use Rattle.scrub_report.proofs.Appending.{appends_next}
use Rattle.scrub_report.proofs.output.write_out.Goals as goal

pub loop-written-preserved : goal.loop-written-preserved
loop-written-preserved g c =
    let now = c.loop-written in
    let writer = g.W.Write.contents now.writer in
    let next = appends_next _ writer _ c.args.bytes.now now.written c.in-Ok.count
    now.invariant.within c.in-Ok.ensures.bound now.invariant.so_far c.in-Ok.ensures.bytes in
    record { within = next.0; so_far = next.1 }
