-- What is known once the part was fed, or couldn't be read.
use Rattle.std.proofs.Common.{arith, ◌-◌}
use Rattle.scrub_scan.specs.steps.Pages.{target_of}
use Rattle.scrub_scan.proofs.Passing.{gap_byte, none_passes, passed}
use Rattle.scrub_scan.proofs.scanner.Scanner.feed_page.Goals as goal

pub returns-in_default-clause-answer : goal.returns-in_default-clause-answer
returns-in_default-clause-answer g c = λ start h.
    let image = g.D.PageSource.image c.args.disk.now in
    let t = c.args.target.now in
    none_passes h
    (gap_byte image t.extent c.args.place c.load_far.new.self.page c.load_far.ensures.held.size (c.in_default.ensures.gap image t.extent c.load_far.ensures.held))

pub returns-clause-answer : goal.returns-clause-answer
returns-clause-answer g c = λ start h.
    let image = g.D.PageSource.image c.args.disk.now in
    let t = c.args.target.now in
    let stop = c.bound-stop.ensures.bound image c.requires.target in
    rw stop at
    (passed (target_of image t) start c.args.place c.bound-stop.result h.bytes c.in-Some.part.now h.stands h.here
    (c.in-Some.ensures.bytes image t.extent c.load_far.ensures.held) (omega (arith, c.in-Some.ensures.size)) (omega arith)
    c.feed.new.self c.feed.result
    (c.feed.ensures.answer ((target_of image t).pointer - start) h.bytes h.fed))
