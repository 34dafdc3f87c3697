-- The index, the candidates and their extents are those of the judged locators, and the copies are those of the disk.
use Rattle.std.proofs.Common.{[], None}
use Rattle.scrub_loose.specs.Loose.{AreCopies}
use Rattle.scrub_reclaim.proofs.reclaim_parts.reclaim_parts_of.Goals as goal

pub judged_of-requires-after_bounds : goal.judged_of-requires-after_bounds
judged_of-requires-after_bounds g c κs within = c.requires.whole

pub of-requires-after_bounds : goal.of-requires-after_bounds
of-requires-after_bounds g c κs within = (c.in_ok-judged.ensures.judged None [] c.requires).scanned.whole

pub returns : goal.returns
returns g c =
    let image = g.D.PageSource.image c.args.scan.disk.now in
    let judged = c.in_ok-judged.judged in
    let checked = judged.checked.items in
    let copies_are : AreCopies [] image judged.scan.plan judged.scan.all.extents checked c.in_ok-copies.copies =
    rw c.deref-3.ensures.value at c.in_ok-copies.ensures in
    record {
      judged = c.in_ok-judged.ensures.judged None [] c.requires;
      lists = record {
        locators = rw c.deref.ensures.value at c.in_ok-locators.ensures;
        listed = rw c.deref-2.ensures.value at c.in_ok-listed.ensures;
      };
      candidates = c.in_ok-candidates.ensures checked (rw c.deref.ensures.value at c.in_ok-locators.ensures);
      copies = copies_are;
    }
