-- The copies of both disks are those of their images, and the lines are made by them.
use Rattle.std.proofs.Common.{[]}
use Rattle.scrub_loose.specs.Loose.{AreCopies}
use Rattle.scrub_compare.proofs.ExtentLines.{on_ok}
use Rattle.scrub_compare.proofs.RowsAlike.{best_found}
use Rattle.scrub_compare.proofs.manifests.append_manifest_changes.Goals as goal

pub copies_in-requires-after_bounds : goal.copies_in-requires-after_bounds
copies_in-requires-after_bounds g c κs within = c.requires.old

pub copies_in-requires-2-after_bounds : goal.copies_in-requires-2-after_bounds
copies_in-requires-2-after_bounds g c κs within = c.requires.new

pub append_changes_by-requires-clause-old : goal.append_changes_by-requires-clause-old
append_changes_by-requires-clause-old g c κs within = ([], g.D.PageSource.image c.args.before.now, c.requires.old)

pub append_changes_by-requires-clause-new : goal.append_changes_by-requires-clause-new
append_changes_by-requires-clause-new g c κs within = (c.args.resets.now, g.E.PageSource.image c.args.after.now, c.requires.new)

pub returns : goal.returns
returns g c b d rows rows_now =
    let old = c.args.old.now in
    let new = c.args.new.now in
    let copies : AreCopies [] (g.D.PageSource.image c.args.before.now) old.scan.plan old.scan.all.extents old.checked.items c.in_ok-copies.copies =
    c.in_ok-copies.ensures in
    let copies_now : AreCopies c.args.resets.now (g.E.PageSource.image c.args.after.now) new.scan.plan new.scan.all.extents new.checked.items c.in_ok-copies_now.copies_now =
    c.in_ok-copies_now.ensures in
    on_ok c.append_changes_by.result _ _
    (c.append_changes_by.ensures b d copies.found.frames copies_now.found.frames rows rows_now
    (best_found [] _ old.scan.plan old.scan.all.extents old.checked.items c.in_ok-copies.copies copies)
    (best_found c.args.resets.now _ new.scan.plan new.scan.all.extents new.checked.items c.in_ok-copies_now.copies_now copies_now))
    (λ same. (copies.found, copies.are, copies_now.found, copies_now.are, same.0, same.1, same.2))
