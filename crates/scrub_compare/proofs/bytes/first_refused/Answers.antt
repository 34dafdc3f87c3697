-- The bytes that were read are those of the images.
use Rattle.scrub_compare.proofs.ChangedBytes.{images_least}
use Rattle.scrub_compare.proofs.bytes.first_refused.Goals as goal

pub returns : goal.returns
returns g c =
    images_least (g.D.PageSource.image c.args.before.now) (g.E.PageSource.image c.args.after.now) c.requires.sizes c.args.extent c.in_ok-old.old c.in_ok-new.new
    c.in_ok-old.ensures c.in_ok-new.ensures c.args.allowed.room c.args.allowed.to c.first_in_extent.result (rw c.geometry.ensures at c.first_in_extent.ensures)
