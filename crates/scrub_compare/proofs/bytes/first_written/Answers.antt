-- A byte that is refused changed and may not.
use Rattle.std.proofs.Common.{◌≡◌, true}
use Rattle.scrub_disk.specs.Image.{extent_bytes}
use Rattle.scrub_compare.specs.Written.{IsLeastNumber, IsWrittenIn}
use Rattle.scrub_compare.specs.steps.Changes.{IsLeastWithin, is_refused_in}
use Rattle.scrub_compare.proofs.ChangedBytes.{written_least}
use Rattle.scrub_compare.proofs.ExtentLines.{if_ok}
use Rattle.scrub_compare.proofs.bytes.first_written.Goals as goal

pub returns : goal.returns
returns g c =
    let before = g.D.PageSource.image c.args.before.now in
    let after = g.E.PageSource.image c.args.after.now in
    if_ok c.first_refused.result
    (IsLeastWithin 0 (extent_bytes before.geometry) (λ p. is_refused_in before after c.args.room c.args.pointer c.args.extent p ≡ true))
    (IsLeastNumber (IsWrittenIn before after c.args.room c.args.pointer c.args.extent)) c.first_refused.ensures
    (λ r least. written_least before after c.requires.sizes c.args.extent c.args.room c.args.pointer r least)
