-- No more reads failed than may fail.
use Rattle.std.proofs.Common.{◌≡◌, ◌-◌, arith}
use Rattle.std.proofs.lemmas.Result.{IfOk-weaker}
use Rattle.scrub_disk.specs.OneExtent.{image_of}
use Rattle.scrub_disk.proofs.LostPages.{loaded_with_more}
use Rattle.scrub_cli.proofs.commands.disk_extent.extent_of_raw.Goals as goal

pub returns-clause-loaded : goal.returns-clause-loaded
returns-clause-loaded g c =
    let bound = g.met.R.RawImage.failures_are_bounded c.load_extent.new.raw in
    let same = c.load_extent.ensures.same_bound in
    IfOk-weaker c.load_extent.result _ _
    (λ disk loaded. loaded_with_more (λ e. e ≡ c.args.extent) (g.R.RawImage.bytes c.args.raw.now) (g.R.RawImage.fails c.args.raw.now)
    (g.R.RawImage.failures c.load_extent.new.raw - g.R.RawImage.failures c.args.raw.now) (g.R.RawImage.most_failures c.args.raw.now)
    c.args.geometry c.args.pages.now (image_of disk) (omega (arith, bound, same)) loaded)
    c.load_extent.ensures.loaded
