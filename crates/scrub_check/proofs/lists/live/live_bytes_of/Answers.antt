use Rattle.std.proofs.Common.{ℕ, List, ◌∙◌, ap}
use Rattle.std.proofs.Math.Path.{ap₂}
use Rattle.std.specs.List.{filter, sum_by}
use Rattle.scrub_scan.specs.declared.findings.Findings.{Findings}
use Rattle.scrub_scan.specs.declared.item.Item.{Item}
use Rattle.scrub_scan.specs.Scanned.{result_image, scanned}
use Rattle.scrub_check.specs.Live.{size_of}
use Rattle.scrub_check.specs.steps.SoundPlaces.{is_live}
use Rattle.scrub_check.proofs.Sizes.{sizes_fit}
use Rattle.scrub_check.proofs.lists.live.live_bytes_of.Goals as goal

-- the items take what was written, which a word counts
pub sum_of_live-requires : goal.sum_of_live-requires
sum_of_live-requires g c =
    let one = scanned {s = g.D.PageSource} c.args.one.now in
    sizes_fit (result_image {s = g.D.PageSource} c.args.one.now) one.extent one.pointer c.findings.result.now
    c.items-items.result.now
    c.findings.ensures.found c.items-items.ensures c.findings.ensures.pointer

-- the live ones are those of the extent's own items
pub returns : goal.returns
returns g c =
    c.sum_of_live.ensures
    ∙ ap₂ (λ (e : ℕ) (items : List Item). sum_by size_of (filter (is_live c.args.checked.now e) items)) c.extent.ensures
    (c.items-items.ensures ∙ ap (λ (f : Findings). f.items) c.findings.ensures.value)
