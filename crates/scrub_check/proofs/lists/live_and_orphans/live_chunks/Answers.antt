use Rattle.std.proofs.Common.{◌≡◌, List, ◌∙◌, ap}
use Rattle.scrub_scan.specs.declared.findings.Findings.{Findings}
use Rattle.scrub_scan.specs.declared.item.Item.{Item}
use Rattle.scrub_scan.specs.Scanned.{Scanned, scanned, result_image}
use Rattle.scrub_check.specs.declared.lists.live_and_orphans.LiveChunks.{LiveChunks}
use Rattle.scrub_check.proofs.Sizes.{sizes_fit}
use Rattle.scrub_check.proofs.PartedExtents.{live_of_extent}
use Rattle.scrub_check.proofs.PartedItems.{kept_fit, live_from_kept}
use Rattle.scrub_check.proofs.lists.live_and_orphans.live_chunks.Goals as goal

-- the items take what was written, which a word counts
pub bytes_of-bytes-requires : goal.bytes_of-bytes-requires
bytes_of-bytes-requires g c =
    let f = scanned {s = g.D.PageSource} c.args.found.now in
    kept_fit c.args.locators.now.sound c.extent.result c.items-items.result.now c.deref.result.now
    (c.deref.ensures.value ∙ c.in_ok-kept.ensures)
    (sizes_fit (result_image {s = g.D.PageSource} c.args.found.now) f.extent f.pointer c.findings.result.now
    c.items-items.result.now
    c.findings.ensures.found c.items-items.ensures c.findings.ensures.pointer)

pub returns : goal.returns
returns g c = λ checked locators.
    let f : Scanned = scanned c.args.found.now in
    let starts = c.args.locators.now.sound in
    let e = c.extent.result in
    let items : List Item = c.items-items.result.now in
    let live : LiveChunks = record { bytes = c.bytes_of-bytes.result; kept = c.in_ok-kept.kept } in
    let its : items ≡ f.findings.items = c.items-items.ensures ∙ ap (λ (x : Findings). x.items) c.findings.ensures.value in
    live_of_extent checked starts f e items live locators.sound c.extent.ensures its
    (live_from_kept starts e items live (rw c.deref.ensures.value at c.bytes_of-bytes.ensures) c.in_ok-kept.ensures)
