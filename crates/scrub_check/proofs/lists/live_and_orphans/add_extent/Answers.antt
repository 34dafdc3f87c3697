use Rattle.std.proofs.Common.{◌≡◌, ◌++◌, ◌∷◌, [], List, ◌∙◌, ap}
use Rattle.std.proofs.lemmas.Result.{IfOk-weaker}
use Rattle.scrub_scan.specs.declared.findings.Findings.{Findings}
use Rattle.scrub_scan.specs.Scanned.{Scanned, scanned, result_image}
use Rattle.scrub_check.specs.declared.places.chunk_at.ChunkAt.{ChunkAt}
use Rattle.scrub_check.specs.declared.lists.live_and_orphans.LiveAndOrphans.{LiveAndOrphans}
use Rattle.scrub_check.specs.steps.LocatorIndex.{reclaimable_by}
use Rattle.scrub_check.specs.steps.LiveAndOrphans.{orphans_by, AreLiveChunks, AreLiveAndOrphans}
use Rattle.scrub_check.proofs.Sizes.{sizes_fit}
use Rattle.scrub_check.proofs.PartedExtents.{starts_found, live_of_extent, parted_more}
use Rattle.scrub_check.proofs.lists.live_and_orphans.add_extent.Goals as goal

-- the items of findings ascend
pub live_among-requires-clause-rising : goal.live_among-requires-clause-rising
live_among-requires-clause-rising g c =
    let f = scanned {s = g.D.PageSource} c.args.found.now in
    starts_found (result_image {s = g.D.PageSource} c.args.found.now) f.extent f.pointer c.findings.result.now
    c.items-items.result.now c.findings.ensures.found c.items-items.ensures

-- and take what was written, which a word counts
pub live_among-requires-clause-sizes : goal.live_among-requires-clause-sizes
live_among-requires-clause-sizes g c =
    let f = scanned {s = g.D.PageSource} c.args.found.now in
    sizes_fit (result_image {s = g.D.PageSource} c.args.found.now) f.extent f.pointer c.findings.result.now
    c.items-items.result.now
    c.findings.ensures.found c.items-items.ensures c.findings.ensures.pointer

pub returns-clause-so_far : goal.returns-clause-so_far
returns-clause-so_far g c = λ checked extents locators so_far.
    let geometry = c.args.geometry in
    let f : Scanned = scanned c.args.found.now in
    let starts = c.args.locators.now.sound in
    let e = c.extent.result in
    let items = c.items-items.result.now in
    let live = c.in_ok-live.live in
    let old = c.args.so_far.now in
    let new : LiveAndOrphans = record {
      live = c.push.new.self;
      orphans = c.live_among.new.orphans;
      reclaimable = c.add_reclaimable.new.candidates;
    } in
    let its : items ≡ f.findings.items = c.items-items.ensures ∙ ap (λ (x : Findings). x.items) c.findings.ensures.value in
    let chunks : AreLiveChunks checked f live =
    live_of_extent checked starts f e items live locators.sound c.extent.ensures its
    (rw c.requires.over at c.in_ok-live.ensures.live) in
    IfOk-weaker c.add_reclaimable.result
    (λ _. new.reclaimable.items ≡ old.reclaimable.items ++ reclaimable_by geometry (f ∷ []) checked)
    (λ _. AreLiveAndOrphans geometry checked (extents ++ f ∷ []) new)
    (λ v is. parted_more geometry checked starts extents f e items live old new locators.sound so_far c.extent.ensures its chunks c.in_ok-push.ensures.items
    (c.in_ok-live.ensures.orphans ∙ ap (λ (ss : List ChunkAt). old.orphans.items ++ orphans_by ss e items) c.requires.over) is)
    (c.add_reclaimable.ensures checked locators chunks)
