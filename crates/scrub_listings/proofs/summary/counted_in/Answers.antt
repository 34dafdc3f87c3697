-- The items take what was written, which a word counts.
use Rattle.scrub_scan.specs.Scanned.{scanned, result_image}
use Rattle.scrub_check.proofs.Sizes.{sizes_fit}
use Rattle.scrub_listings.proofs.summary.counted_in.Goals as goal

pub chunk_bytes-requires : goal.chunk_bytes-requires
chunk_bytes-requires g c =
    let f = scanned {s = g.D.PageSource} c.args.found.now in
    sizes_fit (result_image {s = g.D.PageSource} c.args.found.now) f.extent f.pointer c.findings-findings.result.now
    c.items-items.result.now
    c.findings-findings.ensures.found c.items-items.ensures c.findings-findings.ensures.pointer
