use Rattle.std.proofs.Common.{◌∙◌, append_assoc, ap}
use Rattle.std.specs.List.{filter_map}
use Rattle.scrub_scan.specs.declared.findings.Findings.{Findings}
use Rattle.scrub_scan.specs.Scanned.{scanned}
use Rattle.scrub_check.specs.Chunks.{place_of, chunks}
use Rattle.scrub_check.proofs.lists.chunks.all_chunks.Goals as goal

pub loop-one-preserved : goal.loop-one-preserved
loop-one-preserved g c =
    let f = scanned c.in-Some.one.now in
    let here = filter_map (place_of f.extent) f.findings.items in
    let items = c.items.ensures ∙ ap (λ (x : Findings). x.items) c.findings.ensures.value in
    rw (c.in_ok-extend_from_slice.ensures.items, c.deref.ensures.value, c.in_ok-found.ensures, c.extent.ensures, items)
    (append_assoc c.loop-one.chunks.items here (chunks c.next.new.self)
    ∙ (rw c.in-Some.ensures.steps at c.loop-one.invariant))
