use Rattle.std.proofs.Common.{◌∙◌, append_assoc, ap}
use Rattle.std.specs.List.{filter}
use Rattle.std.proofs.lemmas.List.Elements.{filter-append}
use Rattle.scrub_scan.specs.declared.findings.Findings.{Findings}
use Rattle.scrub_scan.specs.Scanned.{scanned}
use Rattle.scrub_check.specs.Spares.{frames, frames_in, is_wanted}
use Rattle.scrub_check.proofs.lists.spares.frames_wanted.Goals as goal

pub loop-one-preserved : goal.loop-one-preserved
loop-one-preserved g c =
    let p = is_wanted c.args.wanted.now in
    let here = frames_in (scanned c.in-Some.one.now) in
    let left = frames c.next.new.self in
    let items = c.items.ensures ∙ ap (λ (x : Findings). x.items) c.findings.ensures.value in
    rw (c.in_ok-add_all_wanted.ensures, c.extent.ensures, items)
    (append_assoc c.loop-one.found.items (filter p here) (filter p left)
    ∙ (rw (c.in-Some.ensures.steps, filter-append p here left) at c.loop-one.invariant))
