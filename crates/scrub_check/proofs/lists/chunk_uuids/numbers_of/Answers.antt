use Rattle.std.proofs.Common.{◌∙◌, ap}
use Rattle.std.specs.List.{filter_map}
use Rattle.scrub_scan.specs.declared.findings.Findings.{Findings}
use Rattle.scrub_scan.specs.Scanned.{scanned}
use Rattle.scrub_check.specs.Chunks.{place_of, chunks}
use Rattle.scrub_check.proofs.UuidNumbers.{AddsNumbers-none, AddsNumbers-append}
use Rattle.scrub_check.proofs.lists.chunk_uuids.numbers_of.Goals as goal

pub loop-one-preserved : goal.loop-one-preserved
loop-one-preserved g c = λ after rest.
    let f = scanned c.in-Some.one.now in
    let items = c.items.ensures ∙ ap (λ (x : Findings). x.items) c.findings.ensures.value in
    let here = filter_map (place_of f.extent) f.findings.items in
    let added = rw (c.extent.ensures, items) at c.in_ok-append_numbers.ensures in
    (rw c.in-Some.ensures.steps at c.loop-one.invariant) after
    (AddsNumbers-append c.loop-one.numbers.items c.append_numbers.new.numbers.items after here (chunks c.next.new.self) added rest)

pub returns : goal.returns
returns g c =
    (rw c.in-None.ensures.steps.0 at c.loop-one.invariant) c.loop-one.numbers.items (AddsNumbers-none c.loop-one.numbers.items)
