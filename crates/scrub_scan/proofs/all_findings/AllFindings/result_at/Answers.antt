use Rattle.std.proofs.Common.{◌≡◌, ◌<◌, ◌∙◌, ℕ, List, ap, arith, get_or, length, Some, Option, option_map, rules}
use Rattle.std.proofs.lemmas.Option.{slice_get-map, slice_get-get_or}
use Rattle.scrub_scan.specs.declared.extent_result.ExtentResult.{ExtentResult}
use Rattle.scrub_scan.specs.Scanned.{Scanned, scanned}
use Rattle.scrub_scan.specs.Slots.{held_in, AreFull, scanned_in}
use Rattle.scrub_scan.proofs.Slots.{full_length, full_none, full_at, slot_count}
use Rattle.scrub_scan.proofs.all_findings.AllFindings.result_at.Goals as goal

-- there is such a slot
within : {D : Type 0} {s : _} (slots : List (Option (ExtentResult D s))) (extents : List Scanned) (i : ℕ) →
    AreFull slots → scanned_in slots ≡ extents → i < length extents → i < length slots
within slots extents i full is below = omega (arith, below, ap length is, slot_count slots full)

pub index-requires : goal.index-requires
index-requires g c =
    omega (
      arith,
      within c.self.inside.slots.items c.args.self.now.extents c.args.i c.self.invariant.0 (ap (λ v. v.extents) c.self.view_is) c.requires,
    )

-- no slot is empty
pub unreachable-requires : goal.unreachable-requires
unreachable-requires g c =
    full_none c.self.inside.slots.items c.args.i c.index.result.now c.self.invariant.0
    (within c.self.inside.slots.items c.args.self.now.extents c.args.i c.self.invariant.0 (ap (λ v. v.extents) c.self.view_is) c.requires)
    (search rules)

pub returns-clause-result : goal.returns-clause-result
returns-clause-result g c =
    let slots = c.self.inside.slots.items in
    let found : ExtentResult g.row.D.Denot g.D.PageSource = c.in-Some.result in
    let below : c.args.i < length slots =
    within slots c.args.self.now.extents c.args.i c.self.invariant.0 (ap (λ v. v.extents) c.self.view_is) c.requires in
    let is : get_or (held_in slots) c.args.i found ≡ found =
    full_at slots c.args.i c.index.result.now found found c.self.invariant.0 below (search rules) in
    rw (← c.self.view_is)
    (slice_get-map (λ (r : ExtentResult g.row.D.Denot g.D.PageSource). scanned r) (held_in slots) c.args.i
    ∙ ap (option_map (λ (r : ExtentResult g.row.D.Denot g.D.PageSource). scanned r))
    (slice_get-get_or (held_in slots) c.args.i found (omega (arith, below, full_length slots c.self.invariant.0)) ∙ ap Some is))
