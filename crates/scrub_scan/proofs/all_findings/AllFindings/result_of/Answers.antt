use Rattle.std.proofs.Common.{sym, ◌∙◌, ap, arith, length, ◌≡◌, get_or, List, Option, option_map}
use Rattle.std.proofs.lemmas.Option.{slice_get-map, get_or_from_slice_get}
use Rattle.scrub_scan.specs.declared.extent_result.ExtentResult.{ExtentResult}
use Rattle.scrub_scan.specs.Scanned.{Scanned, scanned}
use Rattle.scrub_scan.specs.Slots.{scanned_in}
use Rattle.scrub_scan.specs.AllFindings.{extent_numbers}
use Rattle.scrub_scan.proofs.Entries.{entry_at}
use Rattle.scrub_scan.proofs.all_findings.AllFindings.result_of.Goals as goal

-- the slots that are searched are those that are kept
pub position_of-requires-clause-full : goal.position_of-requires-clause-full
position_of-requires-clause-full g c = λ κs h. rw c.deref.ensures.value c.self.invariant.0

pub position_of-requires-clause-rising : goal.position_of-requires-clause-rising
position_of-requires-clause-rising g c = λ κs h. rw c.deref.ensures.value c.self.invariant.1.rising

pub result_at-requires-after_bounds : goal.result_at-requires-after_bounds
result_at-requires-after_bounds g c = λ κs h.
    omega (
      arith,
      c.in_ok-i.ensures.found.0,
      ap (λ (slots : List (Option (ExtentResult g.row.D.Denot g.D.PageSource))). length (scanned_in slots)) c.deref.ensures.value,
      ap (λ v. length v.extents) c.self.view_is,
    )

pub returns-in_err-i-clause-none : goal.returns-in_err-i-clause-none
returns-in_err-i-clause-none g c =
    rw (c.from_residual.ensures, ← c.self.view_is)
    (rw c.deref.ensures.value at c.in_err-i.ensures.none)

pub returns-clause-found : goal.returns-clause-found
returns-clause-found g c =
    let all = c.args.self.now.extents in
    let i = c.in_ok-i.i in
    let number : get_or (extent_numbers all) i 0 ≡ c.args.extent =
    ap (λ (fs : List Scanned). get_or (extent_numbers fs) i 0) (sym (ap (λ (slots : List (Option (ExtentResult g.row.D.Denot g.D.PageSource))). scanned_in slots) c.deref.ensures.value ∙ ap (λ v. v.extents) c.self.view_is))
    ∙ c.in_ok-i.ensures.found.1 in
    let decided : get_or (extent_numbers all) i 0 ≡ (scanned c.result_at.result.now).extent =
    get_or_from_slice_get (extent_numbers all) i (scanned c.result_at.result.now).extent 0
    (slice_get-map (λ (f : Scanned). f.extent) all i ∙ ap (option_map (λ (f : Scanned). f.extent)) c.result_at.ensures.result) in
    entry_at all c.result_at.ensures.scanned.rising i (scanned c.result_at.result.now) c.args.extent
    c.result_at.ensures.result (sym decided ∙ number)
