-- Without candidates nothing is written, and else their lines and then those of room.
use Rattle.std.proofs.Common.{◌≡◌, ◌==◌, ◌++◌, ◌∙◌, List, OnOk, ℕ, ap, arith, length, subst, sym}
use Rattle.std.specs.Prelude.{string_bytes}
use Rattle.scrub_disk.specs.declared.geometry.Geometry.{Geometry}
use Rattle.scrub_check.specs.steps.LocatorIndex.{AreBarredExtents}
use Rattle.scrub_listings.proofs.FlatLists.{appended_ok}
use Rattle.scrub_reclaim.specs.Reclaimable.{all_candidate_lines}
use Rattle.scrub_reclaim.specs.Room.{room_lines}
use Rattle.scrub_reclaim.specs.steps.KeptCopies.{AreShut}
use Rattle.scrub_reclaim.proofs.Clear.{no_lines, some_lines}
use Rattle.scrub_reclaim.proofs.reclaiming.append_reclaimed.Goals as goal

pub append_candidates-requires : goal.append_candidates-requires
append_candidates-requires g c = rw c.deref-2.ensures.value c.requires.listed

pub returns-then-is_empty : goal.returns-then-is_empty
returns-then-is_empty g c loose kept =
    let candidates = c.args.parts.now.candidates in
    let count : length candidates.items ≡ candidates.len = omega (arith, candidates.ok.0) in
    no_lines c.args.is_clear loose c.args.parts.now (string_bytes c.args.text.now)
    (ap (λ (n : ℕ). n == 0) count ∙ sym c.is_empty.ensures ∙ c.if-is_empty.true)

pub returns : goal.returns
returns g c loose kept =
    let parts = c.args.parts.now in
    let checked = parts.judged.checked.items in
    let candidates = parts.candidates.items in
    let count : length candidates ≡ parts.candidates.len = omega (arith, parts.candidates.ok.0) in
    let all = parts.judged.scan.all.extents in
    let old : List ℕ = string_bytes c.args.text.now in
    let mid : List ℕ = string_bytes c.append_candidates.new.text in
    let new : List ℕ = string_bytes c.append_rooms.new.text in
    let first : mid ≡ old ++ all_candidate_lines checked candidates =
    rw (c.deref.ensures.value, c.deref-2.ensures.value) at c.in_ok-append_candidates.ensures in
    let barred : AreBarredExtents checked c.barred-barred.result.now =
    subst (λ (xs : List ℕ). AreBarredExtents checked xs) (sym c.barred-barred.ensures) c.requires.locators.barred in
    let shut : AreShut all loose checked c.barred-barred.result.now c.in_ok-closed.closed =
    record { unsound = barred; shut = c.in_ok-closed.ensures all checked loose kept } in
    let later : OnOk c.append_rooms.result (new ≡ mid ++ room_lines parts.judged.scan.plan.geometry all loose checked candidates) =
    subst (λ (h : Geometry). OnOk c.append_rooms.result (new ≡ mid ++ room_lines h all loose checked candidates)) c.geometry-geometry.ensures
    (c.append_rooms.ensures loose checked candidates shut c.requires.listed) in
    subst (λ (u : List ℕ). OnOk c.append_rooms.result (new ≡ old ++ u))
    (some_lines c.args.is_clear loose parts c.if-not-is_clear.false
    (ap (λ (n : ℕ). n == 0) count ∙ sym c.is_empty.ensures ∙ c.if-is_empty.false))
    (appended_ok c.append_rooms.result old mid new (all_candidate_lines checked candidates) (room_lines parts.judged.scan.plan.geometry all loose checked candidates) first later)
