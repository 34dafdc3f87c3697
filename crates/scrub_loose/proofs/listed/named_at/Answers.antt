-- The locator at a place, if one is there, is that of the run that begins where it points.
use Rattle.std.proofs.Common.{◌≡◌, ◌∙◌, ℕ, List, ap, arith, drop, get_or, length, length-drop, subst, sym, take}
use Rattle.std.proofs.lemmas.Bool.{false≢true}
use Rattle.std.proofs.lemmas.List.{get_or_default}
use Rattle.list_facts.proofs.Slices.{ne_false, ne_true}
use Rattle.scrub_disk.specs.Image.{AreBytesAt}
use Rattle.scrub_frame.specs.declared.locator.Locator.{Locator}
use Rattle.scrub_frame.specs.Locator.{locator_bytes}
use Rattle.scrub_frame.proofs.Locators.{length-locator_bytes}
use Rattle.scrub_scan.specs.Extent.{HasGap}
use Rattle.scrub_scan.proofs.FrameBytes.{no_gap_in}
use Rattle.scrub_loose.specs.steps.Held.{extent_held}
use Rattle.scrub_loose.specs.steps.Naming.{locator_in}
use Rattle.scrub_loose.proofs.BytesInMemory.{held_bytes}
use Rattle.scrub_loose.proofs.ClaimedBytes.{from_place}
use Rattle.scrub_loose.proofs.Naming.{locator_read, named_by, no_locator_past}
use Rattle.scrub_loose.proofs.listed.named_at.Goals as goal

pub returns-in_err-bytes-clause-none : goal.returns-in_err-bytes-clause-none
returns-in_err-bytes-clause-none c =
    let x = c.args.inside.now in
    let p = c.args.place in
    let rest = from_place c.deref.result.now x.bytes.items p c.deref.ensures.value in
    rw c.from_residual.ensures
    (λ k d low here.
    no_locator_past x.page x.bytes.items x.readable.items p (locator_in (get_or c.args.listed.now k d)) (c.requires.order.locators k d low)
    (omega (arith, c.in_err-bytes.ensures.cases, ap (λ (ys : List ℕ). length ys) rest, length-drop p x.bytes.items, c.requires.place)) here)

pub returns-in_err-index-clause-none : goal.returns-in_err-index-clause-none
returns-in_err-index-clause-none c =
    let x = c.args.inside.now in
    let p = c.args.place in
    let m = c.read_locator.result in
    let read : locator_bytes c.read_locator.result ≡ take 60 (drop p x.bytes.items) =
    c.read_locator.ensures.bytes ∙ c.in_ok-bytes.ensures.cases.same
    ∙ ap (take 60) (from_place c.deref.result.now x.bytes.items p c.deref.ensures.value) in
    rw c.from_residual-in_err-index.ensures
    (λ k d low here.
    let same =
    locator_read x.page x.bytes.items x.readable.items p (locator_in (get_or c.args.listed.now k d)) m (c.requires.order.locators k d low)
    c.read_locator.ensures.in_range here read in
    c.in_err-index.ensures.none k d low (sym (ap (λ (l : Locator). l.extent) same), sym (ap (λ (l : Locator). l.offset) same)))

pub returns-then-ne-clause-none : goal.returns-then-ne-clause-none
returns-then-ne-clause-none c = λ k d low here.
    let x = c.args.inside.now in
    let p = c.args.place in
    let vs = c.args.listed.now in
    let i = c.in_ok-index.index in
    let chunk : c.in_ok-bytes.bytes.now ≡ take 60 (drop p x.bytes.items) =
    c.in_ok-bytes.ensures.cases.same ∙ ap (take 60) (from_place c.deref.result.now x.bytes.items p c.deref.ensures.value) in
    let item = c.index-listed-index.is ∙ get_or_default vs i c.index-listed-index.result d c.in_ok-index.ensures.found in
    ne_true c.write_locator.result c.in_ok-bytes.bytes.now c.ne.result c.ne.ensures c.if-ne.true
    (c.write_locator.ensures.bytes ∙ ap locator_bytes (c.locator.ensures ∙ ap locator_in item)
    ∙ named_by x.page x.bytes.items x.readable.items p vs i k d c.read_locator.result c.requires.order c.in_ok-index.ensures.found low
    c.read_locator.ensures.in_range (c.read_locator.ensures.bytes ∙ chunk) (c.in_ok-index.ensures.there d) here
    ∙ sym chunk)

pub returns-then-not-is_readable-clause-none : goal.returns-then-not-is_readable-clause-none
returns-then-not-is_readable-clause-none c = λ k d low here.
    let at = (extent_held c.args.inside.now).byte in
    let l = locator_in (get_or c.args.listed.now k d) in
    false≢true
    (sym c.if-not-is_readable.true
    ∙ c.is_readable.ensures.1
    (λ gap.
    no_gap_in at c.args.place (locator_bytes l) here
    (subst (λ (n : ℕ). HasGap at c.args.place n) (sym (length-locator_bytes l (c.requires.order.locators k d low))) gap)))

pub returns-clause-there : goal.returns-clause-there
returns-clause-there c = λ d.
    let x = c.args.inside.now in
    let p = c.args.place in
    let vs = c.args.listed.now in
    let i = c.in_ok-index.index in
    let rest = from_place c.deref.result.now x.bytes.items p c.deref.ensures.value in
    let chunk : c.in_ok-bytes.bytes.now ≡ take 60 (drop p x.bytes.items) = c.in_ok-bytes.ensures.cases.same ∙ ap (take 60) rest in
    let item = c.index-listed-index.is ∙ get_or_default vs i c.index-listed-index.result d c.in_ok-index.ensures.found in
    subst (AreBytesAt (extent_held x).byte p)
    (sym chunk ∙ sym (ne_false c.write_locator.result c.in_ok-bytes.bytes.now c.ne.result c.ne.ensures c.if-ne.false)
    ∙ c.write_locator.ensures.bytes ∙ ap locator_bytes (c.locator.ensures ∙ ap locator_in item))
    (held_bytes x.page x.bytes.items x.readable.items p 60
    (omega (arith, c.in_ok-bytes.ensures.cases.enough, ap (λ (ys : List ℕ). length ys) rest, length-drop p x.bytes.items, c.requires.place))
    (c.is_readable.ensures.0 c.if-not-is_readable.false))
