-- The bytes from the place on begin with the claim that is there.
use Rattle.std.proofs.Common.{◌∙◌, ◌+◌, ℕ, List, arith, drop, subst, sym}
use Rattle.std.proofs.lemmas.Bool.{false≢true}
use Rattle.scrub_frame.specs.declared.frame.Head.{Head}
use Rattle.scrub_frame.specs.Frame.{frame_overhead}
use Rattle.scrub_scan.specs.Extent.{HasGap}
use Rattle.scrub_loose.specs.steps.Held.{BeginsWithClaim, extent_held}
use Rattle.scrub_loose.proofs.ClaimedBytes.{claim_begins, claim_there, from_place, one_begun}
use Rattle.scrub_loose.proofs.claims.readable_claim.Goals as goal

pub returns-in_err-head-clause-none : goal.returns-in_err-head-clause-none
returns-in_err-head-clause-none c =
    let x = c.args.extent.now in
    rw c.from_residual.ensures
    (λ h k.
    c.in_err-head.ensures.none h
    (subst (λ (ys : List ℕ). BeginsWithClaim ys h) (sym (from_place c.deref.result.now x.bytes.items c.args.place c.deref.ensures.value))
    (claim_begins x.page x.bytes.items x.readable.items c.args.place h k)))

pub returns-then-not-is_readable-clause-none : goal.returns-then-not-is_readable-clause-none
returns-then-not-is_readable-clause-none c =
    let x = c.args.extent.now in
    λ h k.
    let mine =
    subst (λ (ys : List ℕ). BeginsWithClaim ys c.in_ok-head.head)
    (from_place c.deref.result.now x.bytes.items c.args.place c.deref.ensures.value) c.in_ok-head.ensures.found in
    let same =
    one_begun (drop c.args.place x.bytes.items) h c.in_ok-head.head
    (claim_begins x.page x.bytes.items x.readable.items c.args.place h k) mine in
    false≢true
    (sym c.if-not-is_readable.true
    ∙ c.is_readable.ensures.1
    (subst (λ (n : ℕ). ¬ HasGap (extent_held x).byte c.args.place n) (sym c.frame_bytes.ensures.value)
    (subst (λ (g : Head). ¬ HasGap (extent_held x).byte c.args.place (g.length + frame_overhead g.form)) same k.readable)))

pub returns-clause-found : goal.returns-clause-found
returns-clause-found c =
    let x = c.args.extent.now in
    claim_there x.page x.bytes.items x.readable.items c.args.place c.in_ok-head.head (omega arith)
    (subst (λ (ys : List ℕ). BeginsWithClaim ys c.in_ok-head.head)
    (from_place c.deref.result.now x.bytes.items c.args.place c.deref.ensures.value) c.in_ok-head.ensures.found)
    (subst (λ (n : ℕ). ¬ HasGap (extent_held x).byte c.args.place n) c.frame_bytes.ensures.value (c.is_readable.ensures.0 c.if-not-is_readable.false))
