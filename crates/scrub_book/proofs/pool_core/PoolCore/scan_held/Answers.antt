use Rattle.std.proofs.Common.{◌≡◌, ◌∙◌, ap, sym, slice_get, Some}
use Rattle.std.proofs.lemmas.Option.{same_Some}
use Rattle.std.proofs.lemmas.Result.{IfOk-weaker}
use Rattle.scrub_book.specs.declared.event.Event.TheVariants.{Done}
use Rattle.scrub_book.specs.steps.Member.{member_value, state_of}
use Rattle.scrub_book.specs.Pool.{MemberValue}
use Rattle.scrub_book.proofs.Complete.{held_planned}
use Rattle.scrub_book.proofs.PoolSteps.{named_by, place}
use Rattle.scrub_book.proofs.pool_core.PoolCore.scan_held.Goals as goal

-- what a member holds is planned
pub scan_extent-requires-clause-planned : goal.scan_extent-requires-clause-planned
scan_extent-requires-clause-planned g c = λ κs h.
    let f = c.self.inside in
    let kept = c.self.invariant.0 in
    let named =
    named_by kept (Done c.args.worker) c.index.result.now _ (ap (λ v. v.state) c.self.view_is) c.requires
    c.index.ensures in
    let held : (member_value c.index.result.now).held ≡ Some c.in-Some.extent = sym c.held.ensures ∙ c.in-Some.is in
    rw c.plan.ensures
    (held_planned (g.D.PageSource.image f.book.source) f.book.plan (state_of f.queue.items f.members.items f.arrived.items) c.args.worker (member_value c.index.result.now) c.in-Some.extent kept.pool.account (place named) held)

pub returns-clause-held : goal.returns-clause-held
returns-clause-held g c m is =
    let named =
    named_by c.self.invariant.0 (Done c.args.worker) c.index.result.now _ (ap (λ v. v.state) c.self.view_is) c.requires
    c.index.ensures in
    let same : m ≡ member_value c.index.result.now =
    same_Some m (member_value c.index.result.now)
    (sym is ∙ sym (ap (λ v. slice_get v.state.members c.args.worker) c.self.view_is) ∙ place named) in
    let held : m.held ≡ Some c.in-Some.extent =
    ap (λ (x : MemberValue). x.held) same ∙ sym c.held.ensures ∙ c.in-Some.is in
    IfOk-weaker c.scan_extent.result _ _ (λ r number. held ∙ ap Some (sym number)) c.scan_extent.ensures.extent
