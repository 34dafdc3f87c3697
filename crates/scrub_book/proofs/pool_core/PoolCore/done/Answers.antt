use Rattle.std.proofs.Common.{◌≡◌, ◌∙◌, ap, Result, Ok, Err, OnErr}
use Rattle.std.proofs.lemmas.List.Elements.{All-push}
use Rattle.scrub_scan.specs.declared.extent_result.ExtentResult.{ExtentResult}
use Rattle.scrub_scan.specs.Scanned.{result_image}
use Rattle.scrub_book.specs.declared.event.Event.TheVariants.{Done}
use Rattle.scrub_book.specs.steps.Member.{results_in, IsReady}
use Rattle.scrub_book.proofs.PoolSteps.{named_by, done_is, same_state, kept_step, kept_same}
use Rattle.scrub_book.proofs.pool_core.PoolCore.done.Goals as goal

-- if memory ran out, the member is as it was
pub invariant_of-self : goal.invariant_of-self
invariant_of-self g c =
    let kept = c.self.invariant.0 in
    let named =
    named_by kept (Done c.args.worker) c.index_mut.result.now _ (ap (λ v. v.state) c.self.view_is) c.requires
    c.index_mut.ensures.value in
    let same = c.in_err-done.ensures.same in
    let ready : IsReady (g.D.PageSource.image c.self.inside.book.source) c.done.new.self = record {
      room = c.done.ensures.room named.ready.room;
      images = rw same.1 named.ready.images;
    } in
    (kept_same kept named c.done.new.self ready same.0, c.self.invariant.1)

-- what holds anyway holds after a fault
holds_after_fault : {T E P : Type 0} (r : Result T E) → P → OnErr r P
holds_after_fault (Ok x) p = tt
holds_after_fault (Err x) p = p

pub returns-in_err-done-clause-back : goal.returns-in_err-done-clause-back
returns-in_err-done-clause-back g c =
    let named =
    named_by c.self.invariant.0 (Done c.args.worker) c.index_mut.result.now _ (ap (λ v. v.state) c.self.view_is)
    c.requires c.index_mut.ensures.value in
    holds_after_fault c.from_residual-in_err-done.result
    (same_state named c.done.new.self c.in_err-done.ensures.same.0 ∙ ap (λ v. v.state) c.self.view_is)

pub invariant_of-self-2 : goal.invariant_of-self-2
invariant_of-self-2 g c =
    let kept = c.self.invariant.0 in
    let named =
    named_by kept (Done c.args.worker) c.index_mut.result.now _ (ap (λ v. v.state) c.self.view_is) c.requires
    c.index_mut.ensures.value in
    let found : ExtentResult g.row.D.Denot g.D.PageSource = c.in_ok-found.found in
    let scan = c.in_ok-found.ensures in
    let image = g.D.PageSource.image c.self.inside.book.source in
    let of : result_image found ≡ image = rw (← c.self.view_is) at scan.image in
    let ready : IsReady image c.done.new.self = record {
      room = c.done.ensures.room named.ready.room;
      images =
          rw c.in_ok-done.ensures.results
          (All-push (λ (r : ExtentResult g.row.D.Denot g.D.PageSource). result_image r ≡ image) (results_in c.index_mut.result.now) found named.ready.images of);
    } in
    let step =
    done_is named c.self.inside.book.plan found c.done.new.self of (rw (← c.self.view_is) at scan.pointer)
    (rw (← c.self.view_is) at scan.held) c.in_ok-done.ensures.value in
    (kept_step kept named c.done.new.self ready c.self.inside.queue.items step, c.self.invariant.1)

pub returns-clause-done : goal.returns-clause-done
returns-clause-done g c =
    let named =
    named_by c.self.invariant.0 (Done c.args.worker) c.index_mut.result.now _ (ap (λ v. v.state) c.self.view_is)
    c.requires c.index_mut.ensures.value in
    let scan = c.in_ok-found.ensures in
    rw (← c.self.view_is)
    (done_is named c.self.inside.book.plan c.in_ok-found.found c.done.new.self (rw (← c.self.view_is) at scan.image) (rw (← c.self.view_is) at scan.pointer) (rw (← c.self.view_is) at scan.held) c.in_ok-done.ensures.value)
