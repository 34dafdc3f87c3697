use Rattle.std.proofs.Common.{◌≡◌, ◌∙◌, ap, arith, length}
use Rattle.std.proofs.lemmas.List.{length-map}
use Rattle.scrub_scan.specs.declared.extent_result.ExtentResult.{ExtentResult}
use Rattle.scrub_book.specs.declared.event.Event.TheVariants.{Retire}
use Rattle.scrub_book.specs.steps.Member.{results_in, IsReady}
use Rattle.scrub_book.proofs.PoolSteps.{named_by, retire_is, room_for, kept_arrived}
use Rattle.scrub_book.proofs.pool_core.PoolCore.retire.Goals as goal

pub arrive-requires-clause-arrived : goal.arrive-requires-clause-arrived
arrive-requires-clause-arrived g c = λ κs h.
    let kept = c.self.invariant.0 in
    let named =
    named_by kept (Retire c.args.worker) c.index_mut.result.now _ (ap (λ v. v.state) c.self.view_is) c.requires
    c.index_mut.ensures.value in
    omega (arith, room_for kept named, kept.enough, ap length c.retire-results.ensures.results.0)

pub arrive-requires-clause-numbers : goal.arrive-requires-clause-numbers
arrive-requires-clause-numbers g c = λ κs h.
    let kept = c.self.invariant.0 in
    let named =
    named_by kept (Retire c.args.worker) c.index_mut.result.now _ (ap (λ v. v.state) c.self.view_is) c.requires
    c.index_mut.ensures.value in
    let arrived = c.self.inside.arrived.items in
    let as_many : length c.self.inside.numbers.items ≡ length arrived =
    ap length kept.numbers_are ∙ length-map arrived (λ (r : ExtentResult g.row.D.Denot g.D.PageSource). r.extent) in
    omega (arith, room_for kept named, as_many, c.self.invariant.1, ap length c.retire-results.ensures.results.0)

pub returns-clause-retired : goal.returns-clause-retired
returns-clause-retired g c =
    let named =
    named_by c.self.invariant.0 (Retire c.args.worker) c.index_mut.result.now _ (ap (λ v. v.state) c.self.view_is)
    c.requires c.index_mut.ensures.value in
    rw (← c.self.view_is)
    (retire_is named c.arrive.new.arrived.items c.retire-results.new.self c.retire-results.ensures.value (rw c.retire-results.ensures.results.0 at c.arrive.ensures.arrived))

pub invariant_of-self : goal.invariant_of-self
invariant_of-self g c =
    let kept = c.self.invariant.0 in
    let named =
    named_by kept (Retire c.args.worker) c.index_mut.result.now _ (ap (λ v. v.state) c.self.view_is) c.requires
    c.index_mut.ensures.value in
    let results = c.retire-results.ensures.results in
    let ready : IsReady (g.D.PageSource.image c.self.inside.book.source) c.retire-results.new.self = record {
      room = c.retire-results.ensures.room;
      images = rw results.1 (λ k d low. absurd (omega (arith, low)));
    } in
    let after = rw results.0 at c.arrive.ensures.arrived in
    let listed = rw results.0 at c.arrive.ensures.numbers in
    let step = retire_is named c.arrive.new.arrived.items c.retire-results.new.self c.retire-results.ensures.value after in (
      rw c.arrive.ensures.room.0
          (kept_arrived kept named c.retire-results.new.self ready c.arrive.new.arrived.items c.arrive.new.numbers.items (results_in c.index_mut.result.now) step named.ready.images after listed),
      omega (arith, c.self.invariant.1, c.arrive.ensures.room.1),
    )
