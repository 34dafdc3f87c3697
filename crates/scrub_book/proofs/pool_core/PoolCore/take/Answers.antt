use Rattle.std.proofs.Common.{ap, rules}
use Rattle.scrub_book.specs.declared.event.Event.TheVariants.{Take}
use Rattle.scrub_book.specs.steps.Member.{IsReady}
use Rattle.scrub_book.proofs.PoolSteps.{named_by, take_is, kept_step}
use Rattle.scrub_book.proofs.pool_core.PoolCore.take.Goals as goal

pub returns-clause-taken : goal.returns-clause-taken
returns-clause-taken g c =
    let named =
    named_by c.self.invariant.0 (Take c.args.worker) c.index_mut.result.now _ (ap (λ v. v.state) c.self.view_is)
    c.requires c.index_mut.ensures.value in
    rw (← c.self.view_is)
    (take_is named c.in-Some.extent c.pop_front.new.self.items c.took.new.self (search rules) c.took.ensures.value)

pub invariant_of-self : goal.invariant_of-self
invariant_of-self g c =
    let kept = c.self.invariant.0 in
    let named =
    named_by kept (Take c.args.worker) c.index_mut.result.now _ (ap (λ v. v.state) c.self.view_is) c.requires
    c.index_mut.ensures.value in
    let ready : IsReady (g.D.PageSource.image c.self.inside.book.source) c.took.new.self = record {
      room = c.took.ensures.room;
      images = rw c.took.ensures.results named.ready.images;
    } in
    let step =
    take_is named c.in-Some.extent c.pop_front.new.self.items c.took.new.self (search rules) c.took.ensures.value in
    (kept_step kept named c.took.new.self ready c.pop_front.new.self.items step, c.self.invariant.1)
