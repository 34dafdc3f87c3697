use Rattle.std.proofs.Common.{◌≡◌, ◌∙◌, ap, arith, sym, map, length, [], ℕ, List, replicate}
use Rattle.scrub_scan.specs.declared.extent_result.ExtentResult.{ExtentResult}
use Rattle.scrub_scan.specs.Scanned.{Scanned, scanned}
use Rattle.scrub_book.specs.Extents.{extents_in}
use Rattle.scrub_book.specs.steps.Member.{state_of}
use Rattle.scrub_book.specs.Pool.{PoolState, MemberValue, idle, start}
use Rattle.scrub_book.proofs.Pools.{start_is}
use Rattle.scrub_book.proofs.pool_core.PoolCore.new.Goals as goal

begun : (planned queue : List ℕ) (members : List MemberValue) (arrivals : List Scanned) (workers : ℕ) →
    queue ≡ planned → members ≡ replicate workers idle → arrivals ≡ [] →
    (let p : PoolState = record { queue = queue; members = members; arrivals = arrivals } in p) ≡ record { queue = planned; members = replicate workers idle; arrivals = [] }
begun planned queue members arrivals workers q m a = cc

pub invariant_of-result : goal.invariant_of-result
invariant_of-result g c =
    let book = c.in_ok-new.field-0 in
    let is = c.in_ok-new.ensures in
    let image = g.D.PageSource.image book.source in
    let state = state_of c.from-queue.result.items c.in_ok-members.members.items c.in_ok-arrived.arrived.items in
    let planned : c.in_ok-from_slice.field-0.items ≡ book.plan.planned =
    c.in_ok-from_slice.ensures.items ∙ c.planned-planned.ensures.planned ∙ sym (ap (λ p. p.planned) is.plan_is) in
    let began : state ≡ start book.plan c.args.workers =
    begun book.plan.planned _ _ _ c.args.workers (c.from-queue.ensures.0 ∙ planned) c.in_ok-members.ensures.values
    (ap (map (λ (r : ExtentResult g.row.D.Denot g.D.PageSource). scanned r)) c.in_ok-arrived.ensures.items) in (
      record {
        nothing = is.nothing;
        geometry =
            ap (λ p. p.geometry) is.plan_is ∙ c.requires.geometry
            ∙ sym (ap (λ d. (g.D.PageSource.image d).geometry) is.source_is);
        pool = rw began (start_is image book.plan c.args.workers);
        ready = c.in_ok-members.ensures.ready image;
        images = rw c.in_ok-arrived.ensures.items (λ k d below. absurd (omega (arith, below)));
        numbers_are = c.in_ok-numbers.ensures.items ∙ sym (ap extents_in c.in_ok-arrived.ensures.items);
        enough = omega (
          arith,
          c.in_ok-arrived.ensures.capacity,
          ap (λ p. length p.planned) is.plan_is,
          ap length c.planned-planned.ensures.planned,
        );
      },
      omega (
        arith,
        c.in_ok-numbers.ensures.capacity,
        ap (λ p. length p.planned) is.plan_is,
        ap length c.planned-planned.ensures.planned,
      ),
    )
