use Rattle.std.proofs.Common.{◌≡◌, ◌∙◌, true, map, sum_by, get_or, ap, arith, sym}
use Rattle.std.proofs.lemmas.List.{get_or-map, get_or_default, length-map}
use Rattle.std.proofs.lemmas.List.Sorted.{Contains-permutation, IsPermutation-sym}
use Rattle.list_facts.proofs.Counts.{permutation_of_sums}
use Rattle.scrub_scan.specs.declared.extent_result.ExtentResult.{ExtentResult}
use Rattle.scrub_scan.specs.Scanned.{scanned}
use Rattle.scrub_book.specs.Extents.{extents_in}
use Rattle.scrub_book.specs.steps.Member.{state_of}
use Rattle.scrub_book.specs.Pool.{is_complete}
use Rattle.scrub_book.proofs.Arrivals.{numbers_shown}
use Rattle.scrub_book.proofs.Complete.{complete_sums}
use Rattle.scrub_book.proofs.pool_core.PoolCore.finish.Goals as goal

pub assemble-requires-clause-pointers : goal.assemble-requires-clause-pointers
assemble-requires-clause-pointers g c = λ κs h k d below.
    let rs = c.self.inside.arrived.items in
    let value = λ (r : ExtentResult g.row.D.Denot g.D.PageSource). scanned r in
    rw (get_or-map value rs k d (value d) below) at
    (c.self.invariant.0.pool.arrivals k (value d) (omega (arith, below, length-map rs value))).pointer_is

-- the arrivals are the planned extents, since their sums are the same
pub assemble-requires-clause-each : goal.assemble-requires-clause-each
assemble-requires-clause-each g c = λ κs h.
    let x = c.self.inside in
    let complete : is_complete (state_of x.queue.items x.members.items x.arrived.items) ≡ true =
    ap (λ v. is_complete v.state) c.self.view_is ∙ sym c.is_complete.ensures ∙ c.if-not-is_complete.false in
    permutation_of_sums (extents_in x.arrived.items) x.book.plan.planned
    (λ f. sym (ap (sum_by f) (numbers_shown x.arrived.items)) ∙ complete_sums (g.D.PageSource.image x.book.source) x.book.plan (state_of x.queue.items x.members.items x.arrived.items) c.self.invariant.0.pool complete f)

pub returns-clause-assembly : goal.returns-clause-assembly
returns-clause-assembly g c =
    let all = c.assemble.result.extents in
    let value = λ (r : ExtentResult g.row.D.Denot g.D.PageSource). scanned r in
    let came = map value c.self.inside.arrived.items in
    rw (← c.self.view_is) (record {
      extents = c.assemble.ensures.found.extents;
      arrived = λ k d below.
          Contains-permutation all came (get_or all k d) (IsPermutation-sym came all c.assemble.ensures.arrived)
          (k, below, get_or_default all k (get_or all k d) d below);
    })
