-- What a complete pool has.
use Rattle.std.proofs.Common.{Some, ◌≡◌, ◌==◌, ◌&&◌, ◌++◌, ◌∷◌, ◌∙◌, ℕ, suc, List, [], true, Option, All, length, get_or, sum_by, arith, refl, ap, slice_get, is_none}
use Rattle.std.specs.List.{Contains, list_all}
use Rattle.std.specs.List.Sorted.{IsStrictlyIncreasing}
use Rattle.std.specs.Option.{option_to_list}
use Rattle.std.proofs.lemmas.Bool.{and_parts}
use Rattle.std.proofs.lemmas.List.{get_or_default}
use Rattle.std.proofs.lemmas.List.Elements.{All-contains}
use Rattle.std.proofs.lemmas.List.Sums.{sum_by-cons}
use Rattle.list_facts.proofs.Counts.{contained_counts, counted_contained, one_for, rising_once}
use Rattle.list_facts.proofs.Slices.{nil_from_no_length}
use Rattle.scrub_disk.specs.Image.{Image}
use Rattle.scrub_super.specs.Plan.{PlanValue}
use Rattle.scrub_super.specs.Planned.{ArePlanned}
use Rattle.scrub_scan.specs.Scanned.{Scanned}
use Rattle.scrub_scan.specs.AllFindings.{extent_numbers, AreAllFindings}
use Rattle.scrub_book.specs.Pool.{MemberValue, PoolState, start, is_complete, having, IsAccount, IsScanned, IsMember, IsPool, IsAssembly, IsOnceEach, EveryScheduleFinds}
use Rattle.scrub_book.proofs.Pools.{one_among, start_is, leads_keeps}

module _ (image : Image) (plan : PlanValue) where
  -- members that are through hold nothing and have no results
  through_have : (f : ℕ → ℕ) (ms : List MemberValue) → All (IsMember image plan) ms →
      list_all (λ m. is_none m.held && m.has_retired) ms ≡ true → sum_by (λ m. sum_by f (having m)) ms ≡ 0
  through_have f [] are through = refl
  through_have f (m ∷ ms) are through =
      let parts = and_parts (is_none m.held && m.has_retired) (list_all (λ x. is_none x.held && x.has_retired) ms) through in
      let facts = and_parts (is_none m.held) m.has_retired parts.0 in
      let left = (are 0 m (omega arith)).left facts.1 in
      let none : sum_by f (having m) ≡ 0 =
      ap (λ (o : Option ℕ). sum_by f (option_to_list o ++ extent_numbers m.results)) left.0
      ∙ ap (λ (rs : List Scanned). sum_by f (extent_numbers rs)) left.1 in
      omega (
        arith,
        sum_by-cons (λ x. sum_by f (having x)) m ms,
        none,
        through_have f ms (λ k d below. are (suc k) d (omega (arith, below))) parts.1,
      )

  -- the arrivals of a complete pool are the planned extents, each as often
  pub complete_sums : (p : PoolState) → IsPool image plan p → is_complete p ≡ true → (f : ℕ → ℕ) →
      sum_by f (extent_numbers p.arrivals) ≡ sum_by f plan.planned
  complete_sums p pool complete f =
      let parts = and_parts (length p.queue == 0) (list_all (λ m. is_none m.held && m.has_retired) p.members) complete in
      let queue : sum_by f p.queue ≡ 0 = ap (sum_by f) (nil_from_no_length p.queue parts.0) in
      omega (arith, pool.account f, queue, through_have f p.members pool.members parts.1)

  -- what a member holds is planned
  pub held_planned : (p : PoolState) (v : ℕ) (m : MemberValue) (e : ℕ) → IsAccount plan p →
      slice_get p.members v ≡ Some m → m.held ≡ Some e → Contains plan.planned e
  held_planned p v m e account at held =
      let there = contained_counts (having m) e (rw held (0, omega arith, refl)) in
      counted_contained plan.planned e
      (omega (arith, account (one_for e), one_among (one_for e) p.members v m at, there))

  pub once_each : (p : PoolState) → IsStrictlyIncreasing plan.planned →
      ((f : ℕ → ℕ) → sum_by f (extent_numbers p.arrivals) ≡ sum_by f plan.planned) → IsOnceEach plan p
  once_each p rising same = record {
    once = λ e there.
        omega (arith, same (one_for e), contained_counts plan.planned e there, rising_once plan.planned e rising);
    no_other = λ k d below.
        let e = get_or (extent_numbers p.arrivals) k d in
        counted_contained plan.planned e
        (omega (arith, same (one_for e), contained_counts (extent_numbers p.arrivals) e (k, below, get_or_default (extent_numbers p.arrivals) k e d below)));
  }

  -- what is assembled from arrivals that are what the image holds is what one reader finds
  pub assembled : (p : PoolState) (all : List Scanned) → All (IsScanned image plan) p.arrivals → IsAssembly plan p all →
      AreAllFindings image plan all
  assembled p all are is = record {
    extents = is.extents;
    pointers = λ k d below.
        (All-contains (IsScanned image plan) p.arrivals (get_or all k d) are (is.arrived k d below)).pointer_is;
    findings = λ k d below.
        (All-contains (IsScanned image plan) p.arrivals (get_or all k d) are (is.arrived k d below)).found;
  }

  -- Whatever the schedule, a complete pool has each planned extent once, with what one reader finds.
  pub every_schedule : ArePlanned plan.geometry.extents plan.planned → EveryScheduleFinds image plan
  every_schedule planned workers events p leads complete =
      let pool = leads_keeps image plan (start plan workers) events p leads (start_is image plan workers) in
      (once_each p planned.rising (complete_sums p pool complete), λ all is. assembled p all pool.arrivals is)
