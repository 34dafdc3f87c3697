-- What each pool keeps, event by event.
use Rattle.std.proofs.Common.{◌≡◌, ◌≤◌, ◌+◌, ◌++◌, ◌∷◌, ◌∙◌, ℕ, zero, suc, List, [], Bool, true, false, Option, Some, None, All, get_or, set, slice_get, sum_by, arith, refl, sym, ap, inl, inr, if◌then◌else◌, replicate}
use Rattle.std.specs.Option.{is_some, option_map_or, option_to_list}
use Rattle.std.proofs.lemmas.Bool.{true≢false}
use Rattle.std.proofs.lemmas.Option.{none-some, slice_get_within, get_or_from_slice_get}
use Rattle.std.proofs.lemmas.List.{map-append}
use Rattle.std.proofs.lemmas.List.Elements.{All-append, All-push, All-set}
use Rattle.std.proofs.lemmas.List.Folds.{sum_by-replicate}
use Rattle.std.proofs.lemmas.List.Sums.{get_or-le-sum_by, sum_by-append, sum_by-cons, sum_by-set}
use Rattle.list_facts.proofs.Options.{None_from_not_some}
use Rattle.scrub_disk.specs.Image.{Image}
use Rattle.scrub_super.specs.Plan.{PlanValue}
use Rattle.scrub_scan.specs.AllFindings.{extent_numbers}
use Rattle.scrub_book.specs.declared.event.Event.{Event}
use Rattle.scrub_book.specs.declared.event.Event.TheVariants.{Take, Done, Retire}
use Rattle.scrub_book.specs.declared.event.StepRefused.{StepRefused}
use Rattle.scrub_book.specs.declared.event.StepRefused.TheVariants.{NoWorker}
use Rattle.scrub_book.specs.Pool.{MemberValue, PoolState, idle, start, worker_of, member_refusal, refusal, IsScanned, IsTake, IsDone, IsRetire, IsStep, Leads, having, IsMember, IsPool}

-- if the whole gives nothing, the test is false and the rest gives nothing
gives_nothing : {X : Type 0} (b : Bool) (x : X) (rest : Option X) → (if b then Some x else rest) ≡ None →
    (b ≡ false) × (rest ≡ None)
gives_nothing true x rest none = absurd (none-some x (sym none))
gives_nothing false x rest none = (refl, none)

-- an event of a member isn't refused if the event isn't refused
asked : (p : PoolState) (event : Event) (m : MemberValue) → slice_get p.members (worker_of event) ≡ Some m →
    refusal p event ≡ None → member_refusal p.queue event m ≡ None
asked p event m at may =
    sym (ap (λ (o : Option MemberValue). option_map_or (member_refusal p.queue event) o (Some NoWorker)) at) ∙ may

-- a member that may take or retire has not retired, and holds nothing
free : (m : MemberValue) (x y : StepRefused) (rest : Option StepRefused) →
    (if m.has_retired then Some x else if is_some m.held then Some y else rest) ≡ None →
    (m.has_retired ≡ false) × (m.held ≡ None)
free m x y rest may =
    let first = gives_nothing m.has_retired x _ may in
    (first.0, None_from_not_some m.held (gives_nothing (is_some m.held) y rest first.1).0)

-- the sums over the members, before and after one is written
placed : (f : ℕ → ℕ) (ms : List MemberValue) (v : ℕ) (m n : MemberValue) → slice_get ms v ≡ Some m →
    sum_by (λ x. sum_by f (having x)) (set ms v n) + sum_by f (having m) ≡ sum_by (λ x. sum_by f (having x)) ms + sum_by f (having n)
placed f ms v m n at =
    let wrote = sum_by-set (λ x. sum_by f (having x)) ms v n m (slice_get_within ms v m at) in
    let is : sum_by f (having (get_or ms v m)) ≡ sum_by f (having m) =
    ap (λ x. sum_by f (having x)) (get_or_from_slice_get ms v m m at) in
    omega (arith, wrote, is)

-- what one member has is no more than what all have
pub one_among : (f : ℕ → ℕ) (ms : List MemberValue) (v : ℕ) (m : MemberValue) → slice_get ms v ≡ Some m →
    sum_by f (having m) ≤ sum_by (λ x. sum_by f (having x)) ms
one_among f ms v m at =
    rw (get_or_from_slice_get ms v m m at) at
    (get_or-le-sum_by (λ x. sum_by f (having x)) ms v m (slice_get_within ms v m at))

-- a member that holds nothing has its results
free_has : (f : ℕ → ℕ) (m : MemberValue) → m.held ≡ None → sum_by f (having m) ≡ sum_by f (extent_numbers m.results)
free_has f m free = ap (λ (o : Option ℕ). sum_by f (option_to_list o ++ extent_numbers m.results)) free

-- a member that holds an extent has it besides its results
busy_has : (f : ℕ → ℕ) (m : MemberValue) (e : ℕ) → m.held ≡ Some e →
    sum_by f (having m) ≡ f e + sum_by f (extent_numbers m.results)
busy_has f m e held =
    ap (λ (o : Option ℕ). sum_by f (option_to_list o ++ extent_numbers m.results)) held
    ∙ sum_by-cons f e (extent_numbers m.results)

module _ (image : Image) (plan : PlanValue) where
  -- one member has the facts of all
  member_of : (ms : List MemberValue) (v : ℕ) (m : MemberValue) → slice_get ms v ≡ Some m →
      All (IsMember image plan) ms → IsMember image plan m
  member_of ms v m at are = rw (get_or_from_slice_get ms v m m at) at (are v m (slice_get_within ms v m at))

  take_keeps : (old : PoolState) (v : ℕ) (new : PoolState) → refusal old (Take v) ≡ None → IsTake old v new →
      IsPool image plan old → IsPool image plan new
  take_keeps old v new may step pool =
      let m = step.member in
      let e = step.extent in
      let is_free = free m _ _ _ (asked old (Take v) m step.at may) in
      let n : MemberValue = record m { held = Some e; taken = m.taken ++ e ∷ [] } in
      rw step.is (record {
        account = λ f.
            let queue : sum_by f old.queue ≡ f e + sum_by f step.rest =
            ap (sum_by f) step.front ∙ sum_by-cons f e step.rest in
            omega (
              arith,
              pool.account f,
              queue,
              placed f old.members v m n step.at,
              free_has f m is_free.1,
              busy_has f n e refl,
            );
        members = All-set (IsMember image plan) old.members v n (record {
          results = (member_of old.members v m step.at pool.members).results;
          left = λ gone. absurd (true≢false (sym gone ∙ is_free.0));
        }) pool.members;
        arrivals = pool.arrivals;
      })

  done_keeps : (old : PoolState) (v : ℕ) (new : PoolState) → refusal old (Done v) ≡ None → IsDone image plan old v new →
      IsPool image plan old → IsPool image plan new
  done_keeps old v new may step pool =
      let m = step.member in
      let one = step.one in
      let working : m.has_retired ≡ false = (gives_nothing m.has_retired _ _ (asked old (Done v) m step.at may)).0 in
      let n : MemberValue = record m { held = None; results = m.results ++ one ∷ [] } in
      rw step.is (record {
        account = λ f.
            let more : sum_by f (having n) ≡ sum_by f (extent_numbers m.results) + f one.extent =
            ap (sum_by f) (map-append (λ x. x.extent) m.results (one ∷ []))
            ∙ sum_by-append f (extent_numbers m.results) (one.extent ∷ []) ∙ (omega arith) in
            omega (arith, pool.account f, placed f old.members v m n step.at, busy_has f m one.extent step.held, more);
        members = All-set (IsMember image plan) old.members v n (record {
          results =
              All-push (IsScanned image plan) m.results one (member_of old.members v m step.at pool.members).results
              step.scanned;
          left = λ gone. absurd (true≢false (sym gone ∙ working));
        }) pool.members;
        arrivals = pool.arrivals;
      })

  retire_keeps : (old : PoolState) (v : ℕ) (new : PoolState) → refusal old (Retire v) ≡ None → IsRetire old v new →
      IsPool image plan old → IsPool image plan new
  retire_keeps old v new may step pool =
      let m = step.member in
      let is_free = free m _ _ _ (asked old (Retire v) m step.at may) in
      let n : MemberValue = record m { results = []; has_retired = true } in
      rw step.is (record {
        account = λ f.
            let more : sum_by f (extent_numbers (old.arrivals ++ m.results)) ≡ sum_by f (extent_numbers old.arrivals) + sum_by f (extent_numbers m.results) =
            ap (sum_by f) (map-append (λ x. x.extent) old.arrivals m.results)
            ∙ sum_by-append f (extent_numbers old.arrivals) (extent_numbers m.results) in
            omega (
              arith,
              pool.account f,
              placed f old.members v m n step.at,
              free_has f m is_free.1,
              free_has f n is_free.1,
              more,
            );
        members =
            All-set (IsMember image plan) old.members v n
            (record { results = λ k d below. absurd (omega (arith, below)); left = λ gone. (is_free.1, refl) })
            pool.members;
        arrivals =
            All-append (IsScanned image plan) old.arrivals m.results pool.arrivals
            (member_of old.members v m step.at pool.members).results;
      })

  -- A state that meets `IsPool` still meets it after an event that isn't refused.
  pub step_keeps : (old : PoolState) (event : Event) (new : PoolState) → refusal old event ≡ None →
      IsStep image plan old event new → IsPool image plan old → IsPool image plan new
  step_keeps old (Take v) new may step pool = take_keeps old v new may step pool
  step_keeps old (Done v) new may step pool = done_keeps old v new may step pool
  step_keeps old (Retire v) new may step pool = retire_keeps old v new may step pool

  idle_member : IsMember image plan idle
  idle_member = record {
    results = λ k d below. absurd (omega (arith, below));
    left = λ gone. absurd (true≢false (sym gone));
  }

  replicated : (n : ℕ) → All (IsMember image plan) (replicate n idle)
  replicated zero k d below = absurd (omega (arith, below))
  replicated (suc n) zero d below = idle_member
  replicated (suc n) (suc k) d below = replicated n k d (omega (arith, below))

  -- The first state meets `IsPool`, however many members it has.
  pub start_is : (n : ℕ) → IsPool image plan (start plan n)
  start_is n = record {
    account = λ f. omega (arith, sum_by-replicate (λ x. sum_by f (having x)) n idle);
    members = replicated n;
    arrivals = λ k d below. absurd (omega (arith, below));
  }

  -- A state that meets `IsPool` still meets it after any schedule.
  pub leads_keeps : (old : PoolState) (events : List Event) (new : PoolState) → Leads image plan old events new →
      IsPool image plan old → IsPool image plan new
  leads_keeps old [] new is pool = rw is pool
  leads_keeps old (event ∷ events) new h pool = leads_keeps h.0 events new h.2 (elim h.1 [
    | inl taken ↦ step_keeps old event h.0 taken.0 taken.1 pool
    | inr same ↦ rw same pool
  ])
