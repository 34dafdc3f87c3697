-- What the code keeps of a pool, event by event.
use Rattle.std.proofs.Common.{◌≡◌, ◌<◌, ◌+◌, ◌++◌, ◌∷◌, ◌∙◌, ℕ, List, Option, Some, None, All, length, map, get_or, set, slice_get, option_map, ◌≤◌, sum_by, arith, refl, sym, ap, subst}
use Rattle.std.proofs.Math.Seq.{map-set_same}
use Rattle.std.specs.Option.{option_map_or, option_to_list}
use Rattle.std.proofs.lemmas.Option.{none-some, slice_get-map, slice_get-get_or, slice_get_within}
use Rattle.std.proofs.lemmas.List.{map-append, map-set, length-map, length-append}
use Rattle.std.proofs.lemmas.List.Elements.{All-append, All-set}
use Rattle.list_facts.proofs.Counts.{sum_by-one}
use Rattle.scrub_disk.specs.Image.{Image}
use Rattle.scrub_super.specs.Plan.{PlanValue, pointer_of}
use Rattle.scrub_scan.specs.declared.extent_result.ExtentResult.{ExtentResult}
use Rattle.scrub_scan.specs.Scanned.{Scanned, scanned, result_image}
use Rattle.scrub_scan.specs.AllFindings.{extent_numbers}
use Rattle.scrub_book.specs.declared.event.Event.{Event}
use Rattle.scrub_book.specs.declared.event.Event.TheVariants.{Take, Done, Retire}
use Rattle.scrub_book.specs.declared.event.StepRefused.TheVariants.{NoWorker}
use Rattle.scrub_book.specs.declared.member.Member.{Member}
use Rattle.scrub_book.specs.declared.member.Member.TheVariants.{Working, Through}
use Rattle.scrub_book.specs.Extents.{extents_in}
use Rattle.scrub_book.specs.Book.{BookValue}
use Rattle.scrub_book.specs.steps.Member.{member_value, results_in, state_of, IsReady, HoldsPool}
use Rattle.scrub_book.specs.Pool.{MemberValue, PoolState, worker_of, member_refusal, refusal, taking, having_found, through, IsTake, IsDone, IsRetire, IsStep, IsPool, having}
use Rattle.scrub_book.proofs.Pools.{one_among, step_keeps}

-- an event that isn't refused names a member
names_one : (p : PoolState) (event : Event) → refusal p event ≡ None → worker_of event < length p.members
names_one p event may = by (slice_get p.members (worker_of event)) refl may
  where
    by : (o : Option MemberValue) → slice_get p.members (worker_of event) ≡ o →
        option_map_or (member_refusal p.queue event) o (Some NoWorker) ≡ None → worker_of event < length p.members
    by None at none = absurd (none-some NoWorker (sym none))
    by (Some m) at none = slice_get_within p.members (worker_of event) m at

module _ {D : Type 0} {s : _} where
  -- the member m that an event names which isn't refused: it is in its place and ready
  pub record IsNamed (image : Image) (queue : List ℕ) (ms : List (Member D s)) (arrived : List (ExtentResult D s))
      (event : Event) (m : Member D s) : Type 0 where
    pub may : refusal (state_of queue ms arrived) event ≡ None
    pub below : worker_of event < length ms
    pub at : m ≡ get_or ms (worker_of event) m
    pub ready : IsReady image m

  -- Among the machine's members, the one that the event names has the value of `m`.
  pub place : {image : Image} {queue : List ℕ} {ms : List (Member D s)} {arrived : List (ExtentResult D s)} {event : Event} {m : Member D s} →
      IsNamed image queue ms arrived event m →
      slice_get (map (λ (x : Member D s). member_value x) ms) (worker_of event) ≡ Some (member_value m)
  place {ms = ms} {event = event} {m = m} named =
      slice_get-map (λ (x : Member D s). member_value x) ms (worker_of event)
      ∙ ap (option_map (λ (x : Member D s). member_value x)) (slice_get-get_or ms (worker_of event) m named.below ∙ ap Some (sym named.at))

  -- the state after a member was written
  wrote : (left : List ℕ) (ms : List (Member D s)) (after : List (ExtentResult D s)) (v : ℕ) (n : Member D s) (value : MemberValue) →
      member_value n ≡ value →
      state_of left (set ms v n) after ≡ record { queue = left; members = set (map (λ (x : Member D s). member_value x) ms) v value; arrivals = map (λ (r : ExtentResult D s). scanned r) after }
  wrote left ms after v n value is =
      ap
      (λ (xs : List MemberValue). let q : PoolState = record { queue = left; members = xs; arrivals = map (λ (r : ExtentResult D s). scanned r) after } in q)
      (map-set (λ (x : Member D s). member_value x) ms v n ∙ ap (set (map (λ (x : Member D s). member_value x) ms) v) is)

  value_results : (m : Member D s) → (member_value m).results ≡ map (λ (r : ExtentResult D s). scanned r) (results_in m)
  value_results (Working core) = refl
  value_results (Through taken) = refl

  -- what an event did, which wrote n over member m
  module _ {image : Image} {queue : List ℕ} {ms : List (Member D s)} {arrived : List (ExtentResult D s)} {v : ℕ}
      {m : Member D s} where
    -- Writing `n`, whose value is that of `m` after it took the front of the queue, is a take of member `v`.
    pub take_is : IsNamed image queue ms arrived (Take v) m → (e : ℕ) (rest : List ℕ) (n : Member D s) →
        queue ≡ e ∷ rest → member_value n ≡ taking (member_value m) e →
        IsTake (state_of queue ms arrived) v (state_of rest (set ms v n) arrived)
    take_is named e rest n front value = record {
      member = member_value m;
      extent = e;
      rest = rest;
      at = place named;
      front = front;
      is = wrote rest ms arrived v n _ value;
    }

    -- Writing `n`, whose value has the result of what `m` held, is what the machine does when `v` is done.
    pub done_is : IsNamed image queue ms arrived (Done v) m →
        (plan : PlanValue) (r : ExtentResult D s) (n : Member D s) → result_image r ≡ image →
        pointer_of plan r.extent ≡ Some r.pointer →
        ((x : MemberValue) → slice_get (state_of queue ms arrived).members v ≡ Some x → x.held ≡ Some r.extent) →
        member_value n ≡ having_found (member_value m) (scanned r) →
        IsDone image plan (state_of queue ms arrived) v (state_of queue (set ms v n) arrived)
    done_is named plan r n of pointer held value = record {
      member = member_value m;
      one = scanned r;
      at = place named;
      held = held (member_value m) (place named);
      scanned = record { pointer_is = pointer; found = rw of at r.found };
      is = wrote queue ms arrived v n _ value;
    }

    -- Writing `n`, which is through, and appending the results of `m` to the arrivals retires member `v`.
    pub retire_is : IsNamed image queue ms arrived (Retire v) m → (after : List (ExtentResult D s)) (n : Member D s) →
        member_value n ≡ through (member_value m) → after ≡ arrived ++ results_in m →
        IsRetire (state_of queue ms arrived) v (state_of queue (set ms v n) after)
    retire_is named after n value came = record {
      member = member_value m;
      at = place named;
      is =
          wrote queue ms after v n _ value
          ∙ ap (λ (ys : List Scanned). let q : PoolState = record { queue = queue; members = set (map (λ (x : Member D s). member_value x) ms) v (through (member_value m)); arrivals = ys } in q)
          (ap (map (λ (r : ExtentResult D s). scanned r)) came ∙ map-append (λ (r : ExtentResult D s). scanned r) arrived (results_in m) ∙ ap (λ (ys : List Scanned). map (λ (r : ExtentResult D s). scanned r) arrived ++ ys) (sym (value_results m)));
    }

  -- a state is the same after a member was written as it was
  pub same_state : {image : Image} {queue : List ℕ} {ms : List (Member D s)} {arrived : List (ExtentResult D s)} {event : Event} {m : Member D s} →
      IsNamed image queue ms arrived event m →
      (n : Member D s) → member_value n ≡ member_value m →
      state_of queue (set ms (worker_of event) n) arrived ≡ state_of queue ms arrived
  same_state {queue = queue} {ms = ms} {arrived = arrived} {event = event} {m = m} named n value =
      ap
      (λ (xs : List MemberValue). let q : PoolState = record { queue = queue; members = xs; arrivals = map (λ (r : ExtentResult D s). scanned r) arrived } in q)
      (map-set_same (λ (x : Member D s). member_value x) ms (worker_of event) n m (value ∙ ap (λ (x : Member D s). member_value x) named.at))

  module _ {image : Image} {book : BookValue D} {queue : List ℕ} {ms : List (Member D s)}
      {arrived : List (ExtentResult D s)} {numbers : List ℕ} {room : ℕ}
      (kept : HoldsPool image book queue ms arrived numbers room) where
    -- an event that isn't refused names a member
    pub named_by : (event : Event) (m : Member D s) (p : PoolState) → state_of queue ms arrived ≡ p →
        refusal p event ≡ None → m ≡ get_or ms (worker_of event) m → IsNamed image queue ms arrived event m
    named_by event m p view may at =
        let here : refusal (state_of queue ms arrived) event ≡ None =
        subst (λ (q : PoolState). refusal q event ≡ None) (sym view) may in
        let below : worker_of event < length ms =
        omega (
          arith,
          names_one (state_of queue ms arrived) event here,
          length-map ms (λ (x : Member D s). member_value x),
        ) in
        record { may = here; below = below; at = at; ready = subst (λ (x : Member D s). IsReady image x) (sym at) (kept.ready (worker_of event) m below) }

    -- what is kept once a member was written
    kept_with : (v : ℕ) (n : Member D s) → IsReady image n →
        (left : List ℕ) (after : List (ExtentResult D s)) (listed : List ℕ) →
        IsPool image book.plan (state_of left (set ms v n) after) →
        All (λ (r : ExtentResult D s). result_image r ≡ image) after → listed ≡ extents_in after →
        HoldsPool image book left (set ms v n) after listed room
    kept_with v n ready left after listed pool images numbers_are = record {
      nothing = kept.nothing;
      geometry = kept.geometry;
      pool = pool;
      ready = All-set (IsReady image) ms v n ready kept.ready;
      images = images;
      numbers_are = numbers_are;
      enough = kept.enough;
    }

    module _ {event : Event} {m : Member D s} (named : IsNamed image queue ms arrived event m) (n : Member D s)
        (ready : IsReady image n) where
      -- after an event without arrivals
      pub kept_step : (left : List ℕ) →
          IsStep image book.plan (state_of queue ms arrived) event (state_of left (set ms (worker_of event) n) arrived) →
          HoldsPool image book left (set ms (worker_of event) n) arrived numbers room
      kept_step left step =
          kept_with (worker_of event) n ready left arrived numbers
          (step_keeps image book.plan (state_of queue ms arrived) event (state_of left (set ms (worker_of event) n) arrived) named.may step kept.pool)
          kept.images kept.numbers_are

      -- after an event with arrivals
      pub kept_arrived : (after : List (ExtentResult D s)) (listed : List ℕ) (more : List (ExtentResult D s)) →
          IsStep image book.plan (state_of queue ms arrived) event (state_of queue (set ms (worker_of event) n) after) →
          All (λ (r : ExtentResult D s). result_image r ≡ image) more → after ≡ arrived ++ more →
          listed ≡ numbers ++ extents_in more → HoldsPool image book queue (set ms (worker_of event) n) after listed room
      kept_arrived after listed more step images is are =
          kept_with (worker_of event) n ready queue after listed
          (step_keeps image book.plan (state_of queue ms arrived) event (state_of queue (set ms (worker_of event) n) after) named.may step kept.pool)
          (rw is (All-append (λ (r : ExtentResult D s). result_image r ≡ image) arrived more kept.images images))
          (are ∙ ap (λ (ns : List ℕ). ns ++ extents_in more) kept.numbers_are ∙ sym (map-append (λ (r : ExtentResult D s). (scanned r).extent) arrived more) ∙ sym (ap extents_in is))

      -- after a member was written as it was
      pub kept_same : member_value n ≡ member_value m →
          HoldsPool image book queue (set ms (worker_of event) n) arrived numbers room
      kept_same value =
          kept_with (worker_of event) n ready queue arrived numbers (rw (same_state named n value) kept.pool)
          kept.images kept.numbers_are

    -- what arrived and what a member has are no more than what is planned
    pub room_for : {event : Event} {m : Member D s} → IsNamed image queue ms arrived event m →
        length arrived + length (results_in m) ≤ length book.plan.planned
    room_for {event} {m} named =
        let p = state_of queue ms arrived in
        let one : ℕ → ℕ = λ e. 1 in
        let among = one_among one p.members (worker_of event) (member_value m) (place named) in
        let has : sum_by one (having (member_value m)) ≡ length (having (member_value m)) =
        sum_by-one (having (member_value m)) in
        let parts = length-append (option_to_list (member_value m).held) (extent_numbers (member_value m).results) in
        let results : length (extent_numbers (member_value m).results) ≡ length (results_in m) =
        length-map (member_value m).results (λ x. x.extent) ∙ ap length (value_results m)
        ∙ length-map (results_in m) (λ (r : ExtentResult D s). scanned r) in
        let came : length (extent_numbers p.arrivals) ≡ length arrived =
        length-map p.arrivals (λ x. x.extent) ∙ length-map arrived (λ (r : ExtentResult D s). scanned r) in
        omega (
          arith,
          kept.pool.account one,
          among,
          has,
          parts,
          results,
          came,
          sum_by-one (extent_numbers p.arrivals),
          sum_by-one book.plan.planned,
        )
