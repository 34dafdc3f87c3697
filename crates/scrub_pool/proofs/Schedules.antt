-- Lists that are a partition of the planned extents are what the members of a complete pool took, after some schedule.
use Rattle.std.proofs.Common.{◌≡◌, ◌<◌, ◌≤◌, ◌+◌, ◌==◌, ◌&&◌, ◌++◌, ◌∷◌, ◌∙◌, ℕ, zero, suc, List, [], Bool, true, false, Option, Some, None, All, length, map, get_or, set, slice_get, is_none, replicate, if◌then◌else◌, sum_by, arith, refl, sym, ap, subst, inl, append_assoc, append-nil, length-set}
use Rattle.std.proofs.Math.Seq.{map-set_same}
use Rattle.std.specs.List.{AllPairs, AllPass, Contains}
use Rattle.std.specs.List.Sorted.{IsStrictlyIncreasing}
use Rattle.std.specs.Option.{option_map_or, option_map}
use Rattle.std.proofs.lemmas.Bool.Decides.{nat_tests}
use Rattle.std.proofs.lemmas.Option.{slice_get-get_or, slice_get-map, slice_get_within}
use Rattle.std.proofs.lemmas.List.{get_or-set_same, map-append, map-set, nil_from_length, set_at, set-set}
use Rattle.std.proofs.lemmas.List.Elements.{All-append, All-head, All-map, All-nil, All-push, All-set, All-tail}
use Rattle.std.proofs.lemmas.List.Kept.{AllPairs-from_increasing}
use Rattle.std.proofs.lemmas.List.Sorted.{sum_by-IsPermutation}
use Rattle.std.proofs.lemmas.List.Sums.{get_or-le-sum_by, list_all-from_AllPass, sum_by-append, sum_by-cons, sum_by-set}
use Rattle.list_facts.proofs.Counts.{contained_counts, counted_contained, one_for, sum_by-one, sum_by-some_term}
use Rattle.scrub_disk.specs.Image.{Image}
use Rattle.scrub_super.specs.Plan.{PlanValue}
use Rattle.scrub_scan.specs.Scanned.{Scanned}
use Rattle.scrub_scan.specs.AllFindings.{extent_numbers, AreAllFindings}
use Rattle.scrub_book.specs.declared.event.Event.TheVariants.{Take, Done, Retire}
use Rattle.scrub_book.specs.declared.event.StepRefused.TheVariants.{NoWorker, QueueEmpty}
use Rattle.scrub_book.specs.Pool.{MemberValue, PoolState, idle, member_refusal, IsScanned, taking, through, Follows}
use Rattle.scrub_pool.specs.Passes.{one_list}
use Rattle.scrub_pool.specs.Takings.{IsPartition, AreTakenFrom, AreTakenInSomeSchedule}

-- each number is below all after it
abbrev Rise : List ℕ → Type 0
Rise xs = AllPairs (λ x y. x < y) xs

-- the numbers after the first ascend too
rest_rises : (x : ℕ) (xs : List ℕ) → Rise (x ∷ xs) → Rise xs
rest_rises x xs rise i j d less within = rise (suc i) (suc j) d (omega (arith, less)) (omega (arith, within))

-- none of ascending numbers is below the first
first_is_least : (x : ℕ) (xs : List ℕ) (y : ℕ) → Rise (x ∷ xs) → Contains (x ∷ xs) y → x ≤ y
first_is_least x xs y rise (zero, within, is) = omega (arith, is)
first_is_least x xs y rise (suc k, within, is) = omega (arith, is, rise 0 (suc k) y (omega arith) within)

-- ascending numbers begin with their least
least_is_first : (e : ℕ) (xs : List ℕ) → Rise xs → Contains xs e → ((x : ℕ) → Contains xs x → e ≤ x) →
    (rest : List ℕ) × (xs ≡ e ∷ rest)
least_is_first e [] rise there least = absurd (omega (arith, there.1))
least_is_first e (x ∷ xs) rise there least =
    let same : x ≡ e = omega (arith, first_is_least x xs e rise there, least x (0, omega arith, refl)) in
    (xs, ap (λ n. n ∷ xs) same)

-- a list with a first element isn't empty
not_empty : {X : Type 0} (x : X) (xs : List X) → (length (x ∷ xs) == 0) ≡ false
not_empty x xs = grind (arith, nat_tests)

-- the element after a list
get_behind : {X : Type 0} (xs ys : List X) (x : X) → slice_get (xs ++ x ∷ ys) (length xs) ≡ Some x
get_behind [] ys x = refl
get_behind (y ∷ xs) ys x = get_behind xs ys x

-- what was written into a place is there
get_written : {X : Type 0} (xs : List X) (i : ℕ) (x y : X) → slice_get xs i ≡ Some x → slice_get (set xs i y) i ≡ Some y
get_written xs i x y at =
    let below = slice_get_within xs i x at in
    slice_get-get_or (set xs i y) i y (omega (arith, below, length-set xs i y))
    ∙ ap Some (get_or-set_same xs i y y below)

-- a member between two extents: those that it took, what it found, and those that it will take
record Turn : Type 0 where
  taken : List ℕ
  results : List Scanned
  coming : List ℕ

-- as a member, which holds nothing and hasn't retired
abbrev member_of : Turn → MemberValue
member_of t = record { held = None; taken = t.taken; results = t.results; has_retired = false }

abbrev members_of : List Turn → List MemberValue
members_of turns = map member_of turns

-- whether a member holds nothing and has retired
abbrev has_left : MemberValue → Bool
has_left m = is_none m.held && m.has_retired

-- all that it took or will take
abbrev due : Turn → List ℕ
due t = t.taken ++ t.coming

-- before it begins
abbrev fresh : List ℕ → Turn
fresh list = record { taken = []; results = []; coming = list }

-- after it took one more extent and finished it, with the rest to take
abbrev after : Turn → Scanned → List ℕ → Turn
after t one rest = record { taken = t.taken ++ one.extent ∷ []; results = t.results ++ one ∷ []; coming = rest }

-- what a number for each extent adds up to over all that will be taken
abbrev total : (ℕ → ℕ) → List Turn → ℕ
total f turns = sum_by (λ t. sum_by f t.coming) turns

abbrev pool : List ℕ → List MemberValue → List Scanned → PoolState
pool queue members arrivals = record { queue = queue; members = members; arrivals = arrivals }

-- the queue ascends, what each member will take ascends, and all of that is the queue
record AreTurns (queue : List ℕ) (turns : List Turn) : Type 0 where
  queue_rises : Rise queue
  each_rises : All (λ t. Rise t.coming) turns
  whole : (f : ℕ → ℕ) → total f turns ≡ sum_by f queue

module _ (e : ℕ) (queue : List ℕ) (turns : List Turn) (are : AreTurns (e ∷ queue) turns) where
  -- what a member will take is in the queue
  from_queue : (v : ℕ) → v < length turns → (x : ℕ) → Contains (get_or turns v (fresh [])).coming x →
      Contains (e ∷ queue) x
  from_queue v below x there =
      let coming = (get_or turns v (fresh [])).coming in
      counted_contained (e ∷ queue) x
      (omega (arith, are.whole (one_for x), get_or-le-sum_by (λ t. sum_by (one_for x) t.coming) turns v (fresh []) below, contained_counts coming x there))

  -- the queue's front is what some member takes next
  next_of_one : (v : ℕ) × (v < length turns) × (rest : List ℕ) × ((get_or turns v (fresh [])).coming ≡ e ∷ rest)
  next_of_one =
      let some =
      sum_by-some_term (λ t. sum_by (one_for e) t.coming) turns (fresh [])
      (omega (arith, are.whole (one_for e), contained_counts (e ∷ queue) e (0, omega arith, refl))) in
      let coming = (get_or turns some.0 (fresh [])).coming in
      let least : (x : ℕ) → Contains coming x → e ≤ x =
      λ x there. first_is_least e queue x are.queue_rises (from_queue some.0 some.1 x there) in
      let front =
      least_is_first e coming (are.each_rises some.0 (fresh []) some.1) (counted_contained coming e some.2) least in
      (some.0, some.1, front.0, front.1)

  -- once that member took it, the members will take the rest of the queue
  turns_go_on : (v : ℕ) (n : Turn) → v < length turns → (get_or turns v (fresh [])).coming ≡ e ∷ n.coming →
      AreTurns queue (set turns v n)
  turns_go_on v n below front = record {
    queue_rises = rest_rises e queue are.queue_rises;
    each_rises =
        All-set (λ t. Rise t.coming) turns v n
        (rest_rises e n.coming (subst Rise front (are.each_rises v (fresh []) below))) are.each_rises;
    whole = λ f.
        let cut : sum_by f (get_or turns v (fresh [])).coming ≡ f e + sum_by f n.coming =
        ap (sum_by f) front ∙ sum_by-cons f e n.coming in
        omega (
          arith,
          are.whole f,
          cut,
          sum_by-cons f e queue,
          sum_by-set (λ t. sum_by f t.coming) turns v n (fresh []) below,
        );
  }

-- if nothing is left to take, all took what they were to take
all_took : (turns : List Turn) → total (λ x. 1) turns ≡ 0 → map (λ m. m.taken) (members_of turns) ≡ map due turns
all_took [] none = refl
all_took (t ∷ turns) none =
    let sums = sum_by-cons (λ t. sum_by (λ x. 1) t.coming) t turns in
    let empty : t.coming ≡ [] = nil_from_length t.coming (omega (arith, none, sums, sum_by-one t.coming)) in
    let first : t.taken ≡ due t = sym (append-nil t.taken) ∙ ap (λ (xs : List ℕ). t.taken ++ xs) (sym empty) in
    let rest = all_took turns (omega (arith, none, sums)) in
    λ i. first i ∷ rest i

-- members that haven't begun did nothing
all_idle : (lists : List (List ℕ)) → members_of (map fresh lists) ≡ replicate (length lists) idle
all_idle [] = refl
all_idle (list ∷ lists) = λ i. idle ∷ all_idle lists i

-- and each will take its list
all_due : (lists : List (List ℕ)) → map due (map fresh lists) ≡ lists
all_due [] = refl
all_due (list ∷ lists) = λ i. list ∷ all_due lists i

-- so all together will take the lists
all_together : (f : ℕ → ℕ) (lists : List (List ℕ)) → total f (map fresh lists) ≡ sum_by f (one_list lists)
all_together f [] = refl
all_together f (list ∷ lists) =
    omega (
      arith,
      all_together f lists,
      sum_by-cons (λ t. sum_by f t.coming) (fresh list) (map fresh lists),
      sum_by-append f list (one_list lists),
    )

module _ (image : Image) (plan : PlanValue) where
  -- a member takes the queue's front and finishes it
  takes_one : (one : Scanned) (queue rest : List ℕ) (members : List MemberValue) (arrived : List Scanned) (v : ℕ) (t : Turn) (lists : List (List ℕ)) →
      IsScanned image plan one → slice_get members v ≡ Some (member_of t) →
      AreTakenFrom image plan (pool queue (set members v (member_of (after t one rest))) arrived) lists →
      AreTakenFrom image plan (pool (one.extent ∷ queue) members arrived) lists
  takes_one one queue rest members arrived v t lists scanned at later =
      let busy = taking (member_of t) one.extent in
      let n = member_of (after t one rest) in
      let there = get_written members v (member_of t) busy at in
      let may_take =
      ap (λ (o : Option MemberValue). option_map_or (member_refusal (one.extent ∷ queue) (Take v)) o (Some NoWorker)) at
      ∙ ap (λ (b : Bool). if b then Some QueueEmpty else None) (not_empty one.extent queue) in
      let may_end =
      ap (λ (o : Option MemberValue). option_map_or (member_refusal queue (Done v)) o (Some NoWorker)) there in
      let takes : Follows image plan (pool (one.extent ∷ queue) members arrived) (Take v) (pool queue (set members v busy) arrived) =
      inl (
        may_take,
        record {
          member = member_of t;
          extent = one.extent;
          rest = queue;
          at = at;
          front = refl;
          is = refl;
        },
      ) in
      let ends : Follows image plan (pool queue (set members v busy) arrived) (Done v) (pool queue (set members v n) arrived) =
      inl (
        may_end,
        record {
          member = busy;
          one = one;
          at = there;
          held = refl;
          scanned = scanned;
          is = ap (λ (ms : List MemberValue). pool queue ms arrived) (sym (set-set members v busy n));
        },
      ) in
      record {
        events = Take v ∷ Done v ∷ later.events;
        last = later.last;
        leads =
            (pool queue (set members v busy) arrived, takes, (pool queue (set members v n) arrived, ends, later.leads));
        complete = later.complete;
        taken = later.taken;
      }

  -- members that hold nothing retire one after another, and the pool is complete
  all_retire : (gone : List MemberValue) (turns : List Turn) (arrived : List Scanned) → AllPass has_left gone →
      AreTakenFrom image plan (pool [] (gone ++ members_of turns) arrived) (map (λ m. m.taken) (gone ++ members_of turns))
  all_retire gone [] arrived are = record {
    events = [];
    last = pool [] (gone ++ []) arrived;
    leads = refl;
    complete =
        list_all-from_AllPass has_left (gone ++ [])
        (All-append (λ m. has_left m ≡ true) gone [] are (All-nil (λ m. has_left m ≡ true)));
    taken = refl;
  }
  all_retire gone (t ∷ turns) arrived are =
      let m = member_of t in
      let rest = members_of turns in
      let there = get_behind gone rest m in
      let joined = append_assoc gone (through m ∷ []) rest in
      let next = pool [] ((gone ++ through m ∷ []) ++ rest) (arrived ++ t.results) in
      let later =
      all_retire (gone ++ through m ∷ []) turns (arrived ++ t.results)
      (All-push (λ x. has_left x ≡ true) gone (through m) are refl) in
      let retires : Follows image plan (pool [] (gone ++ m ∷ rest) arrived) (Retire (length gone)) next = inl (
        ap (λ (o : Option MemberValue). option_map_or (member_refusal [] (Retire (length gone))) o (Some NoWorker))
            there,
        record { member = m; at = there; is = ap (λ (ms : List MemberValue). pool [] ms (arrived ++ t.results)) (joined ∙ sym (set_at gone m rest (through m) (length gone) refl)) },
      ) in record {
        events = Retire (length gone) ∷ later.events;
        last = later.last;
        leads = (next, retires, later.leads);
        complete = later.complete;
        taken =
            later.taken ∙ ap (λ (ms : List MemberValue). map (λ x. x.taken) ms) joined
            ∙ map-append (λ x. x.taken) gone (through m ∷ rest) ∙ sym (map-append (λ x. x.taken) gone (m ∷ rest));
      }

  -- the members take all that they will take
  all_taken : (found : List Scanned) (turns : List Turn) (arrived : List Scanned) → All (IsScanned image plan) found →
      AreTurns (extent_numbers found) turns →
      AreTakenFrom image plan (pool (extent_numbers found) (members_of turns) arrived) (map due turns)
  all_taken [] turns arrived scanned are =
      rw (all_took turns (are.whole (λ x. 1))) at
      (all_retire [] turns arrived (All-nil (λ m. has_left m ≡ true)))
  all_taken (one ∷ found) turns arrived scanned are =
      let queue = extent_numbers found in
      let next = next_of_one one.extent queue turns are in
      let v = next.0 in
      let t = get_or turns v (fresh []) in
      let n = after t one next.2 in
      let later =
      all_taken found (set turns v n) arrived (All-tail (IsScanned image plan) one found scanned)
      (turns_go_on one.extent queue turns are v n next.1 next.3) in
      let at : slice_get (members_of turns) v ≡ Some (member_of t) =
      slice_get-map member_of turns v ∙ ap (option_map member_of) (slice_get-get_or turns v (fresh []) next.1) in
      let same_due : due n ≡ due t =
      append_assoc t.taken (one.extent ∷ []) next.2 ∙ ap (λ (xs : List ℕ). t.taken ++ xs) (sym next.3) in
      let members = map-set member_of turns v n in
      let lists = map-set_same due turns v n (fresh []) same_due in
      takes_one one queue next.2 (members_of turns) arrived v t (map due turns)
      (All-head (IsScanned image plan) one found scanned) at
      (subst
      (λ (x : List MemberValue × List (List ℕ)). AreTakenFrom image plan (pool queue x.0 arrived) x.1)
      (λ i. (members i, lists i)) later)

  -- lists that are a partition of the planned extents are so taken
  pub scheduled : (all : List Scanned) (lists : List (List ℕ)) → IsStrictlyIncreasing plan.planned →
      AreAllFindings image plan all → IsPartition plan.planned lists → AreTakenInSomeSchedule image plan lists
  scheduled all lists rising are partition =
      let turns = map fresh lists in
      let scanned : All (IsScanned image plan) all = λ k d below. record {
        pointer_is = are.pointers k d below;
        found = are.findings k d below;
      } in
      subst
      (λ (x : List ℕ × List MemberValue × List (List ℕ)). AreTakenFrom image plan (pool x.0 x.1 []) x.2)
      (λ i. (are.extents i, all_idle lists i, all_due lists i)) (all_taken all turns [] scanned (record {
        queue_rises = subst Rise (sym are.extents) (AllPairs-from_increasing plan.planned rising);
        each_rises =
            All-map (λ t. Rise t.coming) fresh lists
            (λ k d below. AllPairs-from_increasing (get_or lists k d) (partition.rising k d below));
        whole = λ f.
            all_together f lists ∙ sym (sum_by-IsPermutation f (one_list lists) plan.planned partition.whole)
            ∙ ap (sum_by f) (sym are.extents);
      }))
