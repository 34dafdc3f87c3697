-- The pool of workers as a machine without threads: its state, what events do to it, which are refused, and when it is
-- complete.
use Rattle.std.specs.Prelude.{◌≡◌, ◌⊎◌, ◌+◌, ◌==◌, ◌&&◌, ◌++◌, ◌∷◌, ℕ, List, [], Bool, true, false, Option, Some, None, All, Contains, if◌then◌else◌, is_none, length, replicate, set, slice_get, sum_by, count_by}
use Rattle.std.specs.List.{list_all}
use Rattle.std.specs.Option.{is_some, option_map_or, option_to_list}
use Rattle.scrub_disk.specs.Image.{Image}
use Rattle.scrub_super.specs.Plan.{PlanValue, pointer_of}
use Rattle.scrub_scan.specs.Findings.{IsFindings}
use Rattle.scrub_scan.specs.Scanned.{Scanned}
use Rattle.scrub_scan.specs.AllFindings.{extent_numbers, AreAllFindings}
use Rattle.scrub_book.specs.declared.event.Event.{Event}
use Rattle.scrub_book.specs.declared.event.Event.TheVariants.{Take, Done, Retire}
use Rattle.scrub_book.specs.declared.event.StepRefused.{StepRefused}
use Rattle.scrub_book.specs.declared.event.StepRefused.TheVariants.{NoWorker, Retired, Busy, Idle, QueueEmpty, OutOfMemory}

-- a member: the extent that it holds, those that it took and what it found, each in order, and whether it retired
pub record MemberValue : Type 0 where
  pub held : Option ℕ
  pub taken : List ℕ
  pub results : List Scanned
  pub has_retired : Bool

-- the state of a pool: the extents that nobody took yet, the members by their numbers, and what arrived, in that order
pub record PoolState : Type 0 where
  pub queue : List ℕ
  pub members : List MemberValue
  pub arrivals : List Scanned

-- a pool: the disk that is scanned, the plan, and the state
pub record PoolValue (D : Type 0) : Type 0 where
  pub source : D
  pub plan : PlanValue
  pub state : PoolState

-- a member that did nothing yet
abbrev pub idle : MemberValue
idle = record { held = None; taken = []; results = []; has_retired = false }

-- the first state: this many members, and each planned extent in the queue
abbrev pub start : PlanValue → ℕ → PoolState
start plan workers = record { queue = plan.planned; members = replicate workers idle; arrivals = [] }

-- the member that an event names
abbrev pub worker_of : Event → ℕ
worker_of (Take v) = v
worker_of (Done v) = v
worker_of (Retire v) = v

-- why an event of a member is refused, if it is
abbrev pub member_refusal : List ℕ → Event → MemberValue → Option StepRefused
member_refusal queue (Take v) m =
    if m.has_retired then Some Retired else if is_some m.held then Some Busy else if length queue == 0 then Some QueueEmpty else None
member_refusal queue (Done v) m =
    if m.has_retired then Some Retired else if is_none m.held then Some Idle else None
member_refusal queue (Retire v) m =
    if m.has_retired then Some Retired else if is_some m.held then Some Busy else None

-- why an event is refused, if it is
abbrev pub refusal : PoolState → Event → Option StepRefused
refusal p event = option_map_or (member_refusal p.queue event) (slice_get p.members (worker_of event)) (Some NoWorker)

-- what the image holds in a planned extent under the plan's write pointer
pub record IsScanned (image : Image) (plan : PlanValue) (one : Scanned) : Type 0 where
  pub pointer_is : pointer_of plan one.extent ≡ Some one.pointer
  pub found : IsFindings image one.extent one.pointer one.findings

-- a member after it took extent e, which it holds
abbrev pub taking : MemberValue → ℕ → MemberValue
taking m e = record m { held = Some e; taken = m.taken ++ e ∷ [] }

-- a member after it finished what it held, with one more result
abbrev pub having_found : MemberValue → Scanned → MemberValue
having_found m one = record m { held = None; results = m.results ++ one ∷ [] }

-- a member after it retired, which handed on its results
abbrev pub through : MemberValue → MemberValue
through m = record m { results = []; has_retired = true }

-- the queue's front goes to member v, which holds it
pub record IsTake (old : PoolState) (v : ℕ) (new : PoolState) : Type 0 where
  pub member : MemberValue
  pub extent : ℕ
  pub rest : List ℕ
  pub at : slice_get old.members v ≡ Some member
  pub front : old.queue ≡ extent ∷ rest
  pub is : new ≡ record {
    queue = rest;
    members = set old.members v (taking member extent);
    arrivals = old.arrivals;
  }

-- what the image holds in the extent that member v holds goes to its results, and it holds none
pub record IsDone (image : Image) (plan : PlanValue) (old : PoolState) (v : ℕ) (new : PoolState) : Type 0 where
  pub member : MemberValue
  pub one : Scanned
  pub at : slice_get old.members v ≡ Some member
  pub held : member.held ≡ Some one.extent
  pub scanned : IsScanned image plan one
  pub is : new ≡ record old { members = set old.members v (having_found member one) }

-- the results of member v arrive, and it has retired
pub record IsRetire (old : PoolState) (v : ℕ) (new : PoolState) : Type 0 where
  pub member : MemberValue
  pub at : slice_get old.members v ≡ Some member
  pub is : new ≡ record {
    queue = old.queue;
    members = set old.members v (through member);
    arrivals = old.arrivals ++ member.results;
  }

-- what an event does if it isn't refused
abbrev pub IsStep : Image → PlanValue → PoolState → Event → PoolState → Type 0
IsStep image plan old (Take v) new = IsTake old v new
IsStep image plan old (Done v) new = IsDone image plan old v new
IsStep image plan old (Retire v) new = IsRetire old v new

-- an event changes the state if it isn't refused, and else leaves it
abbrev pub Follows : Image → PlanValue → PoolState → Event → PoolState → Type 0
Follows image plan old event new = ((refusal old event ≡ None) × IsStep image plan old event new) ⊎ (new ≡ old)

-- a schedule, which is any list of events, leads from one state to another
abbrev pub Leads : Image → PlanValue → PoolState → List Event → PoolState → Type 0
Leads image plan old [] new = new ≡ old
Leads image plan old (event ∷ events) new = (next : PoolState) × Follows image plan old event next × Leads image plan next events new

-- no extent is left to take, no member holds one, and all have retired
abbrev pub is_complete : PoolState → Bool
is_complete p = length p.queue == 0 && list_all (λ m. is_none m.held && m.has_retired) p.members

-- for each planned extent, ascending, the arrival of that number
pub record IsAssembly (plan : PlanValue) (p : PoolState) (all : List Scanned) : Type 0 where
  pub extents : extent_numbers all ≡ plan.planned
  pub arrived : All (Contains p.arrivals) all

-- the extents that a member has: the one that it holds, and those of its results
abbrev pub having : MemberValue → List ℕ
having m = option_to_list m.held ++ extent_numbers m.results

-- what a number for each extent adds up to over the queue, the members and the arrivals
abbrev pub total : (ℕ → ℕ) → PoolState → ℕ
total f p = sum_by f p.queue + sum_by (λ m. sum_by f (having m)) p.members + sum_by f (extent_numbers p.arrivals)

-- queue, held extents, results and arrivals are together the planned extents, each as often: any number for each extent adds
-- up to the same over both
abbrev pub IsAccount : PlanValue → PoolState → Type 0
IsAccount plan p = (f : ℕ → ℕ) → total f p ≡ sum_by f plan.planned

-- each result of a member is what the image holds, and one that retired holds nothing and has no result
pub record IsMember (image : Image) (plan : PlanValue) (m : MemberValue) : Type 0 where
  pub results : All (IsScanned image plan) m.results
  pub left : m.has_retired ≡ true → (m.held ≡ None) × (m.results ≡ [])

-- what each pool keeps: the account, and that what was found is what the image holds
pub record IsPool (image : Image) (plan : PlanValue) (p : PoolState) : Type 0 where
  pub account : IsAccount plan p
  pub members : All (IsMember image plan) p.members
  pub arrivals : All (IsScanned image plan) p.arrivals

-- each planned extent arrived once, and no other did
pub record IsOnceEach (plan : PlanValue) (p : PoolState) : Type 0 where
  pub once : (e : ℕ) → Contains plan.planned e → count_by (λ x. x == e) (extent_numbers p.arrivals) ≡ 1
  pub no_other : All (Contains plan.planned) (extent_numbers p.arrivals)

-- after any schedule a complete pool has each planned extent once, and its assembly is what one reader finds
abbrev pub EveryScheduleFinds : Image → PlanValue → Type 0
EveryScheduleFinds image plan =
    (workers : ℕ) (events : List Event) (p : PoolState) → Leads image plan (start plan workers) events p → is_complete p ≡ true →
    IsOnceEach plan p × ((all : List Scanned) → IsAssembly plan p all → AreAllFindings image plan all)

-- a pool of a disk and a plan in which nothing happened yet
pub record IsNewPool {D : Type 0} (source : D) (plan : PlanValue) (workers : ℕ) (p : PoolValue D) : Type 0 where
  pub source_is : p.source ≡ source
  pub plan_is : p.plan ≡ plan
  pub state_is : p.state ≡ start plan workers

-- the same disk and plan, and the state after an event that isn't refused
pub record IsStepOf {D : Type 0} (image : Image) (old : PoolValue D) (event : Event) (new : PoolValue D) : Type 0 where
  pub source : new.source ≡ old.source
  pub plan : new.plan ≡ old.plan
  pub may : refusal old.state event ≡ None
  pub step : IsStep image old.plan old.state event new.state

-- the event is the one that can run out of memory: a member is done
abbrev pub is_done : Event → Bool
is_done (Take v) = false
is_done (Done v) = true
is_done (Retire v) = false

-- why a step is refused: by the state, or, if a member is done, because memory ran out
abbrev pub IsStepRefused : PoolState → Event → StepRefused → Type 0
IsStepRefused p event why = (refusal p event ≡ Some why) ⊎ ((refusal p event ≡ None) × (is_done event ≡ true) × (why ≡ OutOfMemory))
