-- A member of the pool, as the machine sees it.
use Rattle.std.specs.Prelude.{◌≡◌, ◌≤◌, ℕ, List, [], None, true, false, All, length, map}
use Rattle.scrub_disk.specs.Image.{Image}
use Rattle.scrub_scan.specs.declared.extent_result.ExtentResult.{ExtentResult}
use Rattle.scrub_scan.specs.Scanned.{scanned, result_image}
use Rattle.scrub_book.specs.declared.member.Member.{Member}
use Rattle.scrub_book.specs.declared.member.Member.TheVariants.{Working, Through}
use Rattle.scrub_book.specs.Worker.{held_by, taken_by, results_of, spare_of}
use Rattle.scrub_book.specs.Extents.{extents_in}
use Rattle.scrub_book.specs.Book.{BookValue}
use Rattle.scrub_book.specs.Pool.{MemberValue, PoolState, PoolValue, IsPool}

module _ {D : Type 0} {s : _} where
  -- the results that a member has
  abbrev pub results_in : Member D s → List (ExtentResult D s)
  results_in (Working core) = results_of core
  results_in (Through taken) = []

  -- a member of the code, as a member of the machine
  abbrev pub member_value : Member D s → MemberValue
  member_value (Working core) = record { held = held_by core; taken = taken_by core; results = map (λ (r : ExtentResult D s). scanned r) (results_of core); has_retired = false }
  member_value (Through taken) = record { held = None; taken = taken.items; results = []; has_retired = true }

  -- a worker has room for the extent that it holds or takes next
  abbrev pub HasRoom : Member D s → Type 0
  HasRoom (Working core) = 1 ≤ spare_of core
  HasRoom (Through taken) = Unit {0}

module _ {D : Type 0} {s : _} where
  -- the state of the machine, from what the code keeps
  abbrev pub state_of : List ℕ → List (Member D s) → List (ExtentResult D s) → PoolState
  state_of queue members arrived = record { queue = queue; members = map (λ (m : Member D s). member_value m) members; arrivals = map (λ (r : ExtentResult D s). scanned r) arrived }

  -- a member with room, whose results are of this image
  pub record IsReady (image : Image) (m : Member D s) : Type 0 where
    pub room : HasRoom m
    pub images : All (λ (r : ExtentResult D s). result_image r ≡ image) (results_in m)

  -- what the code keeps: a book without results, the machine's facts, the numbers of what arrived, and room for each
  -- planned extent
  pub record HoldsPool (image : Image) (book : BookValue D) (queue : List ℕ) (members : List (Member D s)) (arrived : List (ExtentResult D s)) (numbers : List ℕ) (room : ℕ) : Type 0 where
    pub nothing : book.came ≡ []
    pub geometry : book.plan.geometry ≡ image.geometry
    pub pool : IsPool image book.plan (state_of queue members arrived)
    pub ready : All (IsReady image) members
    pub images : All (λ (r : ExtentResult D s). result_image r ≡ image) arrived
    pub numbers_are : numbers ≡ extents_in arrived
    pub enough : length book.plan.planned ≤ room

  -- what the code keeps, with room for the numbers too
  abbrev pub HasPool : Image → BookValue D → List ℕ → List (Member D s) → List (ExtentResult D s) → List ℕ → ℕ → ℕ → Type 0
  HasPool image book queue members arrived numbers room capacity = HoldsPool image book queue members arrived numbers room × (length book.plan.planned ≤ capacity)

  -- the pool of the machine, from what the code keeps
  abbrev pub pool_value : BookValue D → List ℕ → List (Member D s) → List (ExtentResult D s) → PoolValue D
  pool_value book queue members arrived = record { source = book.source; plan = book.plan; state = state_of queue members arrived }
