-- Who took which extents.
use Rattle.std.specs.Prelude.{◌≡◌, ℕ, List, All, true, length, map}
use Rattle.std.specs.List.{flat_map}
use Rattle.std.specs.List.Sorted.{IsPermutation, IsStrictlyIncreasing}
use Rattle.scrub_disk.specs.Image.{Image}
use Rattle.scrub_super.specs.Plan.{PlanValue}
use Rattle.scrub_book.specs.declared.event.Event.{Event}
use Rattle.scrub_book.specs.Pool.{PoolState, start, Leads, is_complete}

-- the extents that each worker took, by the workers' numbers, the caller's last, and how many the ledger counted
pub record TakingsValue : Type 0 where
  pub lists : List (List ℕ)
  pub counted : ℕ

-- each list ascends, and together they are the planned extents, each once, so each extent is in one list alone
pub record IsPartition (planned : List ℕ) (lists : List (List ℕ)) : Type 0 where
  pub rising : All IsStrictlyIncreasing lists
  pub whole : IsPermutation (flat_map (λ xs. xs) lists) planned

-- some schedule leads from this state to a complete pool whose members took these lists, each the list of its number
pub record AreTakenFrom (image : Image) (plan : PlanValue) (old : PoolState) (lists : List (List ℕ)) : Type 0 where
  pub events : List Event
  pub last : PoolState
  pub leads : Leads image plan old events last
  pub complete : is_complete last ≡ true
  pub taken : map (λ m. m.taken) last.members ≡ lists

-- some schedule leads from the start to a complete pool whose members, one for each list, took these lists
abbrev pub AreTakenInSomeSchedule : Image → PlanValue → List (List ℕ) → Type 0
AreTakenInSomeSchedule image plan lists = AreTakenFrom image plan (start plan (length lists)) lists
