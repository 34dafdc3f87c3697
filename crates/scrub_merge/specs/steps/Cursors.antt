-- Cursors over index runs, one for each: what is ahead of them, what is under them, and how they move on.
use Rattle.std.specs.Prelude.{◌≡◌, ◌+◌, ◌<◌, ◌≤◌, ◌++◌, ℕ, zero, suc, Bool, false, cond, Option, Some, None, List, [], ◌∷◌, All, Contains, length, drop, filter, not, ◌==◌, slice_get}
use Rattle.std.specs.Option.{option_map}
use Rattle.std.specs.BinaryHeap.{IsHeap}
use Rattle.std.specs.Cmp.Lexicographic.{slice_cmp}
use Rattle.std.specs.List.{count_by}
use Rattle.std.specs.declared.cmp.Ordering.{Ordering}
use Rattle.std.specs.declared.cmp.Reverse.{Reverse}
use Rattle.std.specs.Ordering.{nat_cmp, is_eq, ordering_then}
use Rattle.scrub_run.specs.declared.shard_id.ShardId.{ShardId}
use Rattle.scrub_run.specs.Entry.{EntryValue, IsBelow}
use Rattle.scrub_run.specs.Run.{RisesById}
use Rattle.scrub_merge.specs.Binding.{BindingValue, Runs, IsNewestBinding}
use Rattle.scrub_merge.specs.ShardMap.{IsShardMap}

-- the order of identifiers, by their bytes
abbrev pub id_cmp : ShardId → ShardId → Ordering
id_cmp a b = slice_cmp nat_cmp a.0 b.0

-- a lost run comes before the run with this number, so it is newer
abbrev pub LostBefore : Runs → ℕ → Type 0
LostBefore runs number = (k : ℕ) × (k < number) × (slice_get runs k ≡ Some None)

-- the binding doesn't say that its shard was deleted
abbrev pub has_locator : BindingValue → Bool
has_locator b = not (length b.locators == 0)

-- the entry at a place of a run, or None in a lost run and after the last entry
abbrev pub entry_at : Option (List EntryValue) → ℕ → Option EntryValue
entry_at None place = None
entry_at (Some entries) place = slice_get entries place

-- whether there is an entry, with this identifier
abbrev pub has_id : ShardId → Option EntryValue → Bool
has_id id None = false
has_id id (Some e) = is_eq (id_cmp e.id id)

-- what each run has from the place of its cursor on
abbrev pub ahead : Runs → List ℕ → Runs
ahead [] places = []
ahead (run ∷ runs) [] = run ∷ ahead runs []
ahead (run ∷ runs) (place ∷ places) = option_map (drop place) run ∷ ahead runs places

-- where the cursor of a run is once it has passed an identifier: one place further exactly if its entry has that identifier
abbrev pub place_past : ShardId → Option (List EntryValue) → ℕ → ℕ
place_past id run place = cond (has_id id (entry_at run place)) (place + 1) place

-- where all cursors are once they have passed an identifier
abbrev pub places_past : ShardId → Runs → List ℕ → List ℕ
places_past id [] places = places
places_past id (run ∷ runs) [] = []
places_past id (run ∷ runs) (place ∷ places) = place_past id run place ∷ places_past id runs places

-- the first entry of the run with this number, if it has one
abbrev pub first_of : Runs → ℕ → Option EntryValue
first_of [] number = None
first_of (run ∷ runs) zero = entry_at run 0
first_of (run ∷ runs) (suc number) = first_of runs number

-- an identifier is first in some run, and no lesser one is first in any run
pub record IsLeast (runs : Runs) (id : ShardId) : Type 0 where
  pub number : ℕ
  pub entry : EntryValue
  pub stands : first_of runs number ≡ Some entry
  pub own : entry.id ≡ id
  pub least : (k : ℕ) (e : EntryValue) → first_of runs k ≡ Some e → IsBelow e.id id → ⊥

-- the run with this number is the newest in which the identifier is first
pub record IsFirstWith (runs : Runs) (id : ShardId) (number : ℕ) : Type 0 where
  pub entry : EntryValue
  pub stands : first_of runs number ≡ Some entry
  pub own : entry.id ≡ id
  pub newest : (k : ℕ) (e : EntryValue) → k < number → first_of runs k ≡ Some e → e.id ≡ id → ⊥

-- an entry under the cursor of a run: its identifier and the number of the run, in reverse order
abbrev pub Under : Type 0
Under = Reverse (ShardId × ℕ)

-- an entry of the run with this number, as it is in the heap
abbrev pub under_by : ℕ → EntryValue → Under
under_by number e = record { 0 = (e.id, number) }

-- the order of the heap: the least identifier is the greatest, and among equal ones the newest run
abbrev pub under_cmp : Under → Under → Ordering
under_cmp u v = ordering_then (id_cmp v.0.0 u.0.0) (nat_cmp v.0.1 u.0.1)

-- the identifier is first in the run with its number
abbrev pub StandsFirst : Runs → Under → Type 0
StandsFirst runs u = option_map (under_by u.0.1) (first_of runs u.0.1) ≡ Some u

-- how many of these are of the run with this number
abbrev pub of_run : ℕ → List Under → ℕ
of_run number items = count_by (λ u. u.0.1 == number) items

-- a heap of what is first in the runs of some numbers, once each
pub record IsHeapOver (Among : ℕ → Type 0) (runs : Runs) (items : List Under) : Type 0 where
  pub order : IsHeap under_cmp items
  pub each : All (λ u. Among u.0.1 × StandsFirst runs u) items
  pub all : (k : ℕ) (e : EntryValue) → Among k → first_of runs k ≡ Some e → Contains items (under_by k e)
  pub once : (k : ℕ) → of_run k items ≤ 1

-- a heap of what is first in each run
abbrev pub IsHeapOf : Runs → List Under → Type 0
IsHeapOf runs items = IsHeapOver (λ k. Unit {0}) runs items

-- a heap of what is first in each run but this one
abbrev pub IsHeapBut : ℕ → Runs → List Under → Type 0
IsHeapBut number runs items = IsHeapOver (λ k. ¬ (k ≡ number)) runs items

-- no run has an entry
abbrev pub AreEmpty : Runs → Type 0
AreEmpty runs = (k : ℕ) → first_of runs k ≡ None

-- the identifiers of each run are ascending
abbrev pub AreRising : Runs → Type 0
AreRising runs = (k : ℕ) (entries : List EntryValue) → slice_get runs k ≡ Some (Some entries) → RisesById entries

-- any shard map of what is left, appended to the bindings so far, gives the shard map of the runs
abbrev pub Continues : Runs → Runs → List BindingValue → Type 0
Continues runs rest so_far = (later : List BindingValue) → IsShardMap rest later → IsShardMap runs (so_far ++ later)

-- the newest binding of an identifier over what is left is appended, if it has a locator
pub record IsBound (rest : Runs) (id : ShardId) (old new : List BindingValue) : Type 0 where
  pub binding : BindingValue
  pub newest : IsNewestBinding rest binding
  pub own : binding.id ≡ id
  pub appended : new ≡ old ++ filter has_locator (binding ∷ [])
