-- What contracts see of the queue of extents and of a pass: which queue it is, and who took which extents.
use Rattle.std.specs.Prelude.{◌≡◌, ◌<◌, ◌++◌, ◌∷◌, ℕ, List, [], Bool, true, false, All, Contains}
use Rattle.std.specs.List.{flat_map}
use Rattle.std.specs.List.Sorted.{IsPermutation}
pub use Rattle.atomic_table.specs.Seated.{TableId}

-- a pass: its queue, the planned extents, whether it is the first, the extents that it took, the list of each pass that was
-- joined into it, and how many passes are out, which were split from it and not joined back
pub record PassValue : Type 0 where
  pub queue : TableId
  pub planned : List ℕ
  pub first : Bool
  pub own : List ℕ
  pub joined : List (List ℕ)
  pub out : ℕ

-- several lists, one after another
abbrev pub one_list : List (List ℕ) → List ℕ
one_list lists = flat_map (λ xs. xs) lists

-- all that a pass and those joined into it took
abbrev pub taken_in : PassValue → List ℕ
taken_in p = p.own ++ one_list p.joined

-- the first pass of a queue, which took nothing yet
abbrev pub new_pass : TableId → List ℕ → PassValue
new_pass queue planned = record { queue = queue; planned = planned; first = true; own = []; joined = []; out = 0 }

-- a pass that was split from the first one, and took nothing yet
abbrev pub split_pass : TableId → List ℕ → PassValue
split_pass queue planned = record { queue = queue; planned = planned; first = false; own = []; joined = []; out = 0 }

-- the first pass of a queue over these planned extents, whatever it took and however many passes are out
abbrev pub IsFirst : TableId → List ℕ → PassValue → Type 0
IsFirst queue planned p = (p.queue ≡ queue) × (p.planned ≡ planned) × (p.first ≡ true)

-- the first pass of a queue over these planned extents, with no other out
abbrev pub IsFirstAlone : TableId → List ℕ → PassValue → Type 0
IsFirstAlone queue planned p = (p.queue ≡ queue) × (p.planned ≡ planned) × (p.first ≡ true) × (p.out ≡ 0)

-- a pass took a planned extent, which is above all that it had
pub record IsTakenBy (old : PassValue) (e : ℕ) (new : PassValue) : Type 0 where
  pub planned : Contains old.planned e
  pub above : All (λ x. x < e) (taken_in old)
  pub is : new ≡ record old { own = old.own ++ e ∷ [] }

-- what a pass and those joined into it took is together the planned extents, each once
abbrev pub HasTakenAll : PassValue → Type 0
HasTakenAll p = IsPermutation (taken_in p) p.planned
