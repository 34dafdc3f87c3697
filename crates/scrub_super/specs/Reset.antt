-- The same plan, but as if some extents had been reset.
use Rattle.std.specs.Prelude.{◌≡◌, ◌+◌, ◌==◌, ℕ, List, if◌then◌else◌, map}
use Rattle.std.specs.List.{enumerate_from, list_any}
use Rattle.scrub_super.specs.Plan.{PlanValue}

-- of a pointer with its index i, which is that of extent i + 1: the pointer, or 0 if that is one of these extents
abbrev pub pointer_reset : List ℕ → ℕ × ℕ → ℕ
pointer_reset extents p = if list_any (λ e. e == p.0 + 1) extents then 0 else p.1

-- the write pointers of extents 1, 2 and so on, but 0 for each of these extents
abbrev pub pointers_reset : List ℕ → List ℕ → List ℕ
pointers_reset extents pointers = map (pointer_reset extents) (enumerate_from 0 pointers)

-- the same plan, but as if each of these extents had the write pointer 0
pub record IsReset (old : PlanValue) (extents : List ℕ) (new : PlanValue) : Type 0 where
  pub planned : new.planned ≡ old.planned
  pub geometry : new.geometry ≡ old.geometry
  pub retired : new.retired ≡ old.retired
  pub pointers : new.pointers ≡ pointers_reset extents old.pointers
  pub runs : new.runs ≡ old.runs
  pub has : new.has_superblock ≡ old.has_superblock
