-- The rule of the shared queue: what was pushed is some list followed by the queue's content; what all passes took is
-- together that list, each extent once.
use Rattle.std.specs.Prelude.{◌≡◌, ◌+◌, ◌<◌, ◌++◌, ◌∷◌, ℕ, List, [], All, Contains, length, sum_by}
use Rattle.std.specs.List.Sorted.{IsPermutation, IsStrictlyIncreasing}
use mathlib.Core.Option.{some}
use lib.ListN.{get_elem?}
use Rattle.scrub_pool.specs.declared.rule.View.{View}
use Rattle.scrub_pool.specs.Passes.{one_list}

-- what a pass accounts for: what it took, and what the passes took that were joined into it
abbrev pub all_of : View → List ℕ
all_of v = v.own ++ one_list v.joined

-- a pass with these parts
abbrev pub view_of : ℕ → ℕ → ℕ → List ℕ → List ℕ → List (List ℕ) → View
view_of firsts lives out pushed own joined = record { firsts = firsts; lives = lives; out = out; pushed = pushed; own = own; joined = joined }

-- a joined pass took nothing, only the first pass has passes out, and each but a joined one knows what was pushed
pub record IsView (pushed : List ℕ) (v : View) : Type 0 where
  pub none_out : v.firsts ≡ 0 → v.out ≡ 0
  pub nothing : v.firsts + v.lives ≡ 0 → (v.own ≡ []) × (v.joined ≡ [])
  pub knows : 0 < v.firsts + v.lives → v.pushed ≡ pushed

-- the rule of the queue: what was pushed ascends, and is some list followed by the queue's content; all passes together took
-- exactly that list, each extent as often
pub record Accounts (items : List ℕ) (views : List View) : Type 0 where
  pub pushed : List ℕ
  pub before : List ℕ
  pub pushed_is : pushed ≡ before ++ items
  pub rising : IsStrictlyIncreasing pushed
  pub taken : (f : ℕ → ℕ) → sum_by (λ v. sum_by f (all_of v)) views ≡ sum_by f before
  pub one_first : sum_by (λ v. v.firsts) views ≡ 1
  pub out_is : sum_by (λ v. v.out) views ≡ sum_by (λ v. v.lives) views
  pub each : (port : ℕ) (v : View) → get_elem? views port ≡ some v → IsView pushed v

-- a pop gave an extent: it was pushed, is above all that this pass accounts for, and joins what it took
pub record IsTaken (v : View) (x : ℕ) (w : View) : Type 0 where
  pub view : w ≡ view_of v.firsts v.lives v.out v.pushed (v.own ++ x ∷ []) v.joined
  pub pushed : Contains v.pushed x
  pub above : All (λ y. y < x) (all_of v)

-- a pop by the first pass with none out gave nothing: the pass accounts for all that was pushed
abbrev pub AreAllTaken : View → List ℕ → Type 0
AreAllTaken v items = v.firsts ≡ 1 → v.out ≡ 0 → length items ≡ 0 → IsPermutation (all_of v) v.pushed
