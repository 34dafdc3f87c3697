-- A book, which collects the results of planned extents.
use Rattle.std.specs.Prelude.{◌≡◌, ◌<◌, ◌∷◌, ℕ, List, [], All, Contains}
use Rattle.std.specs.List.Sorted.{IsPermutation}
use Rattle.scrub_disk.specs.Image.{Image}
use Rattle.scrub_super.specs.Plan.{PlanValue}
use Rattle.scrub_scan.specs.declared.extent_result.ExtentResult.{ExtentResult}
use Rattle.scrub_scan.specs.Scanned.{Scanned}
use Rattle.scrub_scan.specs.AllFindings.{extent_numbers, AreAllFindings}
use Rattle.scrub_book.specs.declared.book.AddRefused.{AddRefused}
use Rattle.scrub_book.specs.declared.book.AddRefused.TheVariants.{Stranger, Double}

-- a book: the disk whose results it collects, the plan, and the results so far, by ascending numbers of extents
pub record BookValue (D : Type 0) : Type 0 where
  pub source : D
  pub plan : PlanValue
  pub came : List Scanned

-- a book without results yet
pub record IsNewBook {D : Type 0} (source : D) (plan : PlanValue) (book : BookValue D) : Type 0 where
  pub source_is : book.source ≡ source
  pub plan_is : book.plan ≡ plan
  pub nothing : book.came ≡ []

-- the same book with one more result, of a planned extent that had none
pub record IsResultAdded {D : Type 0} (old : BookValue D) (one : Scanned) (new : BookValue D) : Type 0 where
  pub planned : Contains old.plan.planned one.extent
  pub first : ¬ Contains (extent_numbers old.came) one.extent
  pub source : new.source ≡ old.source
  pub plan : new.plan ≡ old.plan
  pub came : IsPermutation (one ∷ old.came) new.came

-- why a result is refused and comes back: its extent isn't planned, or the book has a result of it
abbrev pub IsAddRefused : {D : Type 0} {s : _} → BookValue D → ExtentResult D s → AddRefused D s → Type 0
IsAddRefused book r (Stranger back) = (back ≡ r) × ¬ Contains book.plan.planned r.extent
IsAddRefused book r (Double back) = (back ≡ r) × Contains book.plan.planned r.extent × Contains (extent_numbers book.came) r.extent

-- the least planned extent without a result
pub record IsLeastMissing {D : Type 0} (book : BookValue D) (e : ℕ) : Type 0 where
  pub planned : Contains book.plan.planned e
  pub missing : ¬ Contains (extent_numbers book.came) e
  pub least : (f : ℕ) → Contains book.plan.planned f → f < e → Contains (extent_numbers book.came) f

-- each planned extent has its result
abbrev pub HasAll : {D : Type 0} → BookValue D → Type 0
HasAll book = All (Contains (extent_numbers book.came)) book.plan.planned

-- each planned extent has its result, and together they are what one reader finds
abbrev pub IsFinished : {D : Type 0} → Image → BookValue D → List Scanned → Type 0
IsFinished image book all = HasAll book × (all ≡ book.came) × AreAllFindings image book.plan all
