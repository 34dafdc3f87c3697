-- Workers while they take and scan, and once they have ended.
use Rattle.std.specs.Prelude.{◌≡◌, ◌++◌, ◌-◌, ℕ, List, [], false, None, Some, All, Vec, length, map, sum_by}
use Rattle.scrub_disk.specs.Image.{Image}
use Rattle.scrub_super.specs.Plan.{PlanValue, pointer_of}
use Rattle.scrub_scan.specs.declared.extent_result.ExtentResult.{ExtentResult}
use Rattle.scrub_scan.specs.Scanned.{result_image}
use Rattle.scrub_book.specs.declared.worker_core.WorkerCore.{WorkerCore}
use Rattle.scrub_book.specs.Worker.{held_by, taken_by, results_of}
use Rattle.scrub_pool.specs.Passes.{PassValue, TableId}
use Rattle.scrub_pool.specs.declared.crew.Member.{Member}
use Rattle.scrub_pool.specs.declared.crew.NewMember.{NewMember}

-- a pass of this queue, over these planned extents
abbrev pub IsPassFor : TableId → List ℕ → PassValue → Type 0
IsPassFor queue planned p = (p.queue ≡ queue) × (p.planned ≡ planned)

-- the pass is unchanged, except that it may have taken more
abbrev pub IsSamePart : PassValue → PassValue → Type 0
IsSamePart old new = (new.first ≡ old.first) × (new.joined ≡ old.joined) × (new.out ≡ old.out)

module _ {D : Type 0} {s : _} where
  -- results of this image, under the plan's write pointers
  abbrev pub AreResults : Image → PlanValue → List (ExtentResult D s) → Type 0
  AreResults image plan results = All (λ r. result_image r ≡ image) results × All (λ r. pointer_of plan r.extent ≡ Some r.pointer) results

  -- the pass took what the worker took, unless that holds an extent, and the worker's results are of this image
  abbrev pub IsAtWork : TableId → PlanValue → Image → PassValue → WorkerCore D s → Type 0
  IsAtWork queue plan image pass core = IsPassFor queue plan.planned pass × (held_by core ≡ None → pass.own ≡ taken_by core) × AreResults image plan (results_of core)

-- a worker that has not begun, with a pass that took nothing
abbrev pub IsNewMember : TableId → List ℕ → NewMember → Type 0
IsNewMember queue planned m = IsPassFor queue planned m.pass × (m.pass.first ≡ false) × (m.pass.own ≡ [])

-- workers that have not begun
abbrev pub AreNewMembers : TableId → List ℕ → List NewMember → Type 0
AreNewMembers queue planned crew = All (λ m. IsNewMember queue planned m) crew

-- the first pass after so many others were joined into it, with these lists
abbrev pub after_joins : PassValue → List (List ℕ) → ℕ → PassValue
after_joins p lists count = record p { joined = p.joined ++ lists; out = p.out - count }

-- lists of the code, as contracts see them
abbrev pub lists_in : {Z : Type 0} → List (Vec ℕ Z) → List (List ℕ)
lists_in lists = map (λ l. l.items) lists

module _ {D : Type 0} {s : _} where
  -- a worker that has ended, with what it took and found
  abbrev pub HasEnded : TableId → PlanValue → Image → Member D s → Type 0
  HasEnded queue plan image m = (m.pass.first ≡ false) × IsAtWork queue plan image m.pass m.core

  -- each worker has results of this image, under the plan's write pointers
  abbrev pub HaveResults : Image → PlanValue → List (Member D s) → Type 0
  HaveResults image plan members = All (λ m. AreResults image plan (results_of m.core)) members

  -- these results are of each image and plan that the results of all workers are of
  abbrev pub AreFoundBy : List (Member D s) → List (ExtentResult D s) → Type 0
  AreFoundBy members results = (image : Image) (plan : PlanValue) → HaveResults image plan members → AreResults image plan results

  -- a worker that has ended, and holds no extent
  abbrev pub IsThrough : TableId → Member D s → Type 0
  IsThrough queue m = (m.pass.queue ≡ queue) × (m.pass.first ≡ false) × (m.pass.own ≡ taken_by m.core) × (held_by m.core ≡ None)

  -- workers that didn't run out of memory: each has a part of the ledger, each result was counted, and none holds an extent
  abbrev pub AreDone : ℕ → ℕ → List (Member D s) → Type 0
  AreDone parts amount members = (parts ≡ length members) × (amount ≡ sum_by (λ m. length (results_of m.core)) members) × All (λ m. held_by m.core ≡ None) members
