-- The contents of a plan, and how it follows from the superblock that counts, or from there being none.
use Rattle.std.specs.Prelude.{◌≡◌, ◌-◌, ◌*◌, ◌==◌, ℕ, List, [], All, Bool, true, Option, None, if◌then◌else◌, filter, is_some, not, replicate, slice_get}
use Rattle.std.specs.List.{list_any, range_with_len}
use Rattle.std.specs.Option.{option_map_or}
use Rattle.scrub_disk.specs.declared.geometry.Geometry.{Geometry}
use Rattle.scrub_frame.specs.declared.locator.Locator.{Locator}
use Rattle.scrub_super.specs.Planned.{ArePlanned, AreRetired, is_in_use}
use Rattle.scrub_super.specs.steps.Limits.{ArePointers, AreRunLocators}
use Rattle.scrub_super.specs.Contents.{retired_in}
use Rattle.scrub_super.specs.Chosen.{Choice}

-- the disk's sizes, the extents to scan, those that are retired, the write pointers of extents 1, 2 and so on, the
-- locators of the index runs, newest first, and whether these come from a superblock
pub record PlanValue : Type 0 where
  pub geometry : Geometry
  pub planned : List ℕ
  pub retired : List ℕ
  pub pointers : List ℕ
  pub runs : List Locator
  pub has_superblock : Bool

-- what holds of each plan: planned and retired extents are ascending and none is both, and pointers and runs are within their
-- limits
pub record IsPlan (plan : PlanValue) : Type 0 where
  pub extents : ArePlanned plan.geometry.extents plan.planned
  pub retired : AreRetired plan.geometry.extents plan.retired
  pub in_use : All (λ e. is_in_use plan.retired e ≡ true) plan.planned
  pub within : ArePointers plan.geometry plan.pointers
  pub located : AreRunLocators plan.runs

-- the write pointer of an extent, or None for extent 0 and for a number that isn't an extent of the disk
abbrev pub pointer_of : PlanValue → ℕ → Option ℕ
pointer_of plan e = if e == 0 then None else slice_get plan.pointers (e - 1)

-- the plan that follows from the choice, with all extents except extent 0 and the retired ones: retired extents, pointers
-- and runs are those of the superblock's record; without a superblock each extent counts as full, none as retired, and there
-- are no runs
abbrev pub plan_of : Choice → PlanValue
plan_of choice = record {
  geometry = choice.geometry;
  planned =
      filter (λ e. not (list_any (λ r. r == e) (option_map_or retired_in choice.superblock [])))
      (range_with_len 1 (choice.geometry.extents - 1));
  retired = option_map_or retired_in choice.superblock [];
  pointers =
      option_map_or (λ c. c.pointers) choice.superblock
      (replicate (choice.geometry.extents - 1) (choice.geometry.page * choice.geometry.pages));
  runs = option_map_or (λ c. c.runs) choice.superblock [];
  has_superblock = is_some choice.superblock;
}

-- the same plan, but with these planned extents
pub record IsRestricted (old : PlanValue) (extents : List ℕ) (new : PlanValue) : Type 0 where
  pub planned : new.planned ≡ extents
  pub geometry : new.geometry ≡ old.geometry
  pub retired : new.retired ≡ old.retired
  pub pointers : new.pointers ≡ old.pointers
  pub runs : new.runs ≡ old.runs
  pub has : new.has_superblock ≡ old.has_superblock
