-- The plan of a disk on which one superblock counts that lists given index runs, retires nothing, and has each write pointer at
-- its extent's end.
use Rattle.std.specs.Prelude.{◌≡◌, ◌-◌, ◌*◌, List, [], Option, Some, true, replicate}
use Rattle.scrub_disk.specs.declared.geometry.Geometry.{Geometry}
use Rattle.scrub_frame.specs.declared.locator.Locator.{Locator}
use Rattle.scrub_super.specs.Chosen.{Choice}
use Rattle.scrub_super.specs.Contents.{Contents, retired_in}
use Rattle.scrub_super.specs.Plan.{PlanValue}
use Rattle.scrub_super.specs.Planned.{extents_in_use}

-- a superblock counts that lists these runs, in this order, retires nothing, and has each write pointer at its extent's end
pub record ListsRuns (choice : Choice) (runs : List Locator) : Type 0 where
  pub superblock : Contents
  pub counts : choice.superblock ≡ Some superblock
  pub runs_are : superblock.runs ≡ runs
  pub none_retired : retired_in superblock ≡ []
  pub at_the_end : superblock.pointers ≡ replicate (choice.geometry.extents - 1) (choice.geometry.page * choice.geometry.pages)

-- the plan that such a superblock gives, of a disk of these sizes
abbrev pub plan_listing : Geometry → List Locator → PlanValue
plan_listing g runs = record {
  geometry = g;
  planned = extents_in_use g.extents [];
  retired = [];
  pointers = replicate (g.extents - 1) (g.page * g.pages);
  runs = runs;
  has_superblock = true;
}
