-- The plan of a choice part by part, with a superblock and without one.
use Rattle.std.specs.Prelude.{◌≡◌, ◌-◌, ◌*◌, [], true, false, MatchOption, replicate}
use Rattle.scrub_disk.specs.declared.geometry.Geometry.{Geometry}
use Rattle.scrub_super.specs.Chosen.{Choice}
use Rattle.scrub_super.specs.Contents.{Contents, retired_in}
use Rattle.scrub_super.specs.Plan.{PlanValue}
use Rattle.scrub_super.specs.Planned.{extents_in_use}

-- a plan by a superblock: retired extents, pointers and runs are those of its record
pub record IsPlanBy (plan : PlanValue) (c : Contents) : Type 0 where
  pub has : plan.has_superblock ≡ true
  pub retired : plan.retired ≡ retired_in c
  pub pointers : plan.pointers ≡ c.pointers
  pub runs : plan.runs ≡ c.runs

-- a plan without a superblock: each extent counts as full, none as retired, and there are no runs
pub record IsPlanWithout (plan : PlanValue) (g : Geometry) : Type 0 where
  pub has : plan.has_superblock ≡ false
  pub retired : plan.retired ≡ []
  pub pointers : plan.pointers ≡ replicate (g.extents - 1) (g.page * g.pages)
  pub runs : plan.runs ≡ []

-- the parts of the plan that follows from a choice
pub record IsPlanInParts (choice : Choice) (plan : PlanValue) : Type 0 where
  pub geometry : plan.geometry ≡ choice.geometry
  pub all : plan.planned ≡ extents_in_use choice.geometry.extents plan.retired
  pub by : MatchOption choice.superblock (IsPlanWithout plan choice.geometry) (IsPlanBy plan)
