-- What is found on a disk as if some extents had been reset.
use Rattle.std.specs.Prelude.{◌≡◌, ℕ, List, [], ◌∷◌}
use Rattle.scrub_disk.specs.Image.{Image}
use Rattle.scrub_super.specs.Chosen.{Choice}
use Rattle.scrub_super.specs.Plan.{PlanValue, plan_of}
use Rattle.scrub_super.specs.Reset.{IsReset}
use Rattle.scrub_found.specs.Scrubbed.{IsScrubbedBy, Scrubbed}

-- the plan follows from the choice, as if these extents had been reset
abbrev pub IsPlanBut : List ℕ → Choice → PlanValue → Type 0
IsPlanBut [] choice plan = plan ≡ plan_of choice
IsPlanBut (e ∷ es) choice plan = (old : PlanValue) × (old ≡ plan_of choice) × IsReset old (e ∷ es) plan

-- each part of what is found is as it is in the image, as if these extents had been reset; without any, that is `IsScrubbed`
abbrev pub IsScrubbedBut : List ℕ → Image → Scrubbed → Type 0
IsScrubbedBut resets image s = IsScrubbedBy (IsPlanBut resets) image s
