-- What is found on a disk, and what a scan takes, as if a superblock counted that lists given index runs.
use Rattle.std.specs.Prelude.{◌≡◌, ◌+◌, [], ℕ, List, Option, None, Some, length, option_map}
use Rattle.std.specs.Borrow.{Bor}
use Rattle.scrub_disk.specs.Image.{Image}
use Rattle.scrub_frame.specs.declared.locator.Locator.{Locator}
use Rattle.scrub_super.specs.Chosen.{Choice}
use Rattle.scrub_super.specs.GivenRuns.{plan_listing}
use Rattle.scrub_super.specs.Plan.{PlanValue}
use Rattle.scrub_super.specs.Planned.{extents_in_use}
use Rattle.scrub_pool.specs.Takings.{IsPartition, TakingsValue}
use Rattle.scrub_found.specs.Resets.{IsPlanBut}
use Rattle.scrub_found.specs.Scrubbed.{IsScrubbedBy, Scrubbed}
use Rattle.scrub_found.specs.Takings.{AreTakingsBy}

-- the index runs that are given, if any are
abbrev pub given_in : Option (Bor (List Locator)) → Option (List Locator)
given_in given = option_map (λ runs. runs.now) given

-- the plan follows from the choice, as if these extents had been reset; or, where index runs are given, it is that of a disk on which
-- one superblock counts that lists these runs, retires nothing, and has each write pointer at its extent's end
abbrev pub FollowsFrom : Option (List Locator) → List ℕ → Choice → PlanValue → Type 0
FollowsFrom None resets = IsPlanBut resets
FollowsFrom (Some runs) resets = λ choice plan. plan ≡ plan_listing choice.geometry runs

-- each part of what is found is as it is in the image, with the plan that follows so
abbrev pub IsScrubbedFrom : Option (List Locator) → List ℕ → Image → Scrubbed → Type 0
IsScrubbedFrom given resets image s = IsScrubbedBy (FollowsFrom given resets) image s

-- what a scan of all extents but extent 0 by this many workers beside the caller took: a list for each of them and one for the caller,
-- which may be empty; each extent is in one of them, once; and how many extents were counted, which is all
pub record AreTakingsOfAll (image : Image) (workers : ℕ) (takings : TakingsValue) : Type 0 where
  pub members : length takings.lists ≡ workers + 1
  pub partition : IsPartition (extents_in_use image.geometry.extents []) takings.lists
  pub counted : takings.counted ≡ length (extents_in_use image.geometry.extents [])

-- what a scan took: by index runs, if they are given, of all extents, since none is retired; or else by the choice
abbrev pub AreTakingsFrom : Option (List Locator) → Image → ℕ → TakingsValue → Type 0
AreTakingsFrom None = AreTakingsBy
AreTakingsFrom (Some runs) = AreTakingsOfAll
