-- What a scan takes: the planned extents, parted among the workers and the caller.
use Rattle.std.specs.Prelude.{◌≡◌, ◌+◌, ℕ, List, length}
use Rattle.scrub_disk.specs.Image.{Image}
use Rattle.scrub_super.specs.Chosen.{Choice, IsChoice}
use Rattle.scrub_super.specs.Plan.{plan_of}
use Rattle.scrub_pool.specs.Takings.{IsPartition, TakingsValue}

-- the extents that a scrub scans, ascending: the planned extents of the plan that follows from the choice
pub record ArePlannedExtents (image : Image) (planned : List ℕ) : Type 0 where
  pub choice : Choice
  pub chosen : IsChoice image choice
  pub are : planned ≡ (plan_of choice).planned

-- what a scan of the image by this many workers beside the caller took: a list for each of them and one for the caller,
-- which may be empty; each planned extent is in one of them, once; and how many planned extents were counted, which is all
pub record AreTakingsBy (image : Image) (workers : ℕ) (takings : TakingsValue) : Type 0 where
  pub planned : List ℕ
  pub are_planned : ArePlannedExtents image planned
  pub members : length takings.lists ≡ workers + 1
  pub partition : IsPartition planned takings.lists
  pub counted : takings.counted ≡ length planned
