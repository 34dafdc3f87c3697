-- What a manifest rests on: the superblock that counts, but for its generation, and the bytes of the extents in use.
use Rattle.std.specs.Prelude.{◌≡◌, ◌<◌, ℕ, List, Some, Contains}
use Rattle.scrub_disk.specs.Image.{Image, image_byte}
use Rattle.scrub_super.specs.Plan.{PlanValue, pointer_of}
use Rattle.scrub_reclaim.specs.Copy.{IsSameButRisen}
use Rattle.scrub_reclaim.specs.Reset.{IsPlanIn}

-- two images have the same sizes and this plan: a superblock counts in both, with the same write pointers, retired extents and
-- index runs, or in neither
pub record ArePlannedAlike (before after : Image) (plan : PlanValue) : Type 0 where
  pub sizes : after.geometry ≡ before.geometry
  pub was : IsPlanIn before plan
  pub is : IsPlanIn after plan

-- so planned, two images have the same bytes below the write pointers of the extents in use: one that can be read in either can
-- be read in both
pub record AreTheSameBelow (before after : Image) : Type 0 where
  pub plan : PlanValue
  pub planned : ArePlannedAlike before after plan
  pub bytes : (e w p : ℕ) → Contains plan.planned e → pointer_of plan e ≡ Some w → p < w → image_byte after e p ≡ image_byte before e p

-- so planned, two images have the same bytes in all extents in use
pub record AreTheSameInUse (before after : Image) : Type 0 where
  pub plan : PlanValue
  pub planned : ArePlannedAlike before after plan
  pub bytes : (e p : ℕ) → Contains plan.planned e → image_byte after e p ≡ image_byte before e p

-- two texts are one, but for the words for best copies at the ends of lines: both can rise to the same text
pub record IsSameButLastWords (a b : List ℕ) : Type 0 where
  pub risen : List ℕ
  pub one : IsSameButRisen a risen
  pub other : IsSameButRisen b risen
