-- Resetting extents: what an image keeps then, and what is the same in what is found on it before and after.
use Rattle.std.specs.Prelude.{◌≡◌, ◌≢◌, ◌<◌, ℕ, List, [], Some, All, Contains}
use Rattle.scrub_disk.specs.Image.{Image, image_byte}
use Rattle.scrub_super.specs.declared.pages.SuperblockPage.{SuperblockPage}
use Rattle.scrub_super.specs.Chosen.{Choice, IsChoice}
use Rattle.scrub_super.specs.Pages.{AreSuperblockPages}
use Rattle.scrub_super.specs.Plan.{PlanValue, plan_of, pointer_of}
use Rattle.scrub_check.specs.Candidates.{CandidateValue}
use Rattle.scrub_check.specs.ChunkForms.{form_at}
use Rattle.scrub_check.specs.declared.statuses.status.Status.TheVariants.{Sound}
use Rattle.scrub_loose.specs.Loose.{AreLoose, LooseValue}
use Rattle.scrub_found.specs.Scrubbed.{Scrubbed, IsScrubbed}
use Rattle.scrub_reclaim.specs.Doubts.{Acceptance}
use Rattle.scrub_reclaim.specs.Reclaimable.{AcceptsNoLoose, AcceptsNoSpare, moves, reclaimed}

-- ---- which extents may be reset

-- extent e is listed among those to reclaim of an image, with nothing to move out of it first
pub record IsListedWithoutMoves (image : Image) (accepted : Acceptance) (e : ℕ) : Type 0 where
  pub found : Scrubbed
  pub scrubbed : IsScrubbed image found
  pub pages : List SuperblockPage
  pub held : AreSuperblockPages image pages
  pub loose : LooseValue
  pub are_loose : AreLoose [] image found.plan loose
  pub candidate : CandidateValue
  pub listed : Contains (reclaimed accepted pages loose found) candidate
  pub extent_is : candidate.extent ≡ e
  pub unmoved : moves found.checked candidate ≡ []

-- ---- what a reset keeps

-- the plan that follows from the superblock that counts in an image
pub record IsPlanIn (image : Image) (plan : PlanValue) : Type 0 where
  pub choice : Choice
  pub chosen : IsChoice image choice
  pub follows : plan ≡ plan_of choice

-- the new plan comes from a superblock just if the old one does, it names the same runs and the same retired extents, and
-- all extents but these have the same write pointer
pub record IsPlanAfterReset (extents : List ℕ) (old new : PlanValue) : Type 0 where
  pub has : new.has_superblock ≡ old.has_superblock
  pub runs : new.runs ≡ old.runs
  pub retired : new.retired ≡ old.retired
  pub pointers : (x : ℕ) → ¬ Contains extents x → pointer_of new x ≡ pointer_of old x

-- these extents were reset: the sizes are the same, so are the bytes of all other extents of the disk but
-- extent 0, and the superblock that counts differs in nothing but its generation and the write pointers of
-- these extents, which may be any now
pub record IsAfterReset (extents : List ℕ) (before after : Image) : Type 0 where
  pub sizes : after.geometry ≡ before.geometry
  pub bytes : (x p : ℕ) → x ≢ 0 → x < before.geometry.extents → ¬ Contains extents x → image_byte after x p ≡ image_byte before x p
  pub old : PlanValue
  pub new : PlanValue
  pub was : IsPlanIn before old
  pub is : IsPlanIn after new
  pub plans : IsPlanAfterReset extents old new

-- these extents were reset, and each has the write pointer 0 now
pub record IsForeseen (extents : List ℕ) (before after : Image) : Type 0 where
  pub reset : IsAfterReset extents before after
  pub are : All (λ e. pointer_of reset.new e ≡ Some 0) extents

-- each of these extents is listed among those to reclaim of an image with nothing to move out of it first, and no copy was given
-- up: neither a spare nor a loose copy was accepted
pub record AreListedKeepingCopies (accepted : Acceptance) (extents : List ℕ) (image : Image) : Type 0 where
  pub found : Scrubbed
  pub scrubbed : IsScrubbed image found
  pub pages : List SuperblockPage
  pub held : AreSuperblockPages image pages
  pub loose : LooseValue
  pub are_loose : AreLoose [] image found.plan loose
  pub listed : All (IsListedWithoutMoves image accepted) extents
  pub spares : AcceptsNoSpare accepted pages loose found
  pub loose_copies : AcceptsNoLoose accepted pages loose found

-- these extents were reset, and each had been listed among those to reclaim with nothing to move out of it first
pub record IsReclaimed (accepted : Acceptance) (extents : List ℕ) (before after : Image) : Type 0 where
  pub listed : All (IsListedWithoutMoves before accepted) extents
  pub reset : IsAfterReset extents before after

-- ---- what is the same

-- the same is named in what is found before and after: whether there is a superblock, the retired extents, the index runs,
-- what was read of them, the bindings, each named locator with its status, the form of the chunk at the place of each sound
-- one, the shared places and the broken shards
pub record NameTheSame (before after : Scrubbed) : Type 0 where
  pub superblock : after.plan.has_superblock ≡ before.plan.has_superblock
  pub runs : after.plan.runs ≡ before.plan.runs
  pub retired : after.plan.retired ≡ before.plan.retired
  pub read : after.read ≡ before.read
  pub bindings : after.bindings ≡ before.bindings
  pub checked : after.checked ≡ before.checked
  pub forms : All (λ c. c.status ≡ Sound → form_at after.all c.locator ≡ form_at before.all c.locator) before.checked
  pub shared : after.shared ≡ before.shared
  pub broken : after.broken ≡ before.broken
