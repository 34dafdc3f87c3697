-- What reclaiming the candidates leaves to the named locators: each chunk that one of them points to.
use Rattle.std.specs.Prelude.{◌≡◌, Bool, List, All, Contains}
use Rattle.scrub_disk.specs.Image.{Image}
use Rattle.scrub_super.specs.Plan.{PlanValue}
use Rattle.scrub_scan.specs.Scanned.{Scanned}
use Rattle.scrub_check.specs.declared.statuses.checked.Checked.{Checked}
use Rattle.scrub_check.specs.declared.statuses.status.Status.TheVariants.{Sound}
use Rattle.scrub_check.specs.Checked.{HaveStatuses}
use Rattle.scrub_check.specs.WholeScan.{IsWholeScan}
use Rattle.scrub_check.specs.Candidates.{AreCandidates, CandidateValue, starts_of}

-- the locator is sound, and its offset is among the starts of the chunks that the candidate keeps
pub record IsKept (a : CandidateValue) (c : Checked) : Type 0 where
  pub sound : c.status ≡ Sound
  pub kept : Contains (starts_of a.chunks) c.locator.offset

-- each checked locator into the extent of a candidate is kept
abbrev pub AreSafe : List Checked → List CandidateValue → Type 0
AreSafe checked candidates = All (λ a. All (λ c. c.locator.extent ≡ a.extent → IsKept a c) checked) candidates

-- if the checked locators have their statuses by a whole scan, the candidates are safe, in doubt or not
abbrev pub CandidatesAreSafe : Image → PlanValue → List Scanned → List Checked → Type 0
CandidatesAreSafe image plan all checked = (in_doubt : Bool) (candidates : List CandidateValue) →
    IsWholeScan image plan all → HaveStatuses image plan checked → AreCandidates plan all checked in_doubt candidates → AreSafe checked candidates
