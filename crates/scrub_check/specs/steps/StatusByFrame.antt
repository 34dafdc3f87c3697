-- How the frame at a locator's place, or the one that is claimed there, is compared with the locator.
use Rattle.std.specs.Prelude.{◌≡◌, ◌≢◌, ◌⊎◌, ℕ, List, Option, Some, None, MatchOption}
use Rattle.scrub_frame.specs.declared.form.Form.TheVariants.{Plain}
use Rattle.scrub_frame.specs.declared.frame.Head.{Head}
use Rattle.scrub_frame.specs.declared.locator.Locator.{Locator}
use Rattle.scrub_scan.specs.declared.standing.Standing.{Standing}
use Rattle.scrub_check.specs.declared.statuses.status.Status.{Status}
use Rattle.scrub_check.specs.declared.statuses.status.Status.TheVariants.{NoFrame, WrongUuid, WrongLength, WrongDigest}

-- a frame of this UUID and this length isn't the one that the locator names, for the first reason that applies
abbrev pub IsOther : Locator → List ℕ → ℕ → Status → Type 0
IsOther l u n WrongUuid = u ≢ l.uuid
IsOther l u n WrongLength = (u ≡ l.uuid) × (n ≢ l.length)
IsOther l u n _ = ⊥

-- the frame has the UUID and the length that the locator names, and another digest
pub record IsOtherPayload (l : Locator) (s : Standing) (status : Status) : Type 0 where
  pub is : status ≡ WrongDigest
  pub uuid : s.uuid ≡ l.uuid
  pub length : s.length ≡ l.length
  pub digest : s.digest ≢ l.digest

-- the frame isn't the one that the locator names, for the first reason that applies
abbrev pub IsMismatch : Locator → Standing → Status → Type 0
IsMismatch l s status = IsOther l s.uuid s.length status ⊎ IsOtherPayload l s status

-- the frame is the one that the locator names
pub record Agrees (l : Locator) (s : Standing) : Type 0 where
  pub uuid : s.uuid ≡ l.uuid
  pub length : s.length ≡ l.length
  pub digest : s.digest ≡ l.digest

-- the status of a locator by the frame at its place, or by none: `agreeing` if it is the one that the locator names
abbrev pub IsStatusByFrame : Locator → Option Standing → Status → Status → Type 0
IsStatusByFrame l None agreeing status = status ≡ NoFrame
IsStatusByFrame l (Some s) agreeing status = IsMismatch l s status ⊎ (Agrees l s × (status ≡ agreeing))

-- what a claim at the locator's place says without a hash: no frame if nothing is claimed, another frame if a plain one
-- of another UUID or length is, and else the payload has to be read
abbrev pub IsStatusByClaim : Locator → Option Head → Option Status → Type 0
IsStatusByClaim l None known = known ≡ Some NoFrame
IsStatusByClaim l (Some h) known = MatchOption known (h.form ≡ Plain → (h.uuid ≡ l.uuid) × (h.length ≡ l.length)) (λ status. (h.form ≡ Plain) × IsOther l h.uuid h.length status)
