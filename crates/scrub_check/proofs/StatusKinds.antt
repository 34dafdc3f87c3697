-- The three kinds of a status.
use Rattle.std.proofs.Common.{◌≡◌, ◌⊎◌, ◌&&◌, Bool, true, false, not, refl, inl, inr}
use Rattle.std.proofs.lemmas.Bool.{false≢true}
use Rattle.scrub_check.specs.declared.statuses.status.Status.{Status}
use Rattle.scrub_check.specs.declared.statuses.status.Status.TheVariants.{OutOfRange, Retired, PastPointer, Unreadable, NoFrame, WrongUuid, WrongLength, WrongDigest, Hidden, Sound}
use Rattle.scrub_check.specs.Checked.{is_dangling, is_hidden, is_sound}

-- A status says that a chunk is sound, that it is hidden, or that its locator dangles.
pub status_kinds : (s : Status) → (s ≡ Sound) ⊎ ((s ≡ Hidden) ⊎ (is_dangling s ≡ true))
status_kinds Sound = inl refl
status_kinds Hidden = inr (inl refl)
status_kinds OutOfRange = inr (inr refl)
status_kinds Retired = inr (inr refl)
status_kinds PastPointer = inr (inr refl)
status_kinds Unreadable = inr (inr refl)
status_kinds NoFrame = inr (inr refl)
status_kinds WrongUuid = inr (inr refl)
status_kinds WrongLength = inr (inr refl)
status_kinds WrongDigest = inr (inr refl)

-- The chunk of a dangling locator is neither sound nor hidden.
pub dangling_is_neither : (s : Status) → is_dangling s ≡ true → (is_sound s ≡ false) × (is_hidden s ≡ false)
dangling_is_neither s dangles = by (is_sound s) (is_hidden s) dangles
  where
    by : (a b : Bool) → (not a && not b) ≡ true → (a ≡ false) × (b ≡ false)
    by false false h = (refl, refl)
    by false true h = absurd (false≢true h)
    by true b h = absurd (false≢true h)
