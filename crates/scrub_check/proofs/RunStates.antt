-- Which statuses say that the chunk that a locator names is there.
use Rattle.std.proofs.Common.{ap, Bool, false, inl, inr, length, List, MatchBool, MatchOption, refl, sym, true, ℕ, ◌∙◌, ◌≡◌, ◌⊎◌}
use Rattle.std.proofs.lemmas.Bool.{false≢true}
use Rattle.scrub_disk.specs.Image.{Image}
use Rattle.scrub_frame.specs.declared.locator.Locator.{Locator}
use Rattle.scrub_super.specs.Plan.{PlanValue, pointer_of}
use Rattle.sha2.specs.Sha256.{sha256}
use Rattle.scrub_scan.specs.Extent.{extent_of}
use Rattle.scrub_scan.specs.steps.OneFrame.{one_frame_at}
use Rattle.scrub_check.specs.declared.statuses.status.Status.{Status}
use Rattle.scrub_check.specs.declared.statuses.status.Status.TheVariants.{OutOfRange, Retired, PastPointer, Unreadable, NoFrame, WrongUuid, WrongLength, WrongDigest, Hidden, Sound}
use Rattle.scrub_check.specs.Checked.{is_dangling, is_sound}
use Rattle.scrub_check.specs.Status.{NamesChunk, HasStatus, HasStatusInRetired, HasStatusIn, is_retired}
use Rattle.scrub_check.proofs.StatusKinds.{dangling_is_neither, status_kinds}

-- the status for which the test holds
pub Sound_from_is_sound : (s : Status) → is_sound s ≡ true → s ≡ Sound
Sound_from_is_sound s sound = by (status_kinds s)
  where
    by : (s ≡ Sound) ⊎ ((s ≡ Hidden) ⊎ (is_dangling s ≡ true)) → s ≡ Sound
    by (inl is) = is
    by (inr (inl hidden)) = absurd (false≢true (sym (ap is_sound hidden) ∙ sound))
    by (inr (inr dangles)) = absurd (false≢true (sym (dangling_is_neither s dangles).0 ∙ sound))

-- a sound or hidden locator names a chunk
pub named : (image : Image) (w : ℕ) (l : Locator) (s : Status) → (s ≡ Sound) ⊎ (s ≡ Hidden) → HasStatus image w l s →
    NamesChunk image w l
named image w l s (inl e) h = (rw e at h).0
named image w l s (inr e) h = (rw e at h).0

-- any other names none
pub unnamed : (image : Image) (w : ℕ) (l : Locator) (s : Status) → ¬ (s ≡ Sound) → ¬ (s ≡ Hidden) → HasStatus image w l s →
    ¬ NamesChunk image w l
unnamed image w l OutOfRange a b h n = h n.found.can.in_range
unnamed image w l Retired a b h n = h
unnamed image w l PastPointer a b h n = h.1 n.found.can.below
unnamed image w l Unreadable a b h n = n.found.can.readable h.2
unnamed image w l NoFrame a b h n = h.1 n.found.form l.uuid n.payload n.found.frame
unnamed image w l WrongUuid a b (u, (c, f, other)) n =
    other (one_frame_at (extent_of image l.extent w) l.offset f.form u c n.found.form l.uuid n.payload f.frame n.found.frame).1
unnamed image w l WrongLength a b (c, f, other) n =
    other
    (ap (λ (xs : List ℕ). length xs) (one_frame_at (extent_of image l.extent w) l.offset f.form l.uuid c n.found.form l.uuid n.payload f.frame n.found.frame).2 ∙ n.length)
unnamed image w l WrongDigest a b (c, f, same, other) n =
    other
    (ap (λ (xs : List ℕ). sha256 xs) (one_frame_at (extent_of image l.extent w) l.offset f.form l.uuid c n.found.form l.uuid n.payload f.frame n.found.frame).2 ∙ n.digest)
unnamed image w l Hidden a b h n = b refl
unnamed image w l Sound a b h n = a refl

-- the status of a locator into an extent in use: under the plan's pointer of it, or out of range if it has none
abbrev pub HasStatusInUse : Image → PlanValue → Locator → Status → Type 0
HasStatusInUse image plan l status = MatchOption (pointer_of plan l.extent) (status ≡ OutOfRange) (λ w. HasStatus image w l status)

-- a sound or hidden locator by a plan is one into an extent in use
pub named_in_use : (image : Image) (plan : PlanValue) (l : Locator) (s : Status) → (s ≡ Sound) ⊎ (s ≡ Hidden) →
    HasStatusIn image plan l s → (is_retired plan l.extent ≡ false) × HasStatusInUse image plan l s
named_in_use image plan l s is h = by (is_retired plan l.extent) h
  where
    none : (s ≡ Sound) ⊎ (s ≡ Hidden) → ¬ HasStatusInRetired image l s
    none (inl e) r = rw e at r
    none (inr e) r = rw e at r

    by : (b : Bool) → MatchBool b (HasStatusInRetired image l s) (HasStatusInUse image plan l s) →
        (b ≡ false) × HasStatusInUse image plan l s
    by true r = absurd (none is r)
    by false r = (refl, r)
