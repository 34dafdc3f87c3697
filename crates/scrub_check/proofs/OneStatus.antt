-- Exactly one status applies to a locator. Each is that of the first test that the locator fails, and the tests are the
-- same for all.
use Rattle.std.proofs.Common.{◌≡◌, ◌⊎◌, ◌≤◌, ℕ, Bool, true, false, List, Option, Some, None, MatchBool, MatchOption, length, inl, inr, sym, ◌∙◌, ap, refl}
use Rattle.scrub_disk.specs.Image.{Image}
use Rattle.scrub_frame.specs.declared.form.Form.{Form}
use Rattle.scrub_frame.specs.declared.locator.Locator.{Locator}
use Rattle.scrub_super.specs.Plan.{PlanValue, pointer_of}
use Rattle.scrub_scan.specs.Extent.{extent_of, FrameAt, NoFrameAt}
use Rattle.scrub_scan.specs.steps.OneFrame.{one_frame_at}
use Rattle.scrub_check.specs.declared.statuses.status.Status.{Status}
use Rattle.scrub_check.specs.declared.statuses.status.Status.TheVariants.{OutOfRange, Retired, PastPointer, Unreadable, NoFrame, WrongUuid, WrongLength, WrongDigest, Hidden, Sound}
use Rattle.scrub_check.specs.Status.{end_of, InRange, HasUnreadableByte, CanStand, FindsFrame, NamesChunk, BeginsAt, HasStatus, HasStatusInRetired, HasStatusIn, is_retired, ExactlyOne}
use Rattle.scrub_check.proofs.RunStates.{HasStatusInUse, unnamed}
use Rattle.scrub_check.proofs.StatusThere.{some_status}

-- a frame of the locator's UUID, of either form, is there
abbrev HasUuid : Image → ℕ → Locator → Type 0
HasUuid image w l = (f : Form) × ((b : List ℕ) × FrameAt (extent_of image l.extent w) l.offset f l.uuid b)

-- one whose payload has the locator's length
abbrev HasLength : Image → ℕ → Locator → Type 0
HasLength image w l =
    (f : Form) × ((b : List ℕ) × FrameAt (extent_of image l.extent w) l.offset f l.uuid b × (length b ≡ l.length))

-- the status is that of a test which fails, or the test is passed and more is known
abbrev Tested : Status → Status → Type 0 → Type 0 → Type 0
Tested failed s test more = ((failed ≡ s) × ¬ test) ⊎ (test × more)

-- a status by the tests from that of the tiling on, and so up to all of them
abbrev ByTiling : Image → ℕ → Locator → Status → Type 0
ByTiling image w l s = Tested Hidden s (BeginsAt (extent_of image l.extent w) l.offset) (Sound ≡ s)

abbrev ByLength : Image → ℕ → Locator → Status → Type 0
ByLength image w l s =
    Tested WrongLength s (HasLength image w l) (Tested WrongDigest s (NamesChunk image w l) (ByTiling image w l s))

abbrev ByFrame : Image → ℕ → Locator → Status → Type 0
ByFrame image w l s =
    Tested NoFrame s (¬ NoFrameAt (extent_of image l.extent w) l.offset)
    (Tested WrongUuid s (HasUuid image w l) (ByLength image w l s))

abbrev ByTests : Image → ℕ → Locator → Status → Type 0
ByTests image w l s =
    Tested OutOfRange s (InRange image.geometry l)
    (Tested PastPointer s (end_of l ≤ w)
    (Tested Unreadable s (¬ HasUnreadableByte image l) (ByFrame image w l s)))

from_can : (image : Image) (w : ℕ) (l : Locator) (s : Status) → CanStand image w l → ByFrame image w l s → ByTests image w l s
from_can image w l s can more = inr (can.in_range, inr (can.below, inr (can.readable, more)))

from_frame : (image : Image) (w : ℕ) (l : Locator) (s : Status) (b : List ℕ) → FindsFrame image w l l.uuid b →
    ByLength image w l s → ByTests image w l s
from_frame image w l s b f more =
    from_can image w l s f.can (inr (λ none. none f.form l.uuid b f.frame, inr ((f.form, (b, f.frame)), more)))

from_chunk : (image : Image) (w : ℕ) (l : Locator) (s : Status) → NamesChunk image w l → ByTiling image w l s →
    ByTests image w l s
from_chunk image w l s n more =
    from_frame image w l s n.payload n.found (inr ((n.found.form, (n.payload, n.found.frame, n.length)), inr (n, more)))

by_tests : (image : Image) (w : ℕ) (l : Locator) (s : Status) → HasStatus image w l s → ByTests image w l s
by_tests image w l OutOfRange h = inl (refl, h)
by_tests image w l Retired h = absurd h
by_tests image w l PastPointer h = inr (h.0, inl (refl, h.1))
by_tests image w l Unreadable h = inr (h.0, inr (h.1, inl (refl, λ readable. readable h.2)))
by_tests image w l NoFrame h = from_can image w l NoFrame h.0 (inl (refl, λ some. some h.1))
by_tests image w l WrongUuid (u, (b, f, other)) =
    from_can image w l WrongUuid f.can
    (inr (λ none. none f.form u b f.frame, inl (refl, λ h. other (one_frame_at (extent_of image l.extent w) l.offset f.form u b h.0 l.uuid h.1.0 f.frame h.1.1).1)))
by_tests image w l WrongLength (b, f, other) =
    from_frame image w l WrongLength b f
    (inl (refl, λ h. other (ap (λ (xs : List ℕ). length xs) (one_frame_at (extent_of image l.extent w) l.offset f.form l.uuid b h.0 l.uuid h.1.0 f.frame h.1.1).2 ∙ h.1.2)))
by_tests image w l WrongDigest (b, f, same, other) =
    from_frame image w l WrongDigest b f
    (inr ((f.form, (b, f.frame, same)), inl (refl, unnamed image w l WrongDigest (λ e. cc) (λ e. cc) (b, f, same, other))))
by_tests image w l Hidden h = from_chunk image w l Hidden h.0 (inl (refl, h.1))
by_tests image w l Sound h = from_chunk image w l Sound h.0 (inr (h.1, refl))

-- two statuses by one test: that of the test both, or by the tests after it
same_after_test : (failed s t : Status) (test P Q : Type 0) → (P → Q → s ≡ t) → Tested failed s test P → Tested failed t test Q → s ≡ t
same_after_test failed s t test P Q same (inl a) (inl b) = sym a.0 ∙ b.0
same_after_test failed s t test P Q same (inl a) (inr b) = absurd (a.1 b.0)
same_after_test failed s t test P Q same (inr a) (inl b) = absurd (b.1 a.0)
same_after_test failed s t test P Q same (inr a) (inr b) = same a.1 b.1

one_status_lem : (image : Image) (w : ℕ) (l : Locator) (s t : Status) → HasStatus image w l s → HasStatus image w l t → s ≡ t
one_status_lem image w l s t h k =
    same_after_test OutOfRange s t _ _ _ (
    same_after_test PastPointer s t _ _ _ (
    same_after_test Unreadable s t _ _ _ (
    same_after_test NoFrame s t _ _ _ (
    same_after_test WrongUuid s t _ _ _ (
    same_after_test WrongLength s t _ _ _ (
    same_after_test WrongDigest s t _ _ _ (
    same_after_test Hidden s t _ _ _ (λ a b. sym a ∙ b)))))))) (by_tests image w l s h) (by_tests image w l t k)

-- Under a write pointer a locator has exactly one status.
pub one_under_pointer : (image : Image) (w : ℕ) (l : Locator) → ExactlyOne (HasStatus image w l)
one_under_pointer image w l = record { one = one_status_lem image w l; some = λ none. none (some_status image w l).0 (some_status image w l).1 }

-- in a retired extent there is one test
by_range : (image : Image) (l : Locator) (s : Status) → HasStatusInRetired image l s →
    Tested OutOfRange s (InRange image.geometry l) (Retired ≡ s)
by_range image l OutOfRange h = inl (refl, h)
by_range image l Retired h = inr (h, refl)
by_range image l PastPointer h = absurd h
by_range image l Unreadable h = absurd h
by_range image l NoFrame h = absurd h
by_range image l WrongUuid h = absurd h
by_range image l WrongLength h = absurd h
by_range image l WrongDigest h = absurd h
by_range image l Hidden h = absurd h
by_range image l Sound h = absurd h

pub one_in_retired : (image : Image) (l : Locator) → ExactlyOne (HasStatusInRetired image l)
one_in_retired image l = record {
  one = λ s t h k. same_after_test OutOfRange s t _ _ _ (λ a b. sym a ∙ b) (by_range image l s h) (by_range image l t k);
  some = λ none. none OutOfRange (λ in_range. none Retired in_range);
}

-- a locator has exactly one status under a plan
pub one_in_plan : (image : Image) (plan : PlanValue) (l : Locator) → ExactlyOne (HasStatusIn image plan l)
one_in_plan image plan l = by (is_retired plan l.extent)
  where
    in_use : (o : Option ℕ) → ExactlyOne (λ s. MatchOption o (s ≡ OutOfRange) (λ w. HasStatus image w l s))
    in_use None = record { one = λ s t h k. h ∙ sym k; some = λ none. none OutOfRange refl }
    in_use (Some w) = one_under_pointer image w l

    by : (b : Bool) → ExactlyOne (λ s. MatchBool b (HasStatusInRetired image l s) (HasStatusInUse image plan l s))
    by true = one_in_retired image l
    by false = in_use (pointer_of plan l.extent)
