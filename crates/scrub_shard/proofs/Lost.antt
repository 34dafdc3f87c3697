-- Which locators have no payload: the first of them, and that all others have one that can be read.
use Rattle.std.proofs.Common.{◌≡◌, ◌⊎◌, ◌<◌, ◌≤◌, ◌+◌, ◌==◌, ◌&&◌, ◌++◌, ◌∷◌, [], ℕ, suc, Bool, true, false, not, List, MatchBool, Some, None, length, get_or, nat_lt, cond, if◌then◌else◌, arith, inl, inr, refl, sym, ◌∙◌, ap, subst}
use Rattle.std.proofs.Math.Path.{ap₂}
use Rattle.std.specs.List.{All, filter, position, position_or_len}
use Rattle.std.proofs.lemmas.Bool.{false≢true}
use Rattle.std.proofs.lemmas.Bool.Decides.{nat_tests}
use Rattle.std.proofs.lemmas.Option.{none-some, same_Some}
use Rattle.std.proofs.lemmas.List.Elements.{All-append, All-contains_itself, All-filter, All-nil}
use Rattle.std.proofs.lemmas.List.Sums.{fails_before_first, passes_at_first}
use Rattle.scrub_disk.specs.Image.{Image}
use Rattle.scrub_super.specs.Plan.{PlanValue}
use Rattle.scrub_scan.specs.declared.standing.Standing.{Standing}
use Rattle.scrub_scan.specs.Scanned.{Scanned}
use Rattle.scrub_scan.specs.Standing.{Stands}
use Rattle.scrub_check.specs.declared.statuses.checked.Checked.{Checked}
use Rattle.scrub_check.specs.declared.statuses.status.Status.{Status}
use Rattle.scrub_check.specs.declared.statuses.status.Status.TheVariants.{Hidden, Sound}
use Rattle.scrub_check.specs.Checked.{HaveStatuses, is_dangling}
use Rattle.scrub_check.specs.ChunkRun.{StandsThere}
use Rattle.scrub_check.specs.Spares.{asks_for_spares, copies_of, frames, is_copy_of, spares_of}
use Rattle.scrub_check.specs.Status.{HasStatusIn}
use Rattle.scrub_check.specs.WholeScan.{IsWholeScan}
use Rattle.scrub_check.proofs.Payloads.{stands_there}
use Rattle.scrub_check.proofs.StatusKinds.{status_kinds}
use Rattle.scrub_loose.specs.Copies.{CopiesValue, copies_by}
use Rattle.scrub_loose.specs.Loose.{AreCopies, AreLoose, LooseValue, copies_for, is_gone, loose_of}
use Rattle.scrub_shard.specs.Shard.{asks_for_nothing, first_lost, is_payload_lost}
use Rattle.scrub_shard.specs.steps.Payloads.{AreReadable, HasPayloadUnlessLost, HasPayloadLeft, is_lost_by}
use Rattle.scrub_shard.proofs.Frames.{frames_stand}
use Rattle.scrub_shard.proofs.Joined.{HasItsCopies}

-- ---- the first that passes

-- no element passes if there is no first that does
pub none_passes : {X : Type 0} (p : X → Bool) (xs : List X) → position p xs ≡ None → All (λ x. p x ≡ false) xs
none_passes {X} p xs none k d below = fails_before_first p xs k d (omega (arith, below, end (nat_lt (position_or_len p xs) (length xs)) refl none))
  where
    end : (b : Bool) → nat_lt (position_or_len p xs) (length xs) ≡ b → cond b (Some (position_or_len p xs)) None ≡ None →
        length xs ≤ position_or_len p xs
    end true less e = absurd (none-some (position_or_len p xs) (sym e))
    end false less e = grind (arith, nat_tests)

-- the first that does is there, and passes
pub first_passes : {X : Type 0} (p : X → Bool) (xs : List X) (n : ℕ) (d : X) → position p xs ≡ Some n →
    (n < length xs) × (p (get_or xs n d) ≡ true)
first_passes {X} p xs n d is = by (nat_lt (position_or_len p xs) (length xs)) refl is
  where
    by : (b : Bool) → nat_lt (position_or_len p xs) (length xs) ≡ b → cond b (Some (position_or_len p xs)) None ≡ Some n →
        (n < length xs) × (p (get_or xs n d) ≡ true)
    by false less e = absurd (none-some n e)
    by true less e =
        let within : position_or_len p xs < length xs = grind (arith, nat_tests) in
        subst (λ (m : ℕ). (m < length xs) × (p (get_or xs m d) ≡ true)) (same_Some (position_or_len p xs) n e)
        (within, passes_at_first p xs d within)

-- two tests that agree place by place, on two lists
places : {X : Type 0} (p q : X → Bool) (xs ys : List X) → length xs ≡ length ys →
    ((k : ℕ) (d : X) → k < length xs → p (get_or xs k d) ≡ q (get_or ys k d)) → position_or_len p xs ≡ position_or_len q ys
places p q [] [] size same = refl
places p q [] (y ∷ ys) size same = absurd (omega (arith, size))
places p q (x ∷ xs) [] size same = absurd (omega (arith, size))
places {X} p q (x ∷ xs) (y ∷ ys) size same =
    let first : p x ≡ q y = same 0 x (omega arith) in
    let rest : position_or_len p xs ≡ position_or_len q ys =
    places p q xs ys (omega (arith, size)) (λ k d below. same (suc k) d (omega (arith, below))) in
    λ i. cond (not (first i)) (1 + rest i) 0

-- So they have the same first.
pub same_place : {X : Type 0} (p q : X → Bool) (xs ys : List X) → length xs ≡ length ys →
    ((k : ℕ) (d : X) → k < length xs → p (get_or xs k d) ≡ q (get_or ys k d)) → position p xs ≡ position q ys
same_place p q xs ys size same =
    let at : position_or_len p xs ≡ position_or_len q ys = places p q xs ys size same in
    λ i. cond (nat_lt (at i) (size i)) (Some (at i)) None

-- ---- the locators of an entry

-- each has the copies that were found for it
pub have_copies : (image : Image) (plan : PlanValue) (all : List Scanned) (own : List Checked) (found : CopiesValue)
    (are : AreCopies [] image plan all own found) → All (HasItsCopies all are.found.frames found) own
have_copies image plan all own found are k d below =
    let here = All-contains_itself own k d below in
    ap₂ (λ (ss ts : List Standing). ss ++ ts) (are.spares (get_or own k d) here) (are.loose (get_or own k d) here)

-- so the first lost one is the same by them
pub same_lost : (all : List Scanned) (loose : List Standing) (found : CopiesValue) (own : List Checked) →
    All (HasItsCopies all loose found) own → position (is_lost_by found) own ≡ first_lost all loose own
same_lost all loose found own same =
    same_place (is_lost_by found) (is_payload_lost all loose) own own refl
    (λ k d below.
    ap
    (λ (ss : List Standing). not (asks_for_nothing (get_or own k d).locator) && (is_dangling (get_or own k d).status && (length ss == 0)))
    (same k d below))

-- a locator that doesn't dangle is sound or hidden
pub not_dangling : (s : Status) → is_dangling s ≡ false → (s ≡ Sound) ⊎ (s ≡ Hidden)
not_dangling s e = elim (status_kinds s) [
  | inl sound ↦ inl sound
  | inr (inl hidden) ↦ inr hidden
  | inr (inr dangles) ↦ absurd (false≢true (sym e ∙ dangles))
]

-- the loose frames of an image stand in it
pub loose_frames_stand : (image : Image) (plan : PlanValue) (v : LooseValue) → AreLoose [] image plan v → All (Stands image) v.frames
loose_frames_stand image plan v are k d below = ((are.frames (get_or v.frames k d)).0 (All-contains_itself v.frames k d below)).stands

-- so the copies of a locator do
copies_stand : (image : Image) (plan : PlanValue) (all : List Scanned) (loose : List Standing) (c : Checked) → IsWholeScan image plan all →
    All (Stands image) loose → All (Stands image) (copies_for all loose c)
copies_stand image plan all loose c whole stand =
    All-append (Stands image) (spares_of all c) (loose_of all loose c) (of_spares (asks_for_spares c)) (of_loose (is_gone all c))
  where
    of_spares : (b : Bool) → All (Stands image) (if b then copies_of all c.locator else [])
    of_spares true = All-filter (is_copy_of c.locator) (Stands image) (frames all) (frames_stand image plan all whole)
    of_spares false = All-nil (Stands image)

    of_loose : (b : Bool) → All (Stands image) (if b then filter (is_copy_of c.locator) loose else [])
    of_loose true = All-filter (is_copy_of c.locator) (Stands image) loose stand
    of_loose false = All-nil (Stands image)

module _ (image : Image) (plan : PlanValue) (all : List Scanned) (loose : List Standing) (found : CopiesValue) where
  -- a locator that isn't lost can be read
  can_be_read : (c : Checked) → IsWholeScan image plan all → All (Stands image) loose → HasStatusIn image plan c.locator c.status →
      HasItsCopies all loose found c → HasPayloadUnlessLost image found c
  can_be_read c whole stand status same = asked (asks_for_nothing c.locator)
    where
      some : (ss : List Standing) → (length ss == 0) ≡ false → 0 < length ss
      some [] e = absurd (false≢true (sym e))
      some (s ∷ ss) e = omega arith

      by : (b : Bool) → is_dangling c.status ≡ b → (b && (length (copies_by found c) == 0)) ≡ false →
          MatchBool b (AreReadable image (copies_by found c)) (StandsThere image c.locator)
      by true dangling e = record {
        some = some (copies_by found c) e;
        stand = subst (λ (ss : List Standing). All (Stands image) ss) (sym same) (copies_stand image plan all loose c whole stand);
      }
      by false dangling e = stands_there image plan c.locator c.status (not_dangling c.status dangling) status

      asked : (b : Bool) → (not b && (is_dangling c.status && (length (copies_by found c) == 0))) ≡ false →
          MatchBool b (Unit {0})
          (MatchBool (is_dangling c.status) (AreReadable image (copies_by found c)) (StandsThere image c.locator))
      asked true kept = tt
      asked false kept = by (is_dangling c.status) refl kept

  -- so is each of an entry, or of several
  pub all_can_be_read : (own : List Checked) → IsWholeScan image plan all → All (Stands image) loose → HaveStatuses image plan own →
      All (HasItsCopies all loose found) own → All (HasPayloadUnlessLost image found) own
  all_can_be_read own whole stand statuses same k d below =
      can_be_read (get_or own k d) whole stand (statuses k d below) (same k d below)

-- by the copies that were found
pub copies_can_be_read : (image : Image) (plan : PlanValue) (all : List Scanned) (own : List Checked) (found : CopiesValue) →
    IsWholeScan image plan all → HaveStatuses image plan own → AreCopies [] image plan all own found →
    All (HasPayloadUnlessLost image found) own
copies_can_be_read image plan all own found whole statuses are =
    all_can_be_read image plan all are.found.frames found own whole (loose_frames_stand image plan are.found are.are) statuses
    (have_copies image plan all own found are)

-- and each has a payload left if none is lost
pub all_left : (image : Image) (found : CopiesValue) (own : List Checked) → All (HasPayloadUnlessLost image found) own →
    position (is_lost_by found) own ≡ None → All (HasPayloadLeft image found) own
all_left image found own readable none k d below = readable k d below (none_passes (is_lost_by found) own none k d below)
