-- Small disks that meet the premises of the laws of resets and copies. One has an extent that is listed to be
-- reclaimed, whatever is accepted, and is reset; the other has room, into which a frame is copied.
use Rattle.std.proofs.Common.{◌≡◌, ◌≢◌, ◌<◌, ◌≤◌, ◌+◌, ◌-◌, ◌^◌, ◌++◌, ℕ, zero, suc, true, false, cond, List, [], ◌∷◌, replicate, arith, refl, sym, ◌∙◌, ap, subst, Option, Some, None, IfSome, All, Contains, slice_get}
use Rattle.std.specs.List.{list_all}
use Rattle.std.proofs.lemmas.Bool.{eq-eqb, ne_eqb}
use Rattle.std.proofs.lemmas.List.{get_or_append_left}
use Rattle.std.proofs.lemmas.List.Elements.{All-cons, All-nil}
use Rattle.scrub_disk.specs.Image.{Image, image_byte}
use Rattle.scrub_frame.specs.declared.form.Form.TheVariants.{Plain}
use Rattle.scrub_frame.specs.Frame.{frame_of}
use Rattle.scrub_super.specs.Plan.{pointer_of}
use Rattle.scrub_scan.specs.declared.findings.Findings.{Findings}
use Rattle.scrub_scan.specs.Extent.{FrameAt, extent_of}
use Rattle.scrub_scan.specs.Findings.{IsFindings}
use Rattle.scrub_check.specs.Candidates.{AreCandidates, CandidateValue}
use Rattle.scrub_super.proofs.PlansFit.{plan_fits}
use Rattle.scrub_loose.specs.Loose.{AreLoose, LooseValue}
use Rattle.scrub_loose.proofs.LooseThere.{some_loose}
use Rattle.scrub_found.specs.Scrubbed.{IsScrubbed, Scrubbed}
use Rattle.scrub_reclaim.specs.Copy.{AreFramesFrom, HasRoomAt, IsAfterCopies, RoomValue, WholeFrame}
use Rattle.scrub_reclaim.specs.Doubts.{Acceptance, doubts, is_accepted}
use Rattle.scrub_reclaim.specs.Reclaimable.{AcceptsNoLoose, AcceptsNoSpare, accepted_in, is_clear, reclaimed}
use Rattle.scrub_reclaim.specs.Reset.{AreListedKeepingCopies, IsAfterReset, IsForeseen, IsListedWithoutMoves, IsPlanIn, IsReclaimed}
use Rattle.scrub_reclaim.proofs.FoundOnSmallDisks.{all_found, all_free, no_bindings, no_candidate, no_runs, none_broken, none_named, none_read, none_shared, one_candidate, plan_under, scanned}
use Rattle.scrub_reclaim.proofs.SmallDisks.{AreSmall, byte_of, choice_of, chosen, disk, found_nothing, found_pad, nothing, one_pad, pages_are, pages_of, whole_pages, zeros}

-- ---- all that is found

abbrev found_under : ℕ → ℕ → Findings → List CandidateValue → Scrubbed
found_under n w f candidates = record {
  choice = choice_of n w;
  plan = plan_under n w;
  all = scanned w f ∷ [];
  read = none_read;
  bindings = [];
  checked = [];
  shared = [];
  broken = [];
  candidates = candidates;
}

scrubbed_under : (n w : ℕ) (xs : List ℕ) → AreSmall n w → (f : Findings) (candidates : List CandidateValue) →
    IsFindings (disk n w xs) 1 w f → AreCandidates (plan_under n w) (scanned w f ∷ []) [] false candidates →
    IsScrubbed (disk n w xs) (found_under n w f candidates)
scrubbed_under n w xs are f candidates is those = record {
  choice = chosen n w xs are;
  plan = refl;
  all = all_found n w xs f is;
  read = no_runs n w xs;
  bindings = no_bindings;
  checked = none_named n w xs;
  shared = none_shared;
  broken = none_broken;
  candidates = those;
}

-- ---- before a reset: a full extent of zeros is listed

abbrev full : ℕ → Scrubbed
full n = found_under n 64 one_pad (all_free ∷ [])

scrubbed_full : (n : ℕ) → AreSmall n 64 → IsScrubbed (disk n 64 zeros) (full n)
scrubbed_full n are = scrubbed_under n 64 zeros are one_pad (all_free ∷ []) (found_pad n 64) (one_candidate n)

-- there is no doubt, unless another superblock is given as the last one
no_doubt : (n : ℕ) (last : Option ℕ) (loose : LooseValue) → IfSome last (λ g. g ≡ n) → doubts last (pages_of n) loose (full n) ≡ []
no_doubt n None loose same = refl
no_doubt n (Some g) loose same = rw (eq-eqb n g (sym same)) refl

-- its loose frames, whatever they are
loose_on : (n w : ℕ) (xs : List ℕ) → AreSmall n w → (v : LooseValue) × AreLoose [] (disk n w xs) (plan_under n w) v
loose_on n w xs are = some_loose [] (disk n w xs) (plan_under n w) (plan_fits (disk n w xs) (choice_of n w) (plan_under n w) (chosen n w xs are) refl)

-- so extent 1 is listed, whatever lines are accepted
module _ (accepted : Acceptance) (n : ℕ) (same : IfSome accepted.last (λ g. g ≡ n)) (are : AreSmall n 64) where
  abbrev loose : LooseValue
  loose = (loose_on n 64 zeros are).0

  none : doubts accepted.last (pages_of n) loose (full n) ≡ []
  none = no_doubt n accepted.last loose same

  clear : is_clear accepted (pages_of n) loose (full n) ≡ true
  clear = ap (list_all (is_accepted (accepted_in accepted (full n)))) none

  listed : reclaimed accepted (pages_of n) loose (full n) ≡ all_free ∷ []
  listed = ap (λ b. cond b (all_free ∷ []) []) clear

  first_listed : IsListedWithoutMoves (disk n 64 zeros) accepted 1
  first_listed = record {
    found = full n;
    scrubbed = scrubbed_full n are;
    pages = pages_of n;
    held = pages_are n 64 zeros are;
    loose = loose;
    are_loose = (loose_on n 64 zeros are).1;
    candidate = all_free;
    listed = subst (λ (cs : List CandidateValue). Contains cs all_free) (sym listed) (0, omega arith, refl);
    extent_is = refl;
    unmoved = refl;
  }

  all_listed : All (IsListedWithoutMoves (disk n 64 zeros) accepted) (1 ∷ [])
  all_listed =
      All-cons (IsListedWithoutMoves (disk n 64 zeros) accepted) 1 [] first_listed
      (All-nil (IsListedWithoutMoves (disk n 64 zeros) accepted))

  no_spare : AcceptsNoSpare accepted (pages_of n) loose (full n)
  no_spare = rw none refl

  no_loose : AcceptsNoLoose accepted (pages_of n) loose (full n)
  no_loose = rw none refl

  listed_keeping_copies : AreListedKeepingCopies accepted (1 ∷ []) (disk n 64 zeros)
  listed_keeping_copies = record {
    found = full n;
    scrubbed = scrubbed_full n are;
    pages = pages_of n;
    held = pages_are n 64 zeros are;
    loose = loose;
    are_loose = (loose_on n 64 zeros are).1;
    listed = all_listed;
    spares = no_spare;
    loose_copies = no_loose;
  }

-- ---- what is acted on is extent 1 alone

no_other : (x : ℕ) → x ≢ 0 → x < 2 → ¬ Contains (1 ∷ []) x → ⊥
no_other zero first low out = first refl
no_other (suc zero) first low out = out (0, omega arith, refl)
no_other (suc (suc k)) first low out = omega (arith, low)

-- no further extent has a pointer
none_behind : (n w k : ℕ) → pointer_of (plan_under n w) (suc (suc k)) ≡ None
none_behind n w k =
    ap (λ b. cond b None (slice_get (w ∷ []) (suc (suc k) - 1))) (ne_eqb (suc (suc k)) 0 (λ e. omega (arith, e)))
    ∙ ap (slice_get (w ∷ [])) (let e : suc (suc k) - 1 ≡ suc k = omega arith in e)

same_pointers : (n w m v x : ℕ) → ¬ Contains (1 ∷ []) x → pointer_of (plan_under m v) x ≡ pointer_of (plan_under n w) x
same_pointers n w m v zero out = refl
same_pointers n w m v (suc zero) out = absurd (out (0, omega arith, refl))
same_pointers n w m v (suc (suc k)) out = none_behind m v k ∙ sym (none_behind n w k)

plan_in : (n w : ℕ) (xs : List ℕ) → AreSmall n w → IsPlanIn (disk n w xs) (plan_under n w)
plan_in n w xs are = record { choice = choice_of n w; chosen = chosen n w xs are; follows = refl }

-- ---- a reset

after_reset : (n : ℕ) → n + 1 < 2 ^ 64 → IsAfterReset (1 ∷ []) (disk n 64 zeros) (disk (n + 1) 0 zeros)
after_reset n fits = record {
  sizes = refl;
  bytes = λ x p first low out. absurd (no_other x first low out);
  old = plan_under n 64;
  new = plan_under (n + 1) 0;
  was = plan_in n 64 zeros (record { generation = omega (arith, fits); pointer = omega arith });
  is = plan_in (n + 1) 0 zeros (record { generation = fits; pointer = omega arith });
  plans = record { has = refl; runs = refl; retired = refl; pointers = same_pointers n 64 (n + 1) 0 };
}

foreseen : (n : ℕ) (fits : n + 1 < 2 ^ 64) → IsForeseen (1 ∷ []) (disk n 64 zeros) (disk (n + 1) 0 zeros)
unfolding after_reset
foreseen n fits = record {
  reset = after_reset n fits;
  are = All-cons IsAtStart 1 [] refl (All-nil IsAtStart);
}
  where
    IsAtStart : ℕ → Type 0
    IsAtStart e = pointer_of (plan_under (n + 1) 0) e ≡ Some 0

-- the generation that counts: the one that is given as the last one
abbrev generation_of : Option ℕ → ℕ
generation_of None = 1
generation_of (Some g) = g

is_generation_of : (last : Option ℕ) → IfSome last (λ g. g ≡ generation_of last)
is_generation_of None = tt
is_generation_of (Some g) = refl

next_fits : (last : Option ℕ) → IfSome last (λ g. g + 1 < 2 ^ 64) → generation_of last + 1 < 2 ^ 64
next_fits None fits = omega arith
next_fits (Some g) fits = fits

-- If a generation can follow `last`, a disk has extent 1 listed, whatever is accepted, and then reset.
pub a_reset_can_happen : (accepted : Acceptance) → IfSome accepted.last (λ g. g + 1 < 2 ^ 64) →
    (before after : Image) × IsReclaimed accepted (1 ∷ []) before after × IsForeseen (1 ∷ []) before after
    × AreListedKeepingCopies accepted (1 ∷ []) before
a_reset_can_happen accepted given =
    let n : ℕ = generation_of accepted.last in
    let fits : n + 1 < 2 ^ 64 = next_fits accepted.last given in
    let are : AreSmall n 64 = record { generation = omega (arith, fits); pointer = omega arith } in
    let same : IfSome accepted.last (λ g. g ≡ n) = is_generation_of accepted.last in (
      disk n 64 zeros,
      disk (n + 1) 0 zeros,
      record { listed = all_listed accepted n same are; reset = after_reset n fits },
      foreseen n fits,
      listed_keeping_copies accepted n same are,
    )

-- ---- a copy: into an empty extent, the frame of `abc`

abbrev ones : List ℕ
ones = replicate 16 0x11

abbrev abc : List ℕ
abc = 0x61 ∷ 0x62 ∷ 0x63 ∷ []

abbrev copied : List ℕ
copied = frame_of Plain ones abc ++ replicate 23 0

abbrev empty_room : RoomValue
empty_room = record { extent = 1; place = 0 }

one_room : (P : RoomValue → Type 0) → P empty_room → All P (empty_room ∷ [])
one_room P h = All-cons P empty_room [] h (All-nil P)

small_empty : AreSmall 2 0
small_empty = record { generation = omega arith; pointer = omega arith }

small_copied : AreSmall 3 41
small_copied = record { generation = omega arith; pointer = omega arith }

had_room : HasRoomAt (disk 2 0 zeros) 1 0
had_room = record {
  found = found_under 2 0 nothing [];
  scrubbed = scrubbed_under 2 0 zeros small_empty nothing [] (found_nothing 2 0) (no_candidate 2);
  loose = (loose_on 2 0 zeros small_empty).0;
  are_loose = (loose_on 2 0 zeros small_empty).1;
  scanned = scanned 0 nothing;
  among = (0, omega arith, refl);
  extent_is = refl;
  place_is = refl;
  fits = refl;
}

after_copy : IsAfterCopies (empty_room ∷ []) (disk 2 0 zeros) (disk 3 41 copied)
after_copy = record {
  whole = whole_pages 2 0 zeros small_empty refl;
  had = one_room (λ r. HasRoomAt (disk 2 0 zeros) r.extent r.place) had_room;
  sizes = refl;
  others = λ x p first low out. absurd (no_other x first low out);
  kept = one_room (λ r. (p : ℕ) → p < r.place → image_byte (disk 3 41 copied) r.extent p ≡ image_byte (disk 2 0 zeros) r.extent p)
      (λ p below. absurd (omega (arith, below)));
  old = plan_under 2 0;
  new = plan_under 3 41;
  was = plan_in 2 0 zeros small_empty;
  is = plan_in 3 41 copied small_copied;
  plans = record {
    has = refl;
    runs = refl;
    retired = refl;
    pointers = λ x out. same_pointers 2 0 3 41 x out;
    moved = one_room (λ r. (w : ℕ) × (pointer_of (plan_under 3 41) r.extent ≡ Some w) × (r.place ≤ w)) (41, refl, omega arith);
  };
}

frame_there : FrameAt (extent_of (disk 3 41 copied) 1 41) 0 Plain ones abc
frame_there = record {
  has_frame = record { sixteen = refl; short = omega arith };
  fits = omega arith;
  stands = λ k here.
      ap (image_byte (disk 3 41 copied) 1) (let e : 0 + k ≡ k = omega arith in e)
      ∙ byte_of 3 41 copied k refl (omega (arith, here))
      ∙ ap Some (get_or_append_left (frame_of Plain ones abc) (replicate 23 0) 0 k here);
}

-- There is a disk with room into which a whole frame is copied, and which has the frame there afterwards.
pub a_copy_can_happen : (room : RoomValue) × (copy : WholeFrame) × (before after : Image)
    × (acted : IsAfterCopies (room ∷ []) before after) × (w : ℕ) × (pointer_of acted.new room.extent ≡ Some w)
    × AreFramesFrom (extent_of after room.extent w) room.place (copy ∷ [])
unfolding after_copy
a_copy_can_happen = (
  empty_room,
  record { form = Plain; uuid = ones; payload = abc },
  disk 2 0 zeros,
  disk 3 41 copied,
  after_copy,
  41,
  refl,
  (frame_there, tt),
)
