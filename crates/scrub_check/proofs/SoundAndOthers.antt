-- Named locators, the sound ones apart from the others, and the lists that are drawn from the others alone.
use Rattle.std.proofs.Common.{◌≡◌, ◌<◌, ◌+◌, ◌++◌, ◌∷◌, [], ◌&&◌, ◌||◌, ◌∙◌, Bool, true, false, not, ℕ, List, All, Option, Some, None, Result, Ok, Err, IfOk, append-nil, cond, get_or, length, map, take, refl, sym, ap, subst}
use Rattle.std.proofs.Math.Path.{ap₂}
use Rattle.std.specs.List.{filter, flat_map, list_any, AllZip}
use Rattle.std.specs.List.Sorted.{IsPermutation}
use Rattle.std.proofs.lemmas.Bool.{and_parts, false_from_ne_true, false≢true}
use Rattle.std.specs.declared.vec.Vec.{Vec}
use Rattle.std.proofs.lemmas.Grind.{flat_map-append}
use Rattle.std.proofs.lemmas.List.{map-append, take_more}
use Rattle.rayon.specs.Lists.{chunks_of}
use Rattle.rayon.proofs.ListFacts.{AllZip-through}
use Rattle.rayon.proofs.ToStd.{chunks_of-concat}
use Rattle.std.proofs.lemmas.List.Elements.{All-append, All-cons, All-filter, All-nil, filter-append}
use Rattle.list_facts.proofs.Zips.{AllZip-append}
use Rattle.scrub_disk.specs.Image.{Image}
use Rattle.scrub_frame.specs.declared.locator.Locator.{Locator}
use Rattle.scrub_super.specs.Plan.{PlanValue}
use Rattle.scrub_merge.specs.Binding.{BindingValue}
use Rattle.scrub_run.specs.declared.shard_id.ShardId.{ShardId}
use Rattle.scrub_check.specs.declared.named.Named.{Named}
use Rattle.scrub_check.specs.declared.places.chunk_at.ChunkAt.{ChunkAt}
use Rattle.scrub_check.specs.declared.statuses.checked.Checked.{Checked}
use Rattle.scrub_check.specs.declared.statuses.sound_and_others.SoundAndOthers.{SoundAndOthers}
use Rattle.scrub_check.specs.declared.statuses.status.Status.{Status}
use Rattle.scrub_check.specs.declared.statuses.status.Status.TheVariants.{Sound}
use Rattle.scrub_check.specs.Checked.{AreBrokenShards, AreChecked, dangling, hidden, is_broken, is_dangling, is_hidden, is_owned_by, is_sound, named_of}
use Rattle.scrub_check.specs.Named.{named_by_shard}
use Rattle.scrub_check.specs.Status.{HasStatusIn}
use Rattle.scrub_check.specs.steps.LocatorIndex.{AreBarredExtents}
use Rattle.scrub_check.specs.steps.Open.{IsKnownBefore, IsOpen}
use Rattle.scrub_check.specs.steps.Places.{place_named_by}
use Rattle.scrub_check.specs.steps.SoundAndOthers.{AreApart, IsApart, unsound}
use Rattle.scrub_check.specs.steps.SoundPlaces.{place_of_checked}
use Rattle.scrub_check.proofs.CheckedLists.{one_list_of_checked}
use Rattle.scrub_check.proofs.RunStates.{Sound_from_is_sound}
use Rattle.scrub_check.proofs.StatusKinds.{dangling_is_neither}
use Rattle.scrub_check.proofs.StatusThere.{some_in_plan}

-- ---- one locator

abbrev checked_as : Named → Status → Checked
checked_as n s = record { owner = n.owner; locator = n.locator; status = s }

one_checked : (image : Image) (plan : PlanValue) (n : Named) (s : Status) → HasStatusIn image plan n.locator s →
    AreChecked image plan (n ∷ []) (checked_as n s ∷ [])
one_checked image plan n s has = record {
  same = refl;
  statuses =
      All-cons (λ (c : Checked). HasStatusIn image plan c.locator c.status) (checked_as n s) [] has
      (All-nil (λ (c : Checked). HasStatusIn image plan c.locator c.status));
}

-- a sound one
sound_apart : (image : Image) (plan : PlanValue) (n : Named) → HasStatusIn image plan n.locator Sound →
    AreApart image plan (n ∷ []) (place_named_by n.locator ∷ []) [] []
sound_apart image plan n has = record {
  checked = checked_as n Sound ∷ [];
  are = one_checked image plan n Sound has;
  sound_are = refl;
  others_are = refl;
  known_are = tt;
}

other_with : (image : Image) (plan : PlanValue) (n : Named) (known : Option Status) (s : Status) → HasStatusIn image plan n.locator s →
    is_sound s ≡ false → IsKnownBefore image plan n known → AreApart image plan (n ∷ []) [] (n ∷ []) (known ∷ [])
other_with image plan n known s has other told = record {
  checked = checked_as n s ∷ [];
  are = one_checked image plan n s has;
  sound_are = ap (λ b. map place_of_checked (cond b (checked_as n s ∷ []) [])) (sym other);
  others_are = ap (λ b. map named_of (cond (not b) (checked_as n s ∷ []) [])) (sym other);
  known_are = (told, tt);
}

not_sound : (s : Status) → ¬ (s ≡ Sound) → is_sound s ≡ false
not_sound s other = false_from_ne_true (is_sound s) (λ sound. other (Sound_from_is_sound s sound))

-- a locator whose place has to be read isn't sound, since no item begins there
open_other : (image : Image) (plan : PlanValue) (l : Locator) (s : Status) → IsOpen image plan l → HasStatusIn image plan l s → ¬ (s ≡ Sound)
open_other image plan l s left has is = left.apart (rw (left.in_use, left.is, is) at has).1

-- one that isn't known to be sound
other_apart : (image : Image) (plan : PlanValue) (n : Named) (known : Option Status) → ¬ (known ≡ Some Sound) →
    IsKnownBefore image plan n known → AreApart image plan (n ∷ []) [] (n ∷ []) (known ∷ [])
other_apart image plan n (Some s) other told =
    other_with image plan n (Some s) s told (not_sound s (λ is. other (ap Some is))) told
other_apart image plan n None other told =
    let some = some_in_plan image plan n.locator in
    other_with image plan n None some.0 some.1 (not_sound some.0 (open_other image plan n.locator some.0 told some.1)) told

-- ---- lists of them

-- none
pub none_apart : (image : Image) (plan : PlanValue) → AreApart image plan [] [] [] []
none_apart image plan = record {
  checked = [];
  are = record { same = refl; statuses = All-nil (λ (c : Checked). HasStatusIn image plan c.locator c.status) };
  sound_are = refl;
  others_are = refl;
  known_are = tt;
}

-- some, and others behind them
pub both_apart : (image : Image) (plan : PlanValue) (names more : List Named) (s t : List ChunkAt) (o p : List Named) (k l : List (Option Status)) →
    AreApart image plan names s o k → AreApart image plan more t p l →
    AreApart image plan (names ++ more) (s ++ t) (o ++ p) (k ++ l)
both_apart image plan names more s t o p k l x y = record {
  checked = x.checked ++ y.checked;
  are = record {
    same = map-append named_of x.checked y.checked ∙ ap₂ (λ ns ms. ns ++ ms) x.are.same y.are.same;
    statuses =
        All-append (λ (c : Checked). HasStatusIn image plan c.locator c.status) x.checked y.checked x.are.statuses y.are.statuses;
  };
  sound_are =
      ap₂ (λ ls ms. ls ++ ms) x.sound_are y.sound_are
      ∙ sym
      (ap (map place_of_checked) (filter-append (λ c. is_sound c.status) x.checked y.checked) ∙ map-append place_of_checked (filter (λ c. is_sound c.status) x.checked) (filter (λ c. is_sound c.status) y.checked));
  others_are =
      ap₂ (λ ls ms. ls ++ ms) x.others_are y.others_are
      ∙ sym
      (ap (map named_of) (filter-append (λ c. not (is_sound c.status)) x.checked y.checked) ∙ map-append named_of (unsound x.checked) (unsound y.checked));
  known_are = AllZip-append (IsKnownBefore image plan) o p k l x.known_are y.known_are;
}

-- ---- one more locator

-- a sound one
pub sound_more : (image : Image) (plan : PlanValue) (names : List Named) (n : Named) (s t : List ChunkAt) (o : List Named) (k : List (Option Status)) →
    AreApart image plan names s o k → HasStatusIn image plan n.locator Sound → t ≡ s ++ place_named_by n.locator ∷ [] →
    AreApart image plan (names ++ n ∷ []) t o k
sound_more image plan names n s t o k start has is =
    subst (λ (os : List Named). AreApart image plan (names ++ n ∷ []) t os k) (append-nil o)
    (subst (λ (ks : List (Option Status)). AreApart image plan (names ++ n ∷ []) t (o ++ []) ks) (append-nil k)
    (subst (λ (ts : List ChunkAt). AreApart image plan (names ++ n ∷ []) ts (o ++ []) (k ++ [])) (sym is)
    (both_apart image plan names (n ∷ []) s (place_named_by n.locator ∷ []) o [] k [] start (sound_apart image plan n has))))

-- one that isn't known to be sound
pub other_more : (image : Image) (plan : PlanValue) (names : List Named) (n : Named) (known : Option Status) (s : List ChunkAt) (o p : List Named) (k l : List (Option Status)) →
    AreApart image plan names s o k → ¬ (known ≡ Some Sound) → IsKnownBefore image plan n known → p ≡ o ++ n ∷ [] → l ≡ k ++ known ∷ [] →
    AreApart image plan (names ++ n ∷ []) s p l
other_more image plan names n known s o p k l start other told others_are known_are =
    subst (λ (ss : List ChunkAt). AreApart image plan (names ++ n ∷ []) ss p l) (append-nil s)
    (subst (λ (ps : List Named). AreApart image plan (names ++ n ∷ []) (s ++ []) ps l) (sym others_are)
    (subst (λ (ls : List (Option Status)). AreApart image plan (names ++ n ∷ []) (s ++ []) (o ++ n ∷ []) ls) (sym known_are)
    (both_apart image plan names (n ∷ []) s [] o (n ∷ []) k (known ∷ []) start (other_apart image plan n known other told))))

-- ---- what is drawn from the others

-- what passes one test and so another is all that passes the one
filter_within : {X : Type 0} (p q : X → Bool) → ((x : X) → p x ≡ true → q x ≡ true) → (xs : List X) → filter p (filter q xs) ≡ filter p xs
filter_within p q each [] = refl
filter_within p q each (x ∷ xs) = by (p x) (q x) refl refl (filter_within p q each xs)
  where
    by : (a b : Bool) → p x ≡ a → q x ≡ b → filter p (filter q xs) ≡ filter p xs → filter p (filter q (x ∷ xs)) ≡ filter p (x ∷ xs)
    by a true is kept rest = rw kept (ap (λ ys. cond (p x) (x ∷ ys) ys) rest)
    by true false is kept rest = absurd (false≢true (sym kept ∙ each x is))
    by false false is kept rest = rw (is, kept) rest

-- and what passes among them passes among all
any_within : {X : Type 0} (p q : X → Bool) → ((x : X) → p x ≡ true → q x ≡ true) → (xs : List X) → list_any p (filter q xs) ≡ list_any p xs
any_within p q each [] = refl
any_within p q each (x ∷ xs) = by (p x) (q x) refl refl (any_within p q each xs)
  where
    by : (a b : Bool) → p x ≡ a → q x ≡ b → list_any p (filter q xs) ≡ list_any p xs → list_any p (filter q (x ∷ xs)) ≡ list_any p (x ∷ xs)
    by a true is kept rest = rw kept (ap (λ b. p x || b) rest)
    by true false is kept rest = absurd (false≢true (sym kept ∙ each x is))
    by false false is kept rest = rw (is, kept) rest

dangling_unsound : (s : Status) → is_dangling s ≡ true → not (is_sound s) ≡ true
dangling_unsound s is = ap not (dangling_is_neither s is).0

hidden_unsound : (s : Status) → is_hidden s ≡ true → not (is_sound s) ≡ true
hidden_unsound s is = ap not (not_sound s (λ sound. false≢true (sym (ap is_hidden sound) ∙ is)))

broken_unsound : (id : ShardId) (c : Checked) → (is_owned_by id c.owner && is_dangling c.status) ≡ true → not (is_sound c.status) ≡ true
broken_unsound id c is = dangling_unsound c.status (and_parts (is_owned_by id c.owner) (is_dangling c.status) is).1

pub dangling_within : (checked : List Checked) → dangling (unsound checked) ≡ dangling checked
dangling_within checked =
    filter_within (λ c. is_dangling c.status) (λ c. not (is_sound c.status)) (λ c. dangling_unsound c.status) checked

pub hidden_within : (checked : List Checked) → hidden (unsound checked) ≡ hidden checked
hidden_within checked =
    filter_within (λ c. is_hidden c.status) (λ c. not (is_sound c.status)) (λ c. hidden_unsound c.status) checked

pub barred_within : (checked : List Checked) (extents : List ℕ) → AreBarredExtents (unsound checked) extents → AreBarredExtents checked extents
barred_within checked extents are =
    subst (λ (cs : List Checked). IsPermutation (map (λ c. c.locator.extent) cs) extents)
    (filter_within (λ c. not (is_sound c.status)) (λ c. not (is_sound c.status)) (λ c is. is) checked) are

pub broken_within : (checked : List Checked) (ids : List ShardId) → AreBrokenShards (unsound checked) ids → AreBrokenShards checked ids
broken_within checked ids are = record {
  rising = are.rising;
  exact = λ id.
      let same : is_broken (unsound checked) id ≡ is_broken checked id =
      any_within (λ c. is_owned_by id c.owner && is_dangling c.status) (λ c. not (is_sound c.status)) (broken_unsound id) checked in
      (λ there. sym same ∙ (are.exact id).0 there, λ broken. (are.exact id).1 (same ∙ broken));
}

-- the others, checked, are those of all checked ones that aren't sound
pub others_checked : (image : Image) (plan : PlanValue) (names : List Named) (s : List ChunkAt) (o : List Named) (k : List (Option Status)) (cs : List Checked)
    (x : AreApart image plan names s o k) → AreChecked image plan o cs → cs ≡ unsound x.checked
others_checked image plan names s o k cs x are =
    one_list_of_checked image plan o cs (unsound x.checked) are (record {
      same = sym x.others_are;
      statuses =
          All-filter (λ c. not (is_sound c.status)) (λ (c : Checked). HasStatusIn image plan c.locator c.status) x.checked x.are.statuses;
    })

-- ---- blocks

-- one more part
pub parts_more : (parts : List (List Named)) (i : ℕ) → i < length parts →
    flat_map (λ part. part) (take (i + 1) parts) ≡ flat_map (λ part. part) (take i parts) ++ get_or parts i []
parts_more parts i inside =
    ap (flat_map (λ part. part)) (take_more parts i [] inside)
    ∙ flat_map-append (λ part. part) (take i parts) (get_or parts i [] ∷ [])
    ∙ ap (λ ns. flat_map (λ part. part) (take i parts) ++ ns) (append-nil (get_or parts i []))

parts_of_parts : {X A : Type 0} (f : X → List A) (xss : List (List X)) → flat_map (λ l. l) (map (flat_map f) xss) ≡ flat_map f (flat_map (λ l. l) xss)
parts_of_parts f [] = refl
parts_of_parts f (xs ∷ xss) =
    ap (λ ys. flat_map f xs ++ ys) (parts_of_parts f xss) ∙ sym (flat_map-append f xs (flat_map (λ l. l) xss))

-- blocks of bindings that are apart are some parts of all that the bindings name
pub blocks_joined : {E Z : Type 0} (image : Image) (plan : PlanValue) (bs : List BindingValue) (size : ℕ) → 0 < size → (r : Result (Vec SoundAndOthers Z) E) →
    IfOk r (λ v. AllZip (λ block a. IsApart image plan (flat_map named_by_shard block) a) (chunks_of size bs) v.items) →
    IfOk r (λ v. (parts : List (List Named)) × AllZip (IsApart image plan) parts v.items × (flat_map (λ part. part) parts ≡ flat_map named_by_shard bs))
blocks_joined image plan bs size some (Err e) each = tt
blocks_joined image plan bs size some (Ok v) each = (
  map (flat_map named_by_shard) (chunks_of size bs),
  AllZip-through (flat_map named_by_shard) _ (IsApart image plan) (λ block a is. is) (chunks_of size bs) v.items each,
  parts_of_parts named_by_shard (chunks_of size bs) ∙ ap (flat_map named_by_shard) (chunks_of-concat size bs some),
)
