-- A payload is lost exactly if it is nowhere.
use Rattle.std.proofs.Common.{◌≡◌, ◌↔◌, ◌<◌, ◌==◌, ◌&&◌, ◌++◌, ◌∷◌, [], ℕ, Bool, true, false, not, List, Option, None, Some, IfSome, cond, length, get_or, nat_lt, slice_get, if◌then◌else◌, arith, refl, sym, ◌∙◌, ap}
use Rattle.std.proofs.Math.Path.{ap₂}
use Rattle.std.specs.List.{Contains, filter, position, position_or_len}
use Rattle.std.specs.Str.{bytes_eq}
use Rattle.std.proofs.lemmas.Bool.{and_parts, cond-true, eq-eqb, false_from_ne_true, false≢true}
use Rattle.std.proofs.lemmas.Bool.Decides.{nat_tests}
use Rattle.std.proofs.lemmas.List.Elements.{All-contains, All-contains_itself}
use Rattle.std.proofs.lemmas.List.Sums.{fails_before_first, position_or_len_is}
use Rattle.std.proofs.lemmas.Option.{get_or_from_slice_get, none-some, same_Some, slice_get-get_or, slice_get_within}
use Rattle.std.proofs.lemmas.Slice.Eq.{bytes_eq-Decides}
use Rattle.sha2.specs.Sha256.{sha256}
use Rattle.list_facts.proofs.Bools.{false_from_not}
use Rattle.list_facts.proofs.Elements.{Contains-filter, both_nil}
use Rattle.list_facts.proofs.Filters.{filter_none}
use Rattle.list_facts.proofs.Slices.{nil_from_no_length}
use Rattle.scrub_disk.specs.Image.{Image}
use Rattle.scrub_frame.specs.declared.locator.Locator.{Locator}
use Rattle.scrub_super.specs.Plan.{PlanValue}
use Rattle.scrub_super.specs.steps.Limits.{AreRunLocators}
use Rattle.scrub_scan.specs.declared.standing.Standing.{Standing}
use Rattle.scrub_scan.specs.Scanned.{Scanned}
use Rattle.scrub_scan.specs.Standing.{Stands}
use Rattle.scrub_run.specs.declared.shard_id.ShardId.{ShardId}
use Rattle.scrub_check.specs.declared.statuses.checked.Checked.{Checked}
use Rattle.scrub_check.specs.Checked.{AreChecked, is_dangling}
use Rattle.scrub_check.specs.Named.{named_by_shard}
use Rattle.scrub_check.specs.Spares.{asks_for_spares, copies_of, frames, is_copy_of, spares_of}
use Rattle.scrub_check.specs.WholeScan.{IsWholeScan}
use Rattle.scrub_found.proofs.GivenPlans.{plan_from_fits, whole_from}
use Rattle.scrub_loose.specs.Loose.{AreLoose, LooseValue, copies_for, is_gone, loose_of}
use Rattle.scrub_loose.proofs.LooseThere.{some_loose}
use Rattle.scrub_shard.specs.Shard.{HasNone, IsInUse, IsLostInEntryFrom, IsMappedFrom, IsNowhere, IsShardAnswerFrom, Mapped, asks_for_nothing, first_lost, is_payload_lost}
use Rattle.scrub_shard.specs.declared.shard.ShardAnswer.TheVariants.{PayloadLost}
use Rattle.scrub_shard.proofs.Contents.{copy_from, copy_has, equal}
use Rattle.scrub_shard.proofs.Frames.{frames_stand}
use Rattle.scrub_shard.proofs.Lost.{first_passes}

-- all extents in use of an image are scanned
pub whole_scan : (given : Option (List Locator)) (image : Image) (m : Mapped) → IsMappedFrom given image m → IsWholeScan image m.plan m.all
whole_scan given image m x = whole_from given [] m.choice m.plan image m.all x.choice x.plan x.all

-- a frame of no bytes has the digest of no bytes
empty_frame : (image : Image) (s : Standing) → Stands image s → s.length ≡ 0 → s.digest ≡ sha256 []
empty_frame image s stands none = stands.has.frame.digest ∙ ap (λ (p : List ℕ). sha256 p) (empty stands.payload (sym stands.has.frame.length ∙ none))
  where
    empty : (p : List ℕ) → length p ≡ 0 → p ≡ []
    empty [] e = refl
    empty (b ∷ bs) e = absurd (omega (arith, e))

-- ---- one locator

module _ (image : Image) (plan : PlanValue) (all : List Scanned) (v : LooseValue) (whole : IsWholeScan image plan all)
    (are : AreLoose [] image plan v) (c : Checked) where
  -- a lost payload is nowhere
  pub nowhere : is_payload_lost all v.frames c ≡ true → IsNowhere image plan all c
  nowhere e = record {
    asks = asks;
    dangles = dangles;
    no_chunk = λ s among same. no_chunk s among same (nat_lt 0 c.locator.length) refl;
    no_frame = λ s used same. no_frame s used same (nat_lt 0 c.locator.length) refl;
  }
    where
      parts : (not (asks_for_nothing c.locator) ≡ true) × ((is_dangling c.status && length (copies_for all v.frames c) == 0) ≡ true)
      parts = and_parts (not (asks_for_nothing c.locator)) (is_dangling c.status && length (copies_for all v.frames c) == 0) e

      some : asks_for_nothing c.locator ≡ false
      some = false_from_not (asks_for_nothing c.locator) parts.0

      asks : (c.locator.length ≡ 0) × (c.locator.digest ≡ sha256 []) → ⊥
      asks same =
          false≢true
          (sym some
          ∙ ap₂ (λ (a b : Bool). a && b) (eq-eqb c.locator.length 0 same.0) ((bytes_eq-Decides c.locator.digest (sha256 [])).1 same.1))

      behind : (is_dangling c.status ≡ true) × ((length (copies_for all v.frames c) == 0) ≡ true)
      behind = and_parts (is_dangling c.status) (length (copies_for all v.frames c) == 0) parts.1

      dangles : is_dangling c.status ≡ true
      dangles = behind.0

      none : (spares_of all c ≡ []) × (loose_of all v.frames c ≡ [])
      none = both_nil (spares_of all c) (loose_of all v.frames c) (nil_from_no_length (copies_for all v.frames c) behind.1)

      -- an empty payload that isn't that of no bytes has no frame
      small : (s : Standing) → Stands image s → (s.length ≡ c.locator.length) × (s.digest ≡ c.locator.digest) →
          nat_lt 0 c.locator.length ≡ false → ⊥
      small s stands same short =
          let zero_long : c.locator.length ≡ 0 = grind (arith, nat_tests) in
          asks (zero_long, sym same.1 ∙ empty_frame image s stands (same.0 ∙ zero_long))

      not_among : (ss : List Standing) (s : Standing) → ss ≡ [] → Contains ss s → ⊥
      not_among ss s nil among = omega (arith, among.1, ap (λ (ts : List Standing). length ts) nil)

      no_chunk : (s : Standing) → Contains (frames all) s → (s.length ≡ c.locator.length) × (s.digest ≡ c.locator.digest) → (b : Bool) →
          nat_lt 0 c.locator.length ≡ b → ⊥
      no_chunk s among same false short =
          small s (All-contains (Stands image) (frames all) s (frames_stand image plan all whole) among) same short
      no_chunk s among same true long =
          let asks_some : asks_for_spares c ≡ true = ap₂ (λ (a b : Bool). a && b) dangles long in
          let spares_are : spares_of all c ≡ copies_of all c.locator = ap (λ (b : Bool). if b then copies_of all c.locator else []) asks_some in
          not_among (copies_of all c.locator) s (sym spares_are ∙ none.0)
          (Contains-filter (is_copy_of c.locator) (frames all) s (copy_from c.locator s same) among)

      no_frame : (s : Standing) → IsInUse image plan s → (s.length ≡ c.locator.length) × (s.digest ≡ c.locator.digest) → (b : Bool) →
          nat_lt 0 c.locator.length ≡ b → ⊥
      no_frame s used same false short = small s used.stands same short
      no_frame s used same true long =
          let asks_some : asks_for_spares c ≡ true = ap₂ (λ (a b : Bool). a && b) dangles long in
          let gone : is_gone all c ≡ true =
          ap₂ (λ (a : Bool) (ss : List Standing). a && length ss == 0) asks_some none.0 in
          let loose_are : loose_of all v.frames c ≡ filter (is_copy_of c.locator) v.frames =
          ap (λ (b : Bool). if b then filter (is_copy_of c.locator) v.frames else []) gone in
          let among : Contains v.frames s =
          (are.frames s).1 (record {
            searched = record { in_use = used.planned; stays = λ reset. absurd (omega (arith, reset.1)) };
            sparse = used.sparse;
            stands = used.stands;
          }) in
          not_among (filter (is_copy_of c.locator) v.frames) s (sym loose_are ∙ none.1)
          (Contains-filter (is_copy_of c.locator) v.frames s (copy_from c.locator s same) among)

  -- what is nowhere is lost
  pub lost : IsNowhere image plan all c → is_payload_lost all v.frames c ≡ true
  lost x =
      ap₂ (λ (a b : Bool). not a && b) some
      (ap₂ (λ (a : Bool) (ss : List Standing). a && length ss == 0) x.dangles (λ i. no_spares i ++ no_loose i))
    where
      some : asks_for_nothing c.locator ≡ false
      some =
          false_from_ne_true (asks_for_nothing c.locator)
          (λ e.
          let parts = and_parts (c.locator.length == 0) (bytes_eq c.locator.digest (sha256 [])) e in
          x.asks (equal c.locator.length 0 parts.0, (bytes_eq-Decides c.locator.digest (sha256 [])).0 parts.1))

      -- no frame among these is a copy
      none_in : (ss : List Standing) → HasNone (Contains ss) c.locator → filter (is_copy_of c.locator) ss ≡ []
      none_in ss none =
          filter_none (is_copy_of c.locator) ss
          (λ k d below.
          false_from_ne_true (is_copy_of c.locator (get_or ss k d))
          (λ e.
          let has = copy_has c.locator (get_or ss k d) e in
          none (get_or ss k d) (All-contains_itself ss k d below) (has.1, has.0)))

      if_any : (b : Bool) (ss : List Standing) → ss ≡ [] → (if b then ss else []) ≡ []
      if_any true ss nil = nil
      if_any false ss nil = refl

      no_spares : spares_of all c ≡ []
      no_spares = if_any (asks_for_spares c) (copies_of all c.locator) (none_in (frames all) x.no_chunk)

      no_loose : loose_of all v.frames c ≡ []
      no_loose =
          if_any (is_gone all c) (filter (is_copy_of c.locator) v.frames)
          (none_in v.frames
          (λ s among same.
          let loose = (are.frames s).0 among in
          x.no_frame s (record { planned = loose.searched.in_use; sparse = loose.sparse; stands = loose.stands }) same))

-- ---- the first that passes

module _ {X : Type 0} (p : X → Bool) (xs : List X) where
  -- an element before the first that passes doesn't
  not_before_first : (n k : ℕ) (x : X) → position p xs ≡ Some n → k < n → slice_get xs k ≡ Some x → p x ≡ true → ⊥
  not_before_first n k x is below at passes =
      false≢true (sym (fails_before_first p xs k x (omega (arith, below, first))) ∙ ap p (get_or_from_slice_get xs k x x at) ∙ passes)
    where
      by : (b : Bool) → cond b (Some (position_or_len p xs)) None ≡ Some n → position_or_len p xs ≡ n
      by false e = absurd (none-some n e)
      by true e = same_Some (position_or_len p xs) n e

      first : position_or_len p xs ≡ n
      first = by (nat_lt (position_or_len p xs) (length xs)) is

  -- an element that passes, and none before it, is the first
  first_is : (n : ℕ) (x : X) → slice_get xs n ≡ Some x → p x ≡ true →
      ((k : ℕ) (y : X) → k < n → slice_get xs k ≡ Some y → p y ≡ true → ⊥) → position p xs ≡ Some n
  first_is n x at passes none =
      ap (λ (m : ℕ). cond (nat_lt m (length xs)) (Some m) None) first ∙ cond-true (nat_lt n (length xs)) (Some n) None inside
    where
      within : n < length xs
      within = slice_get_within xs n x at

      inside : nat_lt n (length xs) ≡ true
      inside = let below : n < length xs = within in grind (arith, nat_tests)

      first : position_or_len p xs ≡ n
      first =
          position_or_len_is p xs n x (omega (arith, within))
          (λ k below.
          false_from_ne_true (p (get_or xs k x))
          (none k (get_or xs k x) below (slice_get-get_or xs k x (omega (arith, below, within)))))
          (λ inside. ap p (get_or_from_slice_get xs n x x at) ∙ passes)

-- ---- the law

lost_there : (given : Option (List Locator)) (image : Image) (id : ShardId) (number : ℕ) → IsShardAnswerFrom given image id (PayloadLost number) →
    IsLostInEntryFrom given image id number
lost_there given image id number x = by x.answer.2.own x.answer.2.checked x.answer.2.answer
  where
    by : (own : List Checked) → AreChecked image x.found.plan (named_by_shard x.answer.0) own →
        first_lost x.found.all x.answer.2.loose.frames own ≡ Some number → IsLostInEntryFrom given image id number
    by [] checked first = absurd (none_there first)
      where
        none_there : first_lost x.found.all x.answer.2.loose.frames [] ≡ Some number → ⊥
        none_there e = cc
    by (c ∷ cs) checked first =
        let whole = whole_scan given image x.found x.mapped in
        let v = x.answer.2.loose in
        let are = x.answer.2.are_loose in
        let at = first_passes (is_payload_lost x.found.all v.frames) (c ∷ cs) number c first in
        let one = get_or (c ∷ cs) number c in
        record {
          found = x.found;
          mapped = x.mapped;
          entry = x.answer.0;
          bound = x.answer.1;
          own = c ∷ cs;
          checked = checked;
          one = one;
          is = slice_get-get_or (c ∷ cs) number c at.0;
          nowhere = nowhere image x.found.plan x.found.all v whole are one at.1;
          first =
              λ k d below there none.
              not_before_first (is_payload_lost x.found.all v.frames) (c ∷ cs) number k d first below there
              (lost image x.found.plan x.found.all v whole are d none);
        }

there_lost : (given : Option (List Locator)) (image : Image) (id : ShardId) (number : ℕ) → IfSome given AreRunLocators →
    IsLostInEntryFrom given image id number → IsShardAnswerFrom given image id (PayloadLost number)
there_lost given image id number can y =
    let m = y.found in
    let v = some_loose [] image m.plan (plan_from_fits given [] image m.choice m.plan can y.mapped.choice y.mapped.plan) in
    let whole = whole_scan given image m y.mapped in
    record {
      found = m;
      mapped = y.mapped;
      answer = (
        y.entry,
        y.bound,
        record {
          own = y.own;
          checked = y.checked;
          loose = v.0;
          are_loose = v.1;
          answer =
              first_is (is_payload_lost m.all v.0.frames) y.own number y.one y.is (lost image m.plan m.all v.0 whole v.1 y.one y.nowhere)
              (λ k d below there passes. y.first k d below there (nowhere image m.plan m.all v.0 whole v.1 d passes));
        },
      );
    }

-- A payload is reported as lost exactly if it is the first of its entry that is nowhere.
pub lost_is_nowhere : (given : Option (List Locator)) (image : Image) (id : ShardId) (number : ℕ) → IfSome given AreRunLocators →
    IsShardAnswerFrom given image id (PayloadLost number) ↔ IsLostInEntryFrom given image id number
lost_is_nowhere given image id number can = (lost_there given image id number, there_lost given image id number can)
