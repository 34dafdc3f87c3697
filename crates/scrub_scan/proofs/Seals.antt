-- Items whose seals are compared later: how a tiling grows by them, and what is left of it once they were compared.
use Rattle.std.proofs.Common.{◌≡◌, ◌<◌, ◌≤◌, ◌+◌, ◌*◌, ◌/◌, ℕ, zero, suc, List, [], ◌∷◌, ◌++◌, All, length, take, drop, get_or, arith, refl, sym, ◌∙◌, ap, subst, inl, inr, Bool, true, false, Option, Some, None, IfSome, is_some, map, slice_set, append_assoc, append-nil}
use Rattle.std.specs.List.{AllZip}
use Rattle.std.proofs.Math.Nat.{mul-le-mul_right}
use Rattle.std.proofs.lemmas.Bool.{cases_lt}
use Rattle.std.proofs.lemmas.List.{get_or-map, get_or-take, length-map, length-take-le, length_push, take_all}
use Rattle.std.proofs.lemmas.List.Elements.{All-head, All-tail, AllZip-get_or, AllZip-push}
use Rattle.sha2.specs.Sha256.{sha256}
use Rattle.list_facts.proofs.Arithmetic.{div_rises}
use Rattle.list_facts.proofs.Slices.{drop_next}
use Rattle.scrub_disk.specs.Image.{Image}
use Rattle.scrub_scan.specs.declared.collected.Collected.{Collected}
use Rattle.scrub_scan.specs.declared.item.Item.{Item}
use Rattle.scrub_scan.specs.declared.pages.Target.{Target}
use Rattle.scrub_scan.specs.declared.payloads.Payloads.{Payloads}
use Rattle.scrub_scan.specs.declared.pages.TwoPages.{TwoPages}
use Rattle.scrub_scan.specs.Extent.{Extent}
use Rattle.scrub_scan.specs.steps.Gathering.{AgreesWith, Grows, Has, HasReadTo, IsCollected, IsItemIfSealed, IsLeft, IsSettled, IsTrustedAt, IsRightTo, RiseWithin, TiledTo, TilesIfSealed, seal_of, settled, settled_one, with_digest}
use Rattle.scrub_scan.specs.Item.{start_of, stop_of, IsItem}
use Rattle.scrub_scan.specs.Tiling.{Joins}
use Rattle.scrub_scan.proofs.Gathering.{length-settled_one, same_places, settled_one_is}
use Rattle.scrub_scan.proofs.ReadPages.{read_fewer}
use Rattle.scrub_scan.proofs.Tilings.{Joins-push, advances}

-- ---- numbers

-- numbers that rise are below their bound
pub numbers_below : (low high : ℕ) (numbers : List ℕ) → RiseWithin low high numbers → All (λ i. i < high) numbers
numbers_below low high [] h k d lt = absurd (omega (arith, lt))
numbers_below low high (i ∷ numbers) h zero d lt = h.1
numbers_below low high (i ∷ numbers) h (suc k) d lt = numbers_below (suc i) high numbers h.2 k d (omega (arith, lt))

-- and below a higher one
pub numbers_within : (low high more : ℕ) (numbers : List ℕ) → high ≤ more → RiseWithin low high numbers → RiseWithin low more numbers
numbers_within low high more [] le h = tt
numbers_within low high more (i ∷ numbers) le h = (h.0, omega (arith, h.1, le), numbers_within (suc i) high more numbers le h.2)

-- and from a lower one on
pub numbers_from : (less low high : ℕ) (numbers : List ℕ) → less ≤ low → RiseWithin low high numbers → RiseWithin less high numbers
numbers_from less low high [] le h = tt
numbers_from less low high (i ∷ numbers) le h = (omega (arith, h.0, le), h.1, h.2)

-- one more that is as high as the bound
pub numbers_push : (low high : ℕ) (numbers : List ℕ) → low ≤ high → RiseWithin low high numbers → RiseWithin low (high + 1) (numbers ++ high ∷ [])
numbers_push low high [] le h = (le, omega arith, tt)
numbers_push low high (i ∷ numbers) le h = (h.0, omega (arith, h.1), numbers_push (suc i) high numbers (omega (arith, h.1)) h.2)

-- the numbers of the items whose payloads are in the batch, after one more item
pub numbers_more : (items : List Item) (pending later : List ℕ) (gathered : Bool) → RiseWithin 0 (length items) pending
    → (gathered ≡ true → later ≡ pending ++ length items ∷ []) → (gathered ≡ false → later ≡ pending)
    → RiseWithin 0 (length items + 1) later
numbers_more items pending later true rise more same =
    rw (more refl) (numbers_push 0 (length items) pending (omega arith) rise)
numbers_more items pending later false rise more same =
    rw (same refl) (numbers_within 0 (length items) (length items + 1) pending (omega arith) rise)

-- ---- items in front of those whose digests are put in

settled_one_front : (j : ℕ) (items : List Item) (i : ℕ) (digest : List ℕ) → j ≤ i → take j (settled_one items i digest) ≡ take j items
settled_one_front zero items i digest le = refl
settled_one_front (suc j) [] i digest le = refl
settled_one_front (suc j) (item ∷ items) zero digest le = absurd (omega (arith, le))
settled_one_front (suc j) (item ∷ items) (suc i) digest le = ap (λ xs. item ∷ xs) (settled_one_front j items i digest (omega (arith, le)))

pub settled_front : (j high : ℕ) (items : List Item) (pending : List ℕ) (payloads : List (List ℕ)) → RiseWithin j high pending
    → take j (settled items pending payloads) ≡ take j items
settled_front j high items [] payloads h = refl
settled_front j high items (i ∷ pending) [] h = refl
settled_front j high items (i ∷ pending) (payload ∷ payloads) h =
    settled_front j high (settled_one items i (sha256 payload)) pending payloads (numbers_from j (suc i) high pending (omega (arith, h.0)) h.2)
    ∙ settled_one_front j items i (sha256 payload) h.0

settled_one_at : (items : List Item) (i : ℕ) (item d : Item) (digest : List ℕ) → i < length items → get_or items i item ≡ item
    → get_or (settled_one items i digest) i d ≡ with_digest item digest
settled_one_at [] i item d digest lt is = absurd (omega (arith, lt))
settled_one_at (first ∷ items) zero item d digest lt is = ap (λ x. with_digest x digest) is
settled_one_at (first ∷ items) (suc i) item d digest lt is = settled_one_at items i item d digest (omega (arith, lt)) is

-- the first of those has its digest in the end
settled_at : (high : ℕ) (items : List Item) (i : ℕ) (item d : Item) (pending : List ℕ) (payload : List ℕ) (payloads : List (List ℕ))
    → i < length items → get_or items i item ≡ item → RiseWithin (suc i) high pending
    → get_or (settled items (i ∷ pending) (payload ∷ payloads)) i d ≡ with_digest item (sha256 payload)
settled_at high items i item d pending payload payloads lt is h =
    let one = settled_one items i (sha256 payload) in
    sym (get_or-take (suc i) (settled one pending payloads) i d (omega arith))
    ∙ ap (λ xs. get_or xs i d) (settled_front (suc i) high one pending payloads h)
    ∙ get_or-take (suc i) one i d (omega arith) ∙ settled_one_at items i item d (sha256 payload) lt is

-- ---- what is left of a tiling

module _ (x : Extent) (from : Option ℕ) where
  -- items join at places that don't fall
  joins_up : (a w : ℕ) (items done : List Item) → AllZip (IsItemIfSealed x from) items done → Joins a w done → a ≤ w
  joins_up a w [] [] each joined = omega (arith, joined)
  joins_up a w [] (fin ∷ done) each joined = absurd each
  joins_up a w (item ∷ items) [] each joined = absurd each
  joins_up a w (item ∷ items) (fin ∷ done) each joined =
      omega (arith, joined.0, each.0.rises, joins_up (stop_of fin) w items done each.1 joined.1)

  -- those in front of one of them join up to where it begins
  joins_front : (a w : ℕ) (items done : List Item) (i : ℕ) (item : Item) → AllZip (IsItemIfSealed x from) items done → Joins a w done
      → i < length items → get_or items i item ≡ item → Joins a (start_of item) (take i done) × (start_of item ≤ w)
  joins_front a w [] done i item each joined lt is = absurd (omega (arith, lt))
  joins_front a w (first ∷ items) [] i item each joined lt is = absurd each
  joins_front a w (first ∷ items) (fin ∷ done) zero item each joined lt is =
      let here : start_of item ≡ a = ap start_of (sym is) ∙ sym each.0.place ∙ joined.0 in
      (sym here, omega (arith, here, joins_up a w (first ∷ items) (fin ∷ done) each joined))
  joins_front a w (first ∷ items) (fin ∷ done) (suc i) item each joined lt is =
      let rest = joins_front (stop_of fin) w items done i item each.1 joined.1 (omega (arith, lt)) is in
      ((joined.0, rest.0), rest.1)

  -- items that are what they will be are those of the extent
  right_front : (items done : List Item) (i : ℕ) → AllZip (IsItemIfSealed x from) items done → i ≤ length items
      → take i done ≡ take i items → All (IsItem x) (take i items)
  right_front items done i each le same k d lt =
      let size = length-take-le i items le in
      let below : k < i = omega (arith, lt, size) in
      let one = AllZip-get_or (IsItemIfSealed x from) items done k d d each (omega (arith, below, le)) in
      let is : get_or done k d ≡ get_or items k d =
      sym (get_or-take i done k d below) ∙ ap (λ xs. get_or xs k d) same ∙ get_or-take i items k d below in
      subst (IsItem x) (is ∙ sym (get_or-take i items k d below)) (one.right (ap seal_of is))

  -- a digest that agrees with the item's seal
  one_settled : (items done : List Item) (i : ℕ) (item : Item) (digest : List ℕ) → AllZip (IsItemIfSealed x from) items done
      → i < length items → get_or items i item ≡ item → get_or done i item ≡ with_digest item digest → AgreesWith item digest
      → AllZip (IsItemIfSealed x from) (settled_one items i digest) done
  one_settled [] done i item digest each lt is will agrees = absurd (omega (arith, lt))
  one_settled (first ∷ items) [] i item digest each lt is will agrees = absurd each
  one_settled (first ∷ items) (fin ∷ done) zero item digest each lt is will agrees =
      let now : fin ≡ with_digest first digest = will ∙ ap (λ y. with_digest y digest) (sym is) in (
        record {
          place = ap start_of now;
          rises = each.0.rises;
          right = λ _. each.0.right (ap seal_of will ∙ agrees ∙ ap seal_of (sym is));
          trusted = λ no. absurd (no (ap seal_of now));
        },
        each.1,
      )
  one_settled (first ∷ items) (fin ∷ done) (suc i) item digest each lt is will agrees =
      (each.0, one_settled items done i item digest each.1 (omega (arith, lt)) is will agrees)

  -- the digest of the first of those items is put in, and agrees
  pub tiles_next : (place : ℕ) (items : List Item) (i : ℕ) (item : Item) (pending : List ℕ) (payload : List ℕ) (payloads : List (List ℕ))
      → TilesIfSealed x place from items (i ∷ pending) (payload ∷ payloads) → get_or items i item ≡ item
      → AgreesWith item (sha256 payload) → TilesIfSealed x place from (settled_one items i (sha256 payload)) pending payloads
  tiles_next place items i item pending payload payloads h is agrees =
      let size = length-settled_one items i (sha256 payload) in
      record {
        numbers = rw size (numbers_from 0 (suc i) (length items) pending (omega arith) h.numbers.2);
        count = omega (arith, h.count);
        joined = h.joined;
        each =
            one_settled items (settled items (i ∷ pending) (payload ∷ payloads)) i item (sha256 payload) h.each h.numbers.1 is
            (settled_at (length items) items i item item pending payload payloads h.numbers.1 is h.numbers.2) agrees;
        within = h.within;
      }

  -- it doesn't agree: what is in front of the item is left
  pub tiles_front : (place : ℕ) (items : List Item) (i : ℕ) (item : Item) (pending : List ℕ) (payload : List ℕ) (payloads : List (List ℕ))
      → TilesIfSealed x place from items (i ∷ pending) (payload ∷ payloads) → get_or items i item ≡ item
      → ¬ AgreesWith item (sha256 payload)
      → TiledTo x (start_of item) (take i items) × IsRightTo place from (start_of item)
  tiles_front place items i item pending payload payloads h is wrong =
      let done = settled items (i ∷ pending) (payload ∷ payloads) in
      let lt = h.numbers.1 in
      let same = settled_front i (length items) items (i ∷ pending) (payload ∷ payloads) (omega arith, h.numbers.1, h.numbers.2) in
      let front = joins_front 0 place items done i item h.each h.joined lt is in
      let one = AllZip-get_or (IsItemIfSealed x from) items done i item item h.each lt in
      let will = settled_at (length items) items i item item pending payload payloads lt is h.numbers.2 in (
        record {
          joined = rw same at front.0;
          each = right_front items done i h.each (omega (arith, lt)) same;
          within = omega (arith, front.1, h.within);
        },
        (
          front.1,
          λ _. subst (λ y. IsTrustedAt from (start_of y)) is (one.trusted (λ e. wrong (sym (ap seal_of will) ∙ e ∙ ap seal_of is))),
        ),
      )

  -- none is left to be put in
  pub tiles_all : (place : ℕ) (items : List Item) → TilesIfSealed x place from items [] [] → TiledTo x place items
  tiles_all place items h =
      let all = take_all (length items) items (omega arith) in
      record { joined = h.joined; each = rw all at (right_front items items (length items) h.each (omega arith) refl); within = h.within }

  -- the same, as the code goes over them
  module _ (place : ℕ) (items : List Item) (pending : List ℕ) (payloads digests : List (List ℕ)) (k i : ℕ) (item : Item) (digest other : List ℕ)
      (h : TilesIfSealed x place from items (drop k pending) (drop k payloads)) (all : digests ≡ map sha256 payloads)
      (low : k < length pending) (low_d : k < length digests) (at : i ≡ get_or pending k 0) (there : item ≡ get_or items i item)
      (digest_at : digest ≡ get_or digests k other) where
    low_p : k < length payloads
    low_p = omega (arith, low_d, ap length all, length-map payloads sha256)

    its_first : TilesIfSealed x place from items (i ∷ drop (k + 1) pending) (get_or payloads k [] ∷ drop (k + 1) payloads)
    its_first =
        subst (λ n. TilesIfSealed x place from items (n ∷ drop (k + 1) pending) (get_or payloads k [] ∷ drop (k + 1) payloads)) (sym at)
        (subst (λ ns. TilesIfSealed x place from items ns (get_or payloads k [] ∷ drop (k + 1) payloads)) (drop_next pending k 0 low)
        (subst (λ ps. TilesIfSealed x place from items (drop k pending) ps) (drop_next payloads k [] low_p) h))

    its_digest : digest ≡ sha256 (get_or payloads k [])
    its_digest = digest_at ∙ ap (λ xs. get_or xs k other) all ∙ get_or-map sha256 payloads k [] other low_p

    -- If the k-th digest agrees with the seal of its item, the items tile as before once it is put in.
    pub put_one : AgreesWith item digest
        → TilesIfSealed x place from (slice_set items i (with_digest item digest)) (drop (k + 1) pending) (drop (k + 1) payloads)
    put_one agrees =
        subst (λ xs. TilesIfSealed x place from xs (drop (k + 1) pending) (drop (k + 1) payloads))
        (ap (settled_one items i) (sym its_digest) ∙ sym (settled_one_is items i item digest its_first.numbers.1 (sym there)))
        (tiles_next place items i item (drop (k + 1) pending) (get_or payloads k []) (drop (k + 1) payloads) its_first (sym there)
        (subst (AgreesWith item) its_digest agrees))

    -- If the k-th digest doesn't agree, the items before its item tile the extent up to that item's start.
    pub put_none : ¬ AgreesWith item digest → TiledTo x (start_of item) (take i items) × IsRightTo place from (start_of item)
    put_none wrong =
        tiles_front place items i item (drop (k + 1) pending) (get_or payloads k []) (drop (k + 1) payloads) its_first (sym there)
        (λ agrees. wrong (subst (AgreesWith item) (sym its_digest) agrees))

  -- ---- how it grows

  -- an item after the others
  pub tiles_more : (p stop : ℕ) (items : List Item) (pending later : List ℕ) (payloads : List (List ℕ)) (item : Item) (digest : List ℕ)
      → TilesIfSealed x p from items pending payloads → start_of item ≡ p → p ≤ stop → stop ≡ stop_of item → stop ≤ x.pointer
      → (AgreesWith item digest → IsItem x (with_digest item digest)) → (¬ AgreesWith item digest → IsTrustedAt from p)
      → RiseWithin 0 (length items + 1) later → (more : List (List ℕ)) → length later ≡ length more
      → settled (items ++ item ∷ []) later more ≡ settled items pending payloads ++ with_digest item digest ∷ []
      → TilesIfSealed x stop from (items ++ item ∷ []) later more
  tiles_more p stop items pending later payloads item digest h starts rises stops within right trusted numbers more count is =
      let done = settled items pending payloads in
      let fin = with_digest item digest in
      let places = same_places item digest in
      record {
        numbers = rw (length_push items item) numbers;
        count = count;
        joined =
            rw (is, stops, sym places.1)
            (Joins-push 0 done fin (rw (places.0 ∙ starts) h.joined));
        each =
            rw is
            (AllZip-push (IsItemIfSealed x from) items done item fin h.each
            (record {
              place = places.0;
              rises = omega (arith, places.0, places.1, starts, rises, stops);
              right = right;
              trusted = λ no. rw starts (trusted no);
            }));
        within = within;
      }

-- nothing is pending yet
pub tiles_none : (x : Extent) (place : ℕ) (from : Option ℕ) (items : List Item) → 0 < x.page → TiledTo x place items → TilesIfSealed x place from items [] []
tiles_none x place from items positive h = record {
  numbers = tt;
  count = refl;
  joined = h.joined;
  each = same items (λ k d lt. h.each k d lt);
  within = h.within;
}
  where
    rises : (y : Item) → IsItem x y → start_of y ≤ stop_of y
    rises y is = omega (arith, (advances x y positive is).0)

    same : (ys : List Item) → All (IsItem x) ys → AllZip (IsItemIfSealed x from) ys ys
    same [] each = tt
    same (y ∷ ys) each = (
      record { place = refl; rises = rises y (All-head (IsItem x) y ys each); right = λ _. All-head (IsItem x) y ys each; trusted = λ no. absurd (no refl) },
      same ys (All-tail (IsItem x) y ys each),
    )

-- seals are trusted from here on
pub tiles_trusted : (x : Extent) (place : ℕ) (from later : Option ℕ) (items : List Item) (pending : List ℕ) (payloads : List (List ℕ)) → from ≡ None
    → TilesIfSealed x place from items pending payloads → TilesIfSealed x place later items pending payloads
tiles_trusted x place from later items pending payloads none h = record {
  numbers = h.numbers;
  count = h.count;
  joined = h.joined;
  each = same items (settled items pending payloads) h.each;
  within = h.within;
}
  where
    never : (p : ℕ) → IsTrustedAt from p → IsTrustedAt later p
    never p h = absurd (rw none at h)

    same : (xs ys : List Item) → AllZip (IsItemIfSealed x from) xs ys → AllZip (IsItemIfSealed x later) xs ys
    same [] [] each = tt
    same [] (y ∷ ys) each = absurd each
    same (z ∷ xs) [] each = absurd each
    same (z ∷ xs) (y ∷ ys) each = (
      record { place = each.0.place; rises = each.0.rises; right = each.0.right; trusted = λ no. never (start_of z) (each.0.trusted no) },
      same xs ys each.1,
    )

-- ---- as the collection has it

-- what is said of a value holds if there is none
pub if_none : (from : Option ℕ) (P : ℕ → Type 0) → from ≡ None → IfSome from P
if_none None P none = tt
if_none (Some s) P none = absurd (some_none s none)
  where
    some_none : (a : ℕ) → Some a ≡ None → ⊥
    some_none a e = cc

-- what is settled is collected
pub settled_collected : (x : Extent) (place : ℕ) (p : Payloads) (c : Collected) → 0 < x.page → IsSettled x place p c → IsCollected x place p c
settled_collected x place p c positive h = record {
  before = h.before;
  payloads = [];
  has = subst (Has p) (sym (append-nil h.before)) h.has;
  first = h.first;
  tiles = rw h.none (tiles_none x place c.trusted_from c.items.items positive h.tiled);
  trusted = if_none c.trusted_from (λ first. first ≤ place) h.untrusted;
}

-- what is collected is left
pub collected_left : (x : Extent) (place : ℕ) (p : Payloads) (c : Collected) → IsCollected x place p c → IsLeft x place p c
collected_left x place p c h = record {
  before = h.before;
  payloads = h.payloads;
  after = [];
  has = subst (λ (xs : List (List ℕ)). Has p (h.before ++ xs)) (sym (append-nil h.payloads)) h.has;
  first = h.first;
  tiles = h.tiles;
}

-- and so it is when payloads were added
pub collected_grown : (x : Extent) (place : ℕ) (p q : Payloads) (c : Collected) → IsCollected x place p c → Grows p q → IsLeft x place q c
collected_grown x place p q c h grows =
    let more = grows (h.before ++ h.payloads) h.has in
    record {
      before = h.before;
      payloads = h.payloads;
      after = more.0;
      has = subst (Has q) (append_assoc h.before h.payloads more.0) more.1;
      first = h.first;
      tiles = h.tiles;
    }

-- where a digest may disagree with a seal, seals are trusted
pub trusted_at : (from : Option ℕ) (place : ℕ) (trusts : Bool) (A : Type 0) → trusts ≡ is_some from → IfSome from (λ s. s ≤ place)
    → (trusts ≡ false → A) → ¬ A → IsTrustedAt from place
trusted_at None place trusts A is le compared wrong = absurd (wrong (compared is))
trusted_at (Some s) place trusts A is le compared wrong = le

-- what was asked for before a return to a place at which seals are trusted
return_at : (from : Option ℕ) (right asked page k : ℕ) → 0 < page → IfSome from (λ s. asked ≤ s / page * k)
    → IsTrustedAt from right → asked ≤ right / page * k
return_at None right asked page k positive h at = absurd at
return_at (Some s) right asked page k positive h at =
    let up : s / page * k ≤ right / page * k = mul-le-mul_right k (div_rises s right page positive at) in
    omega (arith, h, up)

-- the tiling can go on from there
pub read_to : (image : Image) (t : Target) (p : TwoPages) (from : Option ℕ) (place right : ℕ) → HasReadTo image t p place
    → IfSome from (λ s. p.asked ≤ s / t.page * (image.geometry.pages + 5)) → IsRightTo place from right → HasReadTo image t p right
read_to image t p from place right h costs is = elim (cases_lt right place) [
  | inl less ↦
      let back = return_at from right p.asked t.page (image.geometry.pages + 5) t.positive costs (is.1 less) in
      record {
        asked = h.asked;
        read = read_fewer p (place / t.page) (right / t.page) (div_rises right place t.page t.positive is.0) h.read;
        next = λ _. record { most = omega (arith, back); unread = λ _. back };
      }
  | inr same ↦ let e : place ≡ right = omega (arith, same, is.0) in subst (HasReadTo image t p) e h
]
