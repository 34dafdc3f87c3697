-- What is seen of each page of extent 0, and how far records reach, one page at a time.
use Rattle.std.proofs.Common.{◌≡◌, ◌<◌, ◌≤◌, ◌+◌, ◌*◌, ◌-◌, ◌↔◌, ℕ, suc, List, [], ◌∷◌, ◌++◌, Bool, true, false, not, IsTrue, length, take, get_or, set, arith, refl, sym, ◌∙◌, ap, Some, None, inl, inr, max, min, slice_get, length-append, length-set, length-take, nat_lt, if◌then◌else◌}
use Rattle.std.proofs.lemmas.Bool.{cases_lt, cases_eq, false≢true, le-ltb, ltb-true, lt-ltb}
use Rattle.std.proofs.lemmas.List.{get_or-set_same, get_or-set_other, get_or_append_left, get_or_push}
use Rattle.std.proofs.lemmas.Option.{slice_get_within, slice_get-get_or, get_or_from_slice_get}
use Rattle.std.proofs.Math.Nat.{le-max_left, le-max_right, max-eq_left, max-eq_right, min-eq_left, mul-le-mul_right, suc-mul}
use Rattle.scrub_disk.specs.Image.{Image}
use Rattle.scrub_super.specs.declared.bytes_from.BytesFrom.{BytesFrom}
use Rattle.scrub_super.specs.declared.pages.PageRecord.{PageRecord}
use Rattle.scrub_super.specs.declared.pages.SeenPage.{SeenPage}
use Rattle.scrub_super.specs.declared.pages.SuperblockPage.{SuperblockPage}
use Rattle.scrub_super.specs.Pages.{AreHeldBytes, HasStrayByte, IsHeldByte, IsSuperblockPage}
use Rattle.scrub_super.specs.steps.BytesFrom.{HoldsBytesFrom}
use Rattle.scrub_super.specs.steps.PagesFound.{IsFoundOnPage, IsKnownOfPage, IsRecordReach, IsSeenPage, IsUsedTo}
use Rattle.scrub_super.proofs.Laws.{one_record_on_page}

-- ---- what is seen

-- the bytes of the page that was read last, none if it can't be read
pub page_seen : {image : Image} {q : ℕ} {held : BytesFrom} {bytes : List ℕ} → HoldsBytesFrom image q held →
    q < image.geometry.pages → bytes ≡ take (min image.geometry.page held.length) held.bytes.items →
    (empty : Bool) → IsTrue empty ↔ (length bytes ≡ 0) → image.page 0 q ≡ (if not empty then Some bytes else None)
page_seen {image} {q} {held} {bytes} h here is empty e = elim (cases_lt 0 held.length) [
  | inl some ↦ filled some empty e
  | inr none ↦ lost (omega (arith, none)) empty e
]
  where
    many : length bytes ≡ min image.geometry.page held.length
    many = omega (arith, ap length is, length-take (min image.geometry.page held.length) held.bytes.items, h.short)

    filled : 0 < held.length → (b : Bool) → IsTrue b ↔ (length bytes ≡ 0) →
        image.page 0 q ≡ (if not b then Some bytes else None)
    filled some true e = absurd (omega (arith, e.0 refl, many, some, image.geometry.page_least))
    filled some false e =
        (rw (lt-ltb 0 held.length some) at (h.page_is here))
        ∙ ap Some (sym (is ∙ ap (λ n. take n held.bytes.items) (min-eq_left (h.whole some))))

    lost : held.length ≡ 0 → (b : Bool) → IsTrue b ↔ (length bytes ≡ 0) →
        image.page 0 q ≡ (if not b then Some bytes else None)
    lost none true e = rw none at (h.page_is here)
    lost none false e = absurd (false≢true (e.1 (omega (arith, many, none))))

-- one more page is seen
pub seen_more : (image : Image) (pages : List SeenPage) {p q n : ℕ} (page : SeenPage) → p ≡ q + 1 → length pages ≡ n → q < n →
    IsSeenPage image q page →
    ((r : ℕ) (seen : SeenPage) → p ≤ r → slice_get pages r ≡ Some seen → IsSeenPage image r seen) →
    (r : ℕ) (seen : SeenPage) → q ≤ r → slice_get (set pages q page) r ≡ Some seen → IsSeenPage image r seen
seen_more image pages {p} {q} {n} page hp hn here is later r seen low at = elim (cases_eq r q) [
  | inl e ↦
      rw (e, sym (get_or_from_slice_get (set pages q page) r seen page at) ∙ ap (λ m. get_or (set pages q page) m page) e ∙ get_or-set_same pages q page page (omega (arith, here, hn))) is
  | inr other ↦
      let within : r < length pages = omega (arith, slice_get_within (set pages q page) r seen at, length-set pages q page) in
      let there : get_or pages r seen ≡ seen =
      sym (get_or-set_other pages q r page seen other) ∙ get_or_from_slice_get (set pages q page) r seen seen at in
      later r seen (omega (arith, low, other, hp)) (slice_get-get_or pages r seen within ∙ ap Some there)
]

-- ---- how far records reach

module _ {image : Image} {q reach : ℕ} (h : IsRecordReach image q reach) where
  -- With a record on page q, records reach to its end, or as far as before if that is more.
  pub reach_more : {new : ℕ} {f : PageRecord} → new ≡ max reach f.to → IsFoundOnPage image q (Some f) →
      IsRecordReach image (q + 1) new
  reach_more {new} {f} is at = record {
    ends = λ r c low s. elim (cases_lt r q) [
      | inl before ↦ omega (arith, h.ends r c before s, le-max_left reach f.to, is)
      | inr here ↦
          let e : r ≡ q = omega (arith, low, here) in
          let same : c ≡ at.0 = one_record_on_page image q c at.0 (rw e at s) at.1 in
          rw (e, same) (omega (arith, le-max_right reach f.to, is, at.2.to))
    ];
    reached = λ i low. elim (cases_lt i reach) [
      | inl before ↦ let x = h.reached i before in (x.0, omega (arith, x.1), x.2)
      | inr past ↦ (
        q,
        omega arith,
        (at.0, at.1, omega (arith, low, past, is, at.2.to, max-eq_right {n = reach} {m = f.to} (to_reaches i low past))),
      )
    ];
  }
    where
      to_reaches : (i : ℕ) → i < new → reach ≤ i → reach ≤ f.to
      to_reaches i low past = elim (cases_lt f.to reach) [
        | inl less ↦
            absurd (omega (arith, low, past, is, max-eq_left {n = reach} {m = f.to} (omega (arith, less))))
        | inr more ↦ more
      ]

  -- Without a record on page q, records reach as far as before.
  pub reach_kept : IsFoundOnPage image q None → IsRecordReach image (q + 1) reach
  reach_kept none = record {
    ends = λ r c low s. elim (cases_lt r q) [
      | inl before ↦ h.ends r c before s
      | inr here ↦ let e : r ≡ q = omega (arith, low, here) in absurd (none (c, rw e at s))
    ];
    reached = λ i low. let x = h.reached i low in (x.0, omega (arith, x.1), x.2);
  }

-- ---- which bytes records hold

module _ (q : ℕ) {image : Image} {reach : ℕ} (r : IsRecordReach image (q + 1) reach) where
  -- a byte of page q that records reach is held
  pub held_below : (k : ℕ) → q * image.geometry.page + k < reach → IsHeldByte image (q * image.geometry.page + k)
  held_below k low =
      let x = r.reached (q * image.geometry.page + k) low in
      record {
        start = x.0;
        contents = x.2.0;
        stands = x.2.1;
        from =
            omega (arith, mul-le-mul_right {m = x.0} {n = q} image.geometry.page (omega (arith, x.1)));
        to = x.2.2;
      }

  -- and no other one is
  pub below_held : (k : ℕ) → k < image.geometry.page → IsHeldByte image (q * image.geometry.page + k) →
      q * image.geometry.page + k < reach
  below_held k within h = omega (arith, h.to, r.ends h.start h.contents before h.stands)
    where
      next : suc q * image.geometry.page ≡ q * image.geometry.page + image.geometry.page
      next = suc-mul q image.geometry.page

      before : h.start < q + 1
      before = elim (cases_lt h.start (q + 1)) [
        | inl less ↦ less
        | inr more ↦
            absurd
            (omega (arith, within, h.from, next, mul-le-mul_right {m = suc q} {n = h.start} image.geometry.page (omega (arith, more))))
      ]

  -- the same of the first byte
  pub first_held : IsTrue (nat_lt (q * image.geometry.page) reach) ↔ IsHeldByte image (q * image.geometry.page)
  first_held = (
    (λ less. rw first at (held_below 0 (omega (arith, ltb-true (q * image.geometry.page) reach less)))),
    (λ h. lt-ltb (q * image.geometry.page) reach (omega (arith, below_held 0 (omega (arith, image.geometry.page_least)) (rw (sym first) at h)))),
  )
    where
      first : q * image.geometry.page + 0 ≡ q * image.geometry.page
      first = omega arith

  -- The page has a stray byte if its last byte other than zero is past the reach.
  stray_by : {bytes : List ℕ} {start used : ℕ} → start ≡ q * image.geometry.page → length bytes ≤ image.geometry.page →
      IsUsedTo bytes used → HasStrayByte image q bytes (nat_lt (reach - start) used)
  stray_by {bytes} {start} {used} hs fits to = elim (cases_lt (reach - start) used) [
    | inl past ↦
        rw (lt-ltb (reach - start) used past) (λ (are : AreHeldBytes image q bytes).
        let within : used - 1 < length bytes = omega (arith, past, to.within) in
        let held = are (used - 1) (get_or bytes (used - 1) 0) (slice_get-get_or bytes (used - 1) 0 within) (to.last (omega (arith, past))) in
        absurd (omega (arith, below_held (used - 1) (omega (arith, within, fits)) held, past, hs)))
    | inr short ↦
        rw (le-ltb (reach - start) used short) (λ k b is nonzero. elim (cases_lt k used) [
          | inl low ↦ held_below k (omega (arith, low, short, hs))
          | inr high ↦
              absurd
              (nonzero (sym (get_or_from_slice_get bytes k b 0 is) ∙ to.zeros k high (slice_get_within bytes k b is)))
        ])
  ]

-- what is known of a page from the reach of the records up to it
pub known_of : {image : Image} {q start reach past : ℕ} {page : SeenPage} → IsSeenPage image q page →
    start ≡ q * image.geometry.page → past ≡ reach - start → IsRecordReach image (q + 1) reach →
    IsKnownOfPage image q page (nat_lt start reach) (nat_lt past page.used)
known_of {q = q} seen hs hp r = record {
  seen = seen;
  held_is = rw hs (first_held q r);
  stray_is = rw hp (stray_by q r hs seen.fits seen.used);
}

-- ---- what the pages hold

-- one more page, with those before it
pub each_more : (image : Image) (old : List SuperblockPage) {new : List SuperblockPage} {q : ℕ} (page : SuperblockPage) →
    length old ≡ q → new ≡ old ++ page ∷ [] →
    ((r : ℕ) (p : SuperblockPage) → slice_get old r ≡ Some p → IsSuperblockPage image r p) →
    IsSuperblockPage image q page →
    (r : ℕ) (p : SuperblockPage) → slice_get new r ≡ Some p → IsSuperblockPage image r p
each_more image old {new} {q} page hq hn each here r p is = elim (cases_lt r q) [
  | inl before ↦
      let low : r < length old = omega (arith, before, hq) in
      each r p (slice_get-get_or old r p low ∙ ap Some (sym (get_or_append_left old (page ∷ []) p r low) ∙ there))
  | inr past ↦
      let last : r ≡ length old =
      omega (arith, past, hq, slice_get_within new r p is, ap length hn, length-append old (page ∷ [])) in
      let known : page ≡ p = sym (get_or_push old page p r (sym last)) ∙ there in
      rw (last ∙ hq, sym known) here
]
  where
    there : get_or (old ++ page ∷ []) r p ≡ p
    there = rw hn at (get_or_from_slice_get new r p p is)
