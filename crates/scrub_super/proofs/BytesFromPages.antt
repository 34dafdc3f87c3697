-- The search in extent 0 from its last page to its first: the bytes from a page on, and what is found there.
use Rattle.std.proofs.Common.{◌≡◌, ◌<◌, ◌≤◌, ◌+◌, ◌*◌, ◌-◌, ◌/◌, ℕ, List, [], Bool, false, eqb, filter, is_none, not, length, length-set, take, drop, get_or, set, arith, refl, sym, ◌∙◌, ap, subst, Option, Some, None, inl, inr, MatchOption, option_map, min, length-append, length-take}
use Rattle.std.specs.List.{range_with_len}
use Rattle.std.proofs.lemmas.Bool.{cases_lt, le-ltb, lt-ltb}
use Rattle.std.proofs.lemmas.Option.{same_Some, none-some}
use Rattle.std.proofs.lemmas.Grind.{get_or-set_at, same_number_lists}
use Rattle.std.proofs.lemmas.List.{get_or_append_left, get_or-set_other, get_or-take, length-take-le}
use Rattle.std.proofs.lemmas.List.Prefix.{front_from_reads}
use Rattle.std.proofs.Math.Nat.{mul-le-mul_right, mul-div_cancel}
use Rattle.scrub_disk.specs.declared.geometry.Geometry.{Geometry}
use Rattle.list_facts.proofs.Filters.{filter_range-agree}
use Rattle.scrub_disk.specs.Buffered.{pages_without}
use Rattle.scrub_disk.specs.Image.{Image, image_byte, extent_bytes, unreadable_pages}
use Rattle.scrub_disk.proofs.HeldBytes.{byte-page, byte-unreadable}
use Rattle.scrub_super.specs.declared.bytes_from.BytesFrom.{BytesFrom}
use Rattle.scrub_super.specs.declared.choosing.Newest.{Newest}
use Rattle.scrub_super.specs.declared.choosing.RecordsSeen.{RecordsSeen}
use Rattle.scrub_super.specs.declared.choosing.Search.{Search}
use Rattle.scrub_super.specs.declared.choosing.Searched.{Searched}
use Rattle.scrub_super.specs.Contents.{Contents}
use Rattle.scrub_super.specs.Record.{AreContents, BeginsWithRecord, record_bytes}
use Rattle.scrub_super.specs.Chosen.{IsChoice, RecordStandsAt}
use Rattle.scrub_super.specs.steps.BytesFrom.{longest_record, AreBytesFrom, HasFoundFrom, HoldsBytesFrom, IsReadInFront, IsSearchedFrom}
use Rattle.scrub_super.specs.steps.RecordsSeen.{StandsFrom, AreSeenFrom, AddsRecord}
use Rattle.scrub_super.proofs.Choices.{choice_at, choice_without}
use Rattle.scrub_super.proofs.Fronts.{head_sizes}
use Rattle.scrub_super.proofs.Listed.{count_in, few_listed}
use Rattle.scrub_super.proofs.OneRecord.{one_record_lem}
use Rattle.scrub_super.proofs.RecordParts.{length_record, some_bytes}
use Rattle.scrub_super.proofs.RecordsSeenSteps.{found_none, found_more}

-- no record is longer than the longest
length_most : {g : Geometry} {c : Contents} → AreContents g c → length (record_bytes g c) ≤ longest_record g
length_most {g} {c} h =
    omega (arith, length_record h, head_sizes (count_in c), few_listed g c.retired h.retired, h.run_count)

-- ---- the record that the bytes from a page on begin with

module _ {image : Image} {q : ℕ} {bytes : List ℕ} (h : AreBytesFrom image q bytes) where
  -- it is on the page,
  pub stands_of_bytes : {c : Contents} → BeginsWithRecord image.geometry bytes c → RecordStandsAt image q c
  stands_of_bytes {c} b = record {
    within = below;
    contents = b.contents;
    stands = λ k hk.
        h.there k (omega (arith, hk, enough))
        ∙ ap Some (rw b.spelled (get_or_append_left (record_bytes image.geometry c) b.rest 0 k hk));
  }
    where
      enough : length (record_bytes image.geometry c) ≤ length bytes
      enough = omega (arith, ap length b.spelled, length-append (record_bytes image.geometry c) b.rest)

      below : q < image.geometry.pages
      below = elim (cases_lt q image.geometry.pages) [
        | inl low ↦ low
        | inr high ↦
            absurd
            (omega (
              arith,
              enough,
              some_bytes image.geometry c,
              h.within,
              mul-le-mul_right {m = image.geometry.pages} {n = q} image.geometry.page high,
            ))
      ]

  -- and they begin with that on the page
  pub bytes_of_stands : {c : Contents} → RecordStandsAt image q c → BeginsWithRecord image.geometry bytes c
  bytes_of_stands {c} s = record {
    contents = s.contents;
    rest = drop (length (record_bytes image.geometry c)) bytes;
    spelled =
        front_from_reads 0 bytes (record_bytes image.geometry c) enough
        (λ i hi. same_Some _ _ (sym (h.there i (omega (arith, hi, enough))) ∙ s.stands i hi));
  }
    where
      enough : length (record_bytes image.geometry c) ≤ length bytes
      enough = elim (cases_lt (length bytes) (length (record_bytes image.geometry c))) [
        | inl longer ↦
            absurd
            (none-some _ (sym (h.enough (omega (arith, longer, length_most s.contents))) ∙ s.stands (length bytes) longer))
        | inr fits ↦ fits
      ]

  -- ---- one page down

  -- no record is on the page
  pub none_more : {f : Searched} → ((c : Contents) → BeginsWithRecord image.geometry bytes c → ⊥) →
      HasFoundFrom image (q + 1) f → HasFoundFrom image q f
  none_more none before = record {
    seen = found_none (λ m t. none t.0 (bytes_of_stands t.1)) before.seen;
    superblock = before.superblock;
  }

  -- a record is on it
  module _ {c : Contents} {old new : RecordsSeen} (b : BeginsWithRecord image.geometry bytes c)
      (adds : AddsRecord old new q c.generation) where
    seen_more : AreSeenFrom (StandsFrom image) (q + 1) old → AreSeenFrom (StandsFrom image) q new
    seen_more seen =
        found_more c.generation (c, stands_of_bytes b, refl)
        (λ m t.
        let same : t.0 ≡ c = one_record_lem image.geometry bytes t.0 c (bytes_of_stands t.1) b in
        sym t.2 ∙ ap (λ d. d.generation) same)
        seen adds

    -- and is the newest
    pub newest_more : {o : Option Contents} → option_map (λ x. x.page) new.newest ≡ Some q →
        HasFoundFrom image (q + 1) (record { seen = old; superblock = o }) →
        HasFoundFrom image q (record { seen = new; superblock = Some c })
    newest_more is before = record { seen = seen_more before.seen; superblock = by new.newest is }
      where
        by : (n : Option Newest) → option_map (λ x. x.page) n ≡ Some q →
            MatchOption n (Some c ≡ None) (λ x. (d : Contents) × (Some c ≡ Some d) × RecordStandsAt image x.page d)
        by None e = absurd (none-some q e)
        by (Some x) e =
            (c, refl, subst (λ (p : ℕ). RecordStandsAt image p c) (sym (same_Some x.page q e)) (stands_of_bytes b))

    -- or isn't
    pub older_more : {o : Option Contents} → (option_map (λ x. x.page) new.newest ≡ Some q → ⊥) →
        HasFoundFrom image (q + 1) (record { seen = old; superblock = o }) →
        HasFoundFrom image q (record { seen = new; superblock = o })
    older_more {o} not before =
        record { seen = seen_more before.seen; superblock = by old.newest before.superblock adds.newest }
      where
        Has : Option Newest → Type 0
        Has n = MatchOption n (o ≡ None) (λ x. (d : Contents) × (o ≡ Some d) × RecordStandsAt image x.page d)

        by : (n : Option Newest) → Has n →
            MatchOption n (new.newest ≡ Some (record { page = q; generation = c.generation; tie = false }))
            (λ x. (c.generation < x.generation → new.newest ≡ Some x)
            × (x.generation ≤ c.generation → new.newest ≡ Some (record { page = q; generation = c.generation; tie = eqb c.generation x.generation })))
            →
            Has new.newest
        by None has is = absurd (not (ap (option_map (λ x. x.page)) is))
        by (Some x) has is = elim (cases_lt c.generation x.generation) [
          | inl older ↦ rw (is.0 older) has
          | inr newer ↦ absurd (not (ap (option_map (λ x. x.page)) (is.1 newer)))
        ]

-- ---- reading the bytes

-- what is held are the bytes from the page on
pub held_bytes : {image : Image} {q : ℕ} {held : BytesFrom} {bytes : List ℕ} → HoldsBytesFrom image q held →
    bytes ≡ take held.length held.bytes.items → AreBytesFrom image q bytes
held_bytes {image} {q} {held} {bytes} h is = rw is (record {
  within = rw long h.within;
  there = λ k hk.
      let below : k < held.length = omega (arith, hk, long) in
      h.there k below ∙ ap Some (sym (get_or-take held.length held.bytes.items k 0 below));
  enough = λ few. rw long (h.enough (omega (arith, few, long)));
})
  where
    long : length (take held.length held.bytes.items) ≡ held.length
    long = omega (arith, length-take held.length held.bytes.items, h.short)

-- nothing is held after the last page
pub none_held : (image : Image) {n : ℕ} {held : BytesFrom} → n ≡ image.geometry.pages →
    length held.bytes.items ≡ image.geometry.page + min (longest_record image.geometry) (extent_bytes image.geometry) →
    held.length ≡ 0 → HoldsBytesFrom image n held
none_held image {n} {held} hn room none = record {
  room = room;
  short = omega (arith, none);
  within = omega (arith, none, end);
  there = λ k hk. absurd (omega (arith, hk, none));
  enough = λ few. le-ltb_none (n * image.geometry.page + held.length) (omega (arith, end));
  whole = λ some. absurd (omega (arith, some, none));
  page_is = λ within. absurd (omega (arith, within, hn));
}
  where
    end : n * image.geometry.page ≡ extent_bytes image.geometry
    end = ap (λ m. m * image.geometry.page) hn ∙ (let e : image.geometry.pages * image.geometry.page ≡ extent_bytes image.geometry = omega arith in e)

    le-ltb_none : (i : ℕ) → extent_bytes image.geometry ≤ i → image_byte image 0 i ≡ None
    le-ltb_none i outside = rw (le-ltb i (extent_bytes image.geometry) outside) refl

-- a page is within the extent
next_row : (image : Image) (q : ℕ) → q < image.geometry.pages →
    q * image.geometry.page + image.geometry.page ≤ extent_bytes image.geometry
next_row image q hq =
    omega (arith, mul-le-mul_right {m = q + 1} {n = image.geometry.pages} image.geometry.page (omega (arith, hq)))

-- one page down: the page is read in front of the bytes that are kept
module _ {image : Image} {q : ℕ} {old new : BytesFrom} (h : HoldsBytesFrom image (q + 1) old) (hq : q < image.geometry.pages)
    (same : length new.bytes.items ≡ length old.bytes.items) where
  -- if it can be read
  pub page_read : {kept : ℕ} → kept ≡ min old.length (length old.bytes.items - image.geometry.page) →
      new.length ≡ image.geometry.page + kept →
      IsReadInFront image q kept old.bytes.items new.bytes.items → HoldsBytesFrom image q new
  page_read {kept} hk hn read = record {
    room = same ∙ h.room;
    short = omega (arith, hn, hk, same, h.room);
    within = omega (arith, hn, hk, h.within);
    there = λ k here. elim (cases_lt k page) [
      | inl low ↦ byte-page image 0 q k read.bytes read.readable read.size hq low ∙ ap Some (sym (read.front k low))
      | inr high ↦
          let j : k ≡ page + (k - page) = omega (arith, high) in
          let below : k - page < kept = omega (arith, here, hn, high) in
          let place : (q + 1) * page + (k - page) ≡ q * page + k = omega (arith, high) in
          ap (image_byte image 0) (sym place) ∙ h.there (k - page) (omega (arith, below, hk))
          ∙ ap Some (sym (read.behind (k - page) below) ∙ ap (λ n. get_or new.bytes.items n 0) (sym j))
    ];
    enough = λ few.
        let all : kept ≡ old.length = omega (arith, few, hn, hk, h.room, h.within) in
        let place : q * page + new.length ≡ (q + 1) * page + old.length = omega (arith, hn, all) in
        ap (image_byte image 0) place ∙ h.enough (omega (arith, few, hn, all));
    whole = λ _. omega (arith, hn);
    page_is = λ _. rw (lt-ltb 0 new.length (omega (arith, hn, image.geometry.page_least))) (read.readable ∙ ap Some front);
  }
    where
      page : ℕ
      page = image.geometry.page

      long : length (take page new.bytes.items) ≡ page
      long = length-take-le page new.bytes.items (omega (arith, same, h.room))

      front : read.bytes ≡ take page new.bytes.items
      front =
          same_number_lists read.bytes (take page new.bytes.items) (read.size ∙ sym long)
          (λ k hk. sym (read.front k (omega (arith, hk, read.size))) ∙ sym (get_or-take page new.bytes.items k 0 (omega (arith, hk, read.size))))

  -- if it can't
  pub page_lost : image.page 0 q ≡ None → new.length ≡ 0 → HoldsBytesFrom image q new
  page_lost unreadable none = record {
    room = same ∙ h.room;
    short = omega (arith, none);
    within = omega (arith, none, next_row image q hq);
    there = λ k here. absurd (omega (arith, here, none));
    enough = λ few. byte-unreadable image 0 (q * image.geometry.page + new.length) (rw at_page unreadable);
    whole = λ some. absurd (omega (arith, some, none));
    page_is = λ _. rw none unreadable;
  }
    where
      at_page : (q * image.geometry.page + new.length) / image.geometry.page ≡ q
      at_page =
          ap (λ n. n / image.geometry.page) (let e : q * image.geometry.page + new.length ≡ q * image.geometry.page = omega (arith, none) in e)
          ∙ mul-div_cancel q (omega (arith, image.geometry.page_least))

-- ---- all pages

-- the choice, if there is a record
module _ {image : Image} {f : Searched} {b : Newest} {c : Contents} (found : HasFoundFrom image 0 f)
    (newest : f.seen.newest ≡ Some b) (is : f.superblock ≡ Some c) where
  stands_there : RecordStandsAt image b.page c
  stands_there =
      let there : (d : Contents) × (f.superblock ≡ Some d) × RecordStandsAt image b.page d = rw newest at found.superblock in
      subst (λ (d : Contents). RecordStandsAt image b.page d) (same_Some there.0 c (sym there.1 ∙ is)) there.2

  -- its contents are within the limits
  pub contents_found : AreContents image.geometry c
  contents_found = stands_there.contents

  pub choice_found : {bad : List ℕ} → bad ≡ unreadable_pages image 0 →
      IsChoice image (record { geometry = image.geometry; superblock = Some c; page = Some b.page; records = f.seen.records; tie = b.tie; bad_pages = bad })
  choice_found unreadable = choice_at found.seen newest stands_there unreadable

-- and if there is none
module _ {image : Image} {f : Searched} {bad : List ℕ} (found : HasFoundFrom image 0 f)
    (unreadable : bad ≡ unreadable_pages image 0) where
  pub choice_of_none : f.seen.newest ≡ None →
      IsChoice image (record { geometry = image.geometry; superblock = None; page = None; records = 0; tie = false; bad_pages = bad })
  choice_of_none is = choice_without found.seen is unreadable

  -- A newest record has a superblock.
  pub no_superblock : {b : Newest} → f.seen.newest ≡ Some b → f.superblock ≡ None → ⊥
  no_superblock {b} newest is =
      let there : (d : Contents) × (f.superblock ≡ Some d) × RecordStandsAt image b.page d = rw newest at found.superblock in
      none-some there.0 (sym is ∙ there.1)

-- nothing is found before the last page
pub nothing_searched : (image : Image) {n : ℕ} {f : Searched} → n ≡ image.geometry.pages → f.seen.newest ≡ None →
    f.seen.records ≡ 0 → f.superblock ≡ None → HasFoundFrom image n f
nothing_searched image {n} {f} hn newest records is = record {
  seen = record {
    pages = [];
    are = record {
      rising = λ k here. absurd (omega (arith, here));
      exact = λ q. ((λ there. absurd (omega (arith, there.1))), (λ x. absurd (beyond q x.1.0 x.0 x.1.1)));
    };
    records = records;
    newest = rw newest beyond;
  };
  superblock = rw newest is;
}
  where
    beyond : (q m : ℕ) → n ≤ q → StandsFrom image q m → ⊥
    beyond q m low s = omega (arith, low, hn, s.1.within)

-- the marks of all pages say which are unreadable
pub unreadable_by_marks : {image : Image} {s : Search} → IsSearchedFrom image 0 s →
    pages_without s.readable.items ≡ unreadable_pages image 0
unreadable_by_marks {image} {s} h =
    ap (λ n. filter (λ q. not (get_or s.readable.items q false)) (range_with_len 0 n)) h.count
    ∙ filter_range-agree (λ q. not (get_or s.readable.items q false)) (λ q. is_none (image.page 0 q)) 0 image.geometry.pages
    (λ q low high. sym (h.marks q (omega arith) (omega (arith, high))))

-- one more page was searched
pub searched_more : {image : Image} {q : ℕ} {old new : Search} (mark : Bool) → IsSearchedFrom image (q + 1) old →
    q < image.geometry.pages → HoldsBytesFrom image q new.held → is_none (image.page 0 q) ≡ not mark →
    new.readable.items ≡ set old.readable.items q mark → HasFoundFrom image q new.found →
    new.found.seen.records ≤ old.found.seen.records + 1 → IsSearchedFrom image q new
searched_more {image} {q} {old} {new} mark before here held is marked found few = record {
  held = held;
  found = found;
  few = omega (arith, few, before.few);
  count = ap length marked ∙ length-set old.readable.items q mark ∙ before.count;
  marks = λ r low high. rw marked (by_page r low high);
}
  where
    by_page : (r : ℕ) → q ≤ r → r < image.geometry.pages →
        is_none (image.page 0 r) ≡ not (get_or (set old.readable.items q mark) r false)
    by_page r low high = elim (cases_lt q r) [
      | inl above ↦
          before.marks r (omega (arith, above)) high
          ∙ ap not (sym (get_or-set_other old.readable.items q r mark false (λ e. omega (arith, e, above))))
      | inr same ↦
          let e : r ≡ q = omega (arith, same, low) in
          ap (λ m. is_none (image.page 0 m)) e ∙ is
          ∙ ap not (sym (get_or-set_at old.readable.items q r mark false e (omega (arith, here, before.count))))
    ]
