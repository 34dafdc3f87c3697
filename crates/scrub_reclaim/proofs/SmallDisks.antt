-- Small disks: two extents of one page of 64 bytes, with one superblock record that names no index run. The record
-- counts, page 0 holds nothing else, and what is in extent 1 is known.
use Rattle.std.proofs.Common.{◌≡◌, ◌<◌, ◌≤◌, ◌+◌, ◌*◌, ◌-◌, ◌^◌, ◌⊎◌, ◌==◌, ℕ, zero, suc, Bool, true, false, List, [], ◌∷◌, ◌++◌, length, replicate, arith, refl, sym, ◌∙◌, ap, subst, Option, Some, None, inl, inr, Contains, IsTrue, nat_lt, slice_get, get_or, length-append, if◌then◌else◌}
use Rattle.std.specs.Int.{is_power_of_two}
use Rattle.std.proofs.lemmas.Bool.{cases_lt, le-ltb}
use Rattle.std.proofs.lemmas.List.{get_or-append_right, get_or-replicate, get_or_append_left}
use Rattle.std.proofs.lemmas.List.Elements.{All-cons, All-nil}
use Rattle.std.proofs.lemmas.Option.{get_or_from_slice_get, none-some, same_Some}
use Rattle.list_facts.proofs.Elements.{Contains-cases}
use Rattle.scrub_disk.specs.declared.geometry.Geometry.{Geometry}
use Rattle.scrub_disk.specs.Image.{HasWholePages, Image, image_byte}
use Rattle.scrub_disk.proofs.HeldBytes.{byte-page}
use Rattle.scrub_frame.specs.Locator.{IsLocator}
use Rattle.scrub_super.specs.declared.kind.RecordKind.TheVariants.{Ssb1}
use Rattle.scrub_super.specs.declared.pages.Rank.TheVariants.{Counts}
use Rattle.scrub_super.specs.declared.pages.SuperblockPage.{SuperblockPage}
use Rattle.scrub_super.specs.declared.pages.SuperblockPage.TheVariants.{Record}
use Rattle.scrub_super.specs.Contents.{Contents}
use Rattle.scrub_super.specs.Record.{AreContents, record_bytes}
use Rattle.scrub_super.specs.Chosen.{AreRecords, Choice, IsChoice, RecordStandsAt, newest_records}
use Rattle.scrub_super.specs.Pages.{AreHeldBytes, AreSuperblockPages, IsRank, IsSuperblockPage}
use Rattle.scrub_super.proofs.Laws.{one_record_on_page}
use Rattle.scrub_super.proofs.RecordParts.{length_record}
use Rattle.scrub_scan.specs.declared.item.Item.TheVariants.{Pad}
use Rattle.scrub_scan.specs.declared.findings.Findings.{Findings}
use Rattle.scrub_scan.specs.Extent.{NoFrameAt, extent_of}
use Rattle.scrub_scan.specs.Findings.{IsFindings}
use Rattle.scrub_scan.specs.Item.{IsItem}
use Rattle.scrub_scan.proofs.FrameBytes.{first_byte}

-- ---- the disks

pub is_page_size : IsTrue (is_power_of_two 64)
unfolding lib.Count.ones
is_page_size = refl

abbrev pub small : Geometry
small = record {
  page = 64;
  pages = 1;
  extents = 2;
  page_least = omega arith;
  page_most = omega arith;
  page_power = is_page_size;
  pages_least = omega arith;
  pages_most = omega arith;
  extents_least = omega arith;
  extents_most = omega arith;
  extent_fits = omega arith;
  total_fits = omega arith;
}

-- a generation, and the write pointer of extent 1
abbrev pub contents : ℕ → ℕ → Contents
contents n w = record { generation = n; pointers = w ∷ []; retired = None; runs = [] }

-- these fit a record
pub record AreSmall (n w : ℕ) : Type 0 where
  pub generation : n < 2 ^ 64
  pub pointer : w ≤ 64

are_contents : (n w : ℕ) → AreSmall n w → AreContents small (contents n w)
are_contents n w are = record {
  generation = are.generation;
  pointer_count = refl;
  pointers_within =
      All-cons (λ pointer. pointer ≤ 64 * 1) w [] (omega (arith, are.pointer)) (All-nil (λ pointer. pointer ≤ 64 * 1));
  retired = tt;
  run_count = omega arith;
  each_run = All-nil IsLocator;
}

-- the record of these
small_record : ℕ → ℕ → List ℕ
small_record n w = record_bytes small (contents n w)

-- and the page that it begins
pub first_page : ℕ → ℕ → List ℕ
first_page n w = small_record n w ++ 0 ∷ 0 ∷ []

length-small_record : (n w : ℕ) → AreSmall n w → length (small_record n w) ≡ 62
unfolding small_record
length-small_record n w are = length_record (are_contents n w are)

length-first_page : (n w : ℕ) → AreSmall n w → length (first_page n w) ≡ 64
unfolding first_page
length-first_page n w are =
    omega (arith, length-append (small_record n w) (0 ∷ 0 ∷ []), length-small_record n w are)

-- the disk with these bytes in extent 1
abbrev pub disk : ℕ → ℕ → List ℕ → Image
disk n w xs = record { geometry = small; page = λ e q. if e == 0 then Some (first_page n w) else Some xs }

-- Each page has its 64 bytes.
pub whole_pages : (n w : ℕ) (xs : List ℕ) → AreSmall n w → length xs ≡ 64 → HasWholePages (disk n w xs)
whole_pages n w xs are long e q bytes inside below = by (e == 0)
  where
    by : (b : Bool) → (if b then Some (first_page n w) else Some xs) ≡ Some bytes → length bytes ≡ 64
    by true is = ap (λ (ys : List ℕ). length ys) (sym (same_Some (first_page n w) bytes is)) ∙ length-first_page n w are
    by false is = ap (λ (ys : List ℕ). length ys) (sym (same_Some xs bytes is)) ∙ long

-- byte k of extent 1
pub byte_of : (n w : ℕ) (xs : List ℕ) (k : ℕ) → length xs ≡ 64 → k < 64 → image_byte (disk n w xs) 1 k ≡ Some (get_or xs k 0)
byte_of n w xs k long low =
    let at : image_byte (disk n w xs) 1 (0 * 64 + k) ≡ Some (get_or xs k 0) =
    byte-page (disk n w xs) 1 0 k xs refl long (omega arith) low in
    ap (image_byte (disk n w xs) 1) (let e : k ≡ 0 * 64 + k = omega arith in e) ∙ at

-- ---- their superblocks

pair_of_zeros : List ℕ
pair_of_zeros = 0 ∷ 0 ∷ []

two_zeros : (k : ℕ) → get_or pair_of_zeros k 0 ≡ 0
unfolding pair_of_zeros
two_zeros zero = refl
two_zeros (suc zero) = refl
two_zeros (suc (suc k)) = refl

-- the record counts
abbrev pub choice_of : ℕ → ℕ → Choice
choice_of n w = record {
  geometry = small;
  superblock = Some (contents n w);
  page = Some 0;
  records = 1;
  tie = false;
  bad_pages = [];
}

-- of page 0: the record counts, and no byte is stray
abbrev pub pages_of : ℕ → List SuperblockPage
pages_of n = Record Ssb1 n 62 Counts false ∷ []

module _ (n w : ℕ) (xs : List ℕ) (are : AreSmall n w) where
  stands : RecordStandsAt (disk n w xs) 0 (contents n w)
  unfolding first_page small_record
  stands = record {
    within = omega arith;
    contents = are_contents n w are;
    stands = λ k here.
        byte-page (disk n w xs) 0 0 k (first_page n w) refl (length-first_page n w are) (omega arith)
        (omega (arith, here, length-small_record n w are))
        ∙ ap Some (get_or_append_left (record_bytes small (contents n w)) (0 ∷ 0 ∷ []) 0 k here);
  }

  -- the one record, on page 0
  abbrev only_record : List (ℕ × Contents)
  only_record = (0, contents n w) ∷ []

  records_are : AreRecords (disk n w xs) only_record
  records_are = record {
    rising = λ i j d lt here. absurd (omega (arith, lt, here));
    exact = λ q c. (to q c, from q c);
  }
    where
      to : (q : ℕ) (c : Contents) → Contains only_record (q, c) → RecordStandsAt (disk n w xs) q c
      to q c there = by (Contains-cases (0, contents n w) [] (q, c) there)
        where
          by : (get_or only_record 0 (q, c) ≡ (q, c)) ⊎ Contains {X = ℕ × Contents} [] (q, c) → RecordStandsAt (disk n w xs) q c
          by (inl is) = subst (λ (r : ℕ × Contents). RecordStandsAt (disk n w xs) r.0 r.1) is stands
          by (inr none) = absurd (omega (arith, none.1))

      from : (q : ℕ) (c : Contents) → RecordStandsAt (disk n w xs) q c → Contains only_record (q, c)
      from q c s =
          let first : q ≡ 0 = omega (arith, s.within) in
          let same : contents n w ≡ c =
          one_record_on_page (disk n w xs) 0 (contents n w) c stands
          (subst (λ (p : ℕ). RecordStandsAt (disk n w xs) p c) first s) in
          (0, omega arith, (λ i. (sym first i, same i)))

  not_older : nat_lt n n ≡ false
  not_older = le-ltb n n (omega arith)

  newest_are : newest_records only_record ≡ only_record
  newest_are = rw not_older refl

  -- On a small disk the one record is the superblock that counts.
  pub chosen : IsChoice (disk n w xs) (choice_of n w)
  chosen = record {
    valid = only_record;
    are = records_are;
    geometry = refl;
    superblock = rw newest_are refl;
    page = rw newest_are refl;
    records = refl;
    tie = rw newest_are refl;
    bad_pages = refl;
  }

  -- nothing else is on page 0
  held : AreHeldBytes (disk n w xs) 0 (first_page n w)
  unfolding first_page small_record pair_of_zeros
  held k b is other = record {
    start = 0;
    contents = contents n w;
    stands = stands;
    from = omega arith;
    to = by (cases_lt k 62);
  }
    where
      by : (k < 62) ⊎ (62 ≤ k) → 0 * 64 + k < 0 * 64 + length (record_bytes small (contents n w))
      by (inl low) = omega (arith, low, length-small_record n w are)
      by (inr high) =
          let zero_there : b ≡ 0 =
          sym (get_or_from_slice_get (first_page n w) k b 0 is)
          ∙ get_or-append_right (small_record n w) (0 ∷ 0 ∷ []) 62 k 0 (length-small_record n w are) high
          ∙ two_zeros (k - 62) in
          absurd (other zero_there)

  rank_is : IsRank (disk n w xs) n Counts
  rank_is = (only_record, records_are, rw not_older refl)

  page_is : IsSuperblockPage (disk n w xs) 0 (Record Ssb1 n 62 Counts false)
  unfolding small_record
  page_is = (contents n w, stands, refl, refl, omega (arith, length-small_record n w are), rank_is, (first_page n w, refl, held))

  -- The one page of extent 0 begins with the record that counts, and none of its bytes is stray.
  pub pages_are : AreSuperblockPages (disk n w xs) (pages_of n)
  pages_are = record { count = refl; each = each }
    where
      each : (q : ℕ) (page : SuperblockPage) → slice_get (pages_of n) q ≡ Some page →
          IsSuperblockPage (disk n w xs) q page
      each zero page is =
          subst (IsSuperblockPage (disk n w xs) 0) (same_Some (Record Ssb1 n 62 Counts false) page is) page_is
      each (suc q) page is = absurd (none-some page is)

-- ---- what is in extent 1

-- A page of zeros.
abbrev pub zeros : List ℕ
zeros = replicate 64 0

zero_at : (n w k : ℕ) → k < 64 → image_byte (disk n w zeros) 1 k ≡ Some 0
zero_at n w k low = byte_of n w zeros k refl low ∙ ap Some (get_or-replicate 64 k 0 0 low)

-- under the pointer 64 it is a pad
abbrev pub one_pad : Findings
one_pad = record { items = Pad 0 64 ∷ []; tail_count = 0; tail_first = None; bad_pages = [] }

-- Under the pointer 64 one pad is found in a page of zeros.
pub found_pad : (n w : ℕ) → IsFindings (disk n w zeros) 1 64 one_pad
found_pad n w = record {
  tiled = record {
    joined = (refl, refl);
    each = All-cons (IsItem (extent_of (disk n w zeros) 1 64)) (Pad 0 64) [] (record {
      below = omega arith;
      fits = (refl, no_frame, λ i low high. zero_at n w i high);
    }) (All-nil (IsItem (extent_of (disk n w zeros) 1 64)));
  };
  tail_counted = refl;
  tail_least = refl;
  bad_pages = refl;
}
  where
    no_frame : NoFrameAt (extent_of (disk n w zeros) 1 64) 0
    no_frame f u b k =
        differs (image_byte (disk n w zeros) 1 0) (first_byte (extent_of (disk n w zeros) 1 64) 0 f u b k) (zero_at n w 0 (omega arith))
      where
        differs : (o : Option ℕ) → o ≡ Some 0xC5 → o ≡ Some 0 → ⊥
        differs o x y = omega (arith, same_Some _ _ (sym x ∙ y))

-- under the pointer 0 it is nothing
abbrev pub nothing : Findings
nothing = record { items = []; tail_count = 0; tail_first = None; bad_pages = [] }

-- Under the pointer 0 nothing is found in a page of zeros.
pub found_nothing : (n w : ℕ) → IsFindings (disk n w zeros) 1 0 nothing
found_nothing n w = record {
  tiled = record { joined = refl; each = All-nil (IsItem (extent_of (disk n w zeros) 1 0)) };
  tail_counted = refl;
  tail_least = refl;
  bad_pages = refl;
}
