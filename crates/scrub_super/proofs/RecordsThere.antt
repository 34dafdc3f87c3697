-- Whether a record begins on a page is decided: it is the one that the bytes there spell, with a list of retired extents or
-- without. So an image has its list of valid records, and a choice.
use Rattle.std.proofs.Common.{◌≡◌, ◌⊎◌, ◌<◌, ◌≤◌, ◌+◌, ◌-◌, ◌*◌, ◌^◌, ℕ, List, [], length, take, drop, All, AllPairs, arith, refl, sym, ◌∙◌, ap, subst, Option, Some, None, IfSome, inl, inr, option_map, slice_get, nat_lt}
use Rattle.std.specs.List.{flat_map}
use Rattle.std.specs.Option.{unwrap_or}
use Rattle.std.proofs.lemmas.List.Kept.{AllPairs-from_increasing}
use Rattle.byteorder.specs.Endian.{big_bytes, big_number}
use Rattle.byteorder.specs.Numbers.{big_number-reads_back}
use Rattle.list_facts.proofs.Decisions.{AreThoseBelow, Decided, decided_all, decided_at_most, decided_both, decided_less, decided_like, decided_number, decided_pairs, those_below}
use Rattle.list_facts.proofs.Spelling.{list_again, read_parts}
use Rattle.scrub_frame.proofs.Bytes.{number-bytes}
use Rattle.scrub_disk.specs.declared.geometry.Geometry.{Geometry}
use Rattle.scrub_disk.specs.Image.{Image, image_byte, AreBytesAt, unreadable_pages}
use Rattle.scrub_frame.specs.Locator.{locator_bytes, IsLocator}
use Rattle.scrub_frame.proofs.Locators.{length-locator_bytes}
use Rattle.scrub_frame.proofs.ReadAgain.{read_locator, locator_again, decided_locator}
use Rattle.scrub_super.specs.Contents.{Contents}
use Rattle.scrub_super.specs.Planned.{AreChunkExtents}
use Rattle.scrub_super.specs.Record.{record_bytes, AreContents, BeginsWithRecord}
use Rattle.scrub_super.specs.Chosen.{RecordStandsAt, Choice, IsChoice, newest_records}
use Rattle.scrub_super.specs.Plan.{PlanValue, plan_of}
use Rattle.scrub_super.specs.steps.ByConditions.{AreRecordPages}
use Rattle.scrub_super.specs.steps.RecordRead.{record_head_size, retired_count, kind_by, IsFront, IsHead}
use Rattle.scrub_super.proofs.BytesHere.{bytes_here, begin_with, decided_bytes_at}
use Rattle.scrub_super.proofs.Fronts.{front_magic, front_of_head, front_read, head_sizes}
use Rattle.scrub_super.proofs.Listed.{count_in, AreSmall, few_listed, pointers_in, small_listed, small_pointers}
use Rattle.scrub_super.proofs.NewestRecords.{records_of_pages}
use Rattle.scrub_super.proofs.RecordParts.{record_parts, is_head, length_record}

-- ---- limits

decided_extents : (e : ℕ) (ns : List ℕ) → Decided (AreChunkExtents e ns)
decided_extents e ns =
    let up : Decided (AllPairs (λ a b. a < b) ns) = decided_pairs (λ a b. a < b) decided_less ns in
    let ends : Decided (All (λ n. 1 ≤ n) ns × All (λ n. n < e) ns) =
    decided_both (decided_all (λ n. 1 ≤ n) (decided_at_most 1) ns) (decided_all (λ n. n < e) (λ n. decided_less n e) ns) in
    let all : Decided (AllPairs (λ a b. a < b) ns × (All (λ n. 1 ≤ n) ns × All (λ n. n < e) ns)) = decided_both up ends in
    decided_like all
    (λ h. record { rising = λ k here. h.0 k (k + 1) 0 (omega arith) here; from_one = h.1.0; below = h.1.1 })
    (λ h. (AllPairs-from_increasing ns h.rising, (h.from_one, h.below)))

decided_listed : (e : ℕ) (o : Option (List ℕ)) → Decided (IfSome o (AreChunkExtents e))
decided_listed e None = inl tt
decided_listed e (Some ns) = decided_extents e ns

-- whether contents keep their limits
pub decided_contents : (g : Geometry) (c : Contents) → Decided (AreContents g c)
decided_contents g c =
    let pointers : Decided ((length c.pointers + 1 ≡ g.extents) × All (λ w. w ≤ g.page * g.pages) c.pointers) =
    decided_both (decided_number (length c.pointers + 1) g.extents)
    (decided_all (λ w. w ≤ g.page * g.pages) (λ w. decided_at_most w (g.page * g.pages)) c.pointers) in
    let runs : Decided ((length c.runs ≤ 32) × All IsLocator c.runs) =
    decided_both (decided_at_most (length c.runs) 32) (decided_all IsLocator decided_locator c.runs) in
    let front : Decided ((c.generation < 2 ^ 64) × IfSome c.retired (AreChunkExtents g.extents)) =
    decided_both (decided_less c.generation (2 ^ 64)) (decided_listed g.extents c.retired) in
    let lists : Decided (((length c.pointers + 1 ≡ g.extents) × All (λ w. w ≤ g.page * g.pages) c.pointers) × ((length c.runs ≤ 32) × All IsLocator c.runs)) =
    decided_both pointers runs in
    let all : Decided (((c.generation < 2 ^ 64) × IfSome c.retired (AreChunkExtents g.extents)) × (((length c.pointers + 1 ≡ g.extents) × All (λ w. w ≤ g.page * g.pages) c.pointers) × ((length c.runs ≤ 32) × All IsLocator c.runs))) =
    decided_both front lists in
    decided_like all
    (λ h. record {
      generation = h.0.0;
      pointer_count = h.1.0.0;
      pointers_within = h.1.0.1;
      retired = h.0.1;
      run_count = h.1.1.0;
      each_run = h.1.1.1;
    })
    (λ h. ((h.generation, h.retired), ((h.pointer_count, h.pointers_within), (h.run_count, h.each_run))))

decided_record : (image : Image) (q : ℕ) (c : Contents) → Decided (RecordStandsAt image q c)
decided_record image q c =
    let place : Decided ((q < image.geometry.pages) × AreContents image.geometry c) =
    decided_both (decided_less q image.geometry.pages) (decided_contents image.geometry c) in
    let all : Decided (((q < image.geometry.pages) × AreContents image.geometry c) × AreBytesAt (image_byte image 0) (q * image.geometry.page) (record_bytes image.geometry c)) =
    decided_both place (decided_bytes_at (image_byte image 0) (q * image.geometry.page) (record_bytes image.geometry c)) in
    decided_like all
    (λ h. record { within = h.0.0; contents = h.0.1; stands = h.1 })
    (λ h. ((h.within, h.contents), h.stands))

-- ---- the contents that bytes spell

-- numbers of four bytes each
abbrev pub read_numbers : ℕ → List ℕ → List ℕ
read_numbers n y = read_parts (big_number 4) 4 n y

-- how many index runs a front says there are
abbrev pub run_count : List ℕ → ℕ
run_count x = big_number 2 (take 2 (drop 24 (take 26 x)))

-- the contents after a head with so many retired extents, if they are listed
abbrev pub contents_in : Geometry → List ℕ → Option ℕ → Contents
contents_in g x k = record {
  generation = big_number 8 (take 8 (drop 4 (take 26 x)));
  pointers = read_numbers (g.extents - 1) (take (4 * (g.extents - 1)) (drop (record_head_size k) x));
  retired =
      option_map (λ t. read_numbers t (take (4 * t) (drop (record_head_size k + 4 * (g.extents - 1)) x))) k;
  runs =
      read_parts read_locator 60 (run_count x)
      (take (60 * run_count x) (drop (record_head_size k + 4 * (g.extents - 1) + 4 * retired_count k) x));
}

numbers_again : (xs : List ℕ) (n : ℕ) (y : List ℕ) → AreSmall xs → n ≡ length xs → y ≡ flat_map (big_bytes 4) xs →
    read_numbers n y ≡ xs
numbers_again xs n y small = list_again (big_bytes 4) (λ w. w < 2 ^ 32) (big_number 4) 4 xs n y (λ v h. refl) number-bytes small

listed_again : (z : List ℕ) (o : Option (List ℕ)) → IfSome o AreSmall →
    take (4 * retired_count (option_map length o)) z ≡ flat_map (big_bytes 4) (unwrap_or o []) →
    option_map (λ t. read_numbers t (take (4 * t) z)) (option_map length o) ≡ o
listed_again z None small is = refl
listed_again z (Some xs) small is = ap Some (numbers_again xs (length xs) (take (4 * length xs) z) small refl is)

-- they are those of the record that the bytes begin with
module _ {g : Geometry} {x : List ℕ} {c : Contents} (b : BeginsWithRecord g x c) where
  front : IsFront g (take 26 x) (kind_by (count_in c)) c.generation (length c.runs)
  front = front_of_head x (is_head b)

  -- The contents that are read from the bytes are those of the record.
  pub contents_again : contents_in g x (count_in c) ≡ c
  contents_again = λ i. record { generation = generation i; pointers = pointers i; retired = retired i; runs = runs i }
    where
      k : Option ℕ
      k = count_in c

      generation : big_number 8 (take 8 (drop 4 (take 26 x))) ≡ c.generation
      generation = (front_read (kind_by k) (front_magic (kind_by k) front) refl refl front).1

      count : run_count x ≡ length c.runs
      count = (front_read (kind_by k) (front_magic (kind_by k) front) refl refl front).2

      pointers : read_numbers (g.extents - 1) (take (4 * (g.extents - 1)) (drop (record_head_size k) x)) ≡ c.pointers
      pointers =
          numbers_again c.pointers (g.extents - 1) (take (4 * (g.extents - 1)) (drop (record_head_size k) x))
          (small_pointers (pointers_in b.contents)) (omega (arith, b.contents.pointer_count)) (record_parts b).pointers_are

      retired : option_map (λ t. read_numbers t (take (4 * t) (drop (record_head_size k + 4 * (g.extents - 1)) x))) k ≡ c.retired
      retired =
          listed_again (drop (record_head_size k + 4 * (g.extents - 1)) x) c.retired
          (small_listed g c.retired b.contents.retired) (record_parts b).retired_are

      runs : read_parts read_locator 60 (run_count x) (take (60 * run_count x) (drop (record_head_size k + 4 * (g.extents - 1) + 4 * retired_count k) x)) ≡ c.runs
      runs =
          list_again locator_bytes IsLocator read_locator 60 c.runs (run_count x)
          (take (60 * run_count x) (drop (record_head_size k + 4 * (g.extents - 1) + 4 * retired_count k) x))
          length-locator_bytes locator_again b.contents.each_run count
          (ap (λ r. take (60 * r) (drop (record_head_size k + 4 * (g.extents - 1) + 4 * retired_count k) x)) count
          ∙ (record_parts b).runs_are)

  -- the number of retired extents, if they are listed
  pub listed_count : (t : ℕ) → count_in c ≡ Some t → big_number 2 (drop 26 (take 28 x)) ≡ t
  listed_count t e =
      let h : IsHead g (take 28 x) c.generation (length c.runs) (Some t) = rw e at (is_head b) in
      ap (λ y. big_number 2 (drop 26 y)) h.spelled ∙ big_number-reads_back 2 t [] h.small

-- ---- the record on a page

-- at most so many bytes has a record
abbrev most_bytes : Geometry → ℕ
most_bytes g = 1980 + 8 * g.extents

-- the bytes from a page on
abbrev bytes_on : Image → ℕ → List ℕ
bytes_on image q = bytes_here (image_byte image 0) (q * image.geometry.page) (most_bytes image.geometry)

begins_there : (image : Image) (q : ℕ) (c : Contents) → RecordStandsAt image q c →
    BeginsWithRecord image.geometry (bytes_on image q) c
begins_there image q c s = record {
  contents = s.contents;
  rest = drop (length (record_bytes image.geometry c)) (bytes_on image q);
  spelled =
      begin_with (image_byte image 0) (q * image.geometry.page) (most_bytes image.geometry) (record_bytes image.geometry c)
      s.stands few;
}
  where
    few : length (record_bytes image.geometry c) ≤ most_bytes image.geometry
    few =
        omega (
          arith,
          length_record s.contents,
          head_sizes (count_in c),
          few_listed image.geometry c.retired s.contents.retired,
          s.contents.run_count,
        )

-- one begins there, or none does
pub record_there : (image : Image) (q : ℕ) → ((c : Contents) × RecordStandsAt image q c) ⊎ ((c : Contents) → RecordStandsAt image q c → ⊥)
record_there image q = by (decided_record image q plain) (decided_record image q listing)
  where
    x : List ℕ
    x = bytes_on image q

    plain : Contents
    plain = contents_in image.geometry x None

    listing : Contents
    listing = contents_in image.geometry x (Some (big_number 2 (drop 26 (take 28 x))))

    by : Decided (RecordStandsAt image q plain) → Decided (RecordStandsAt image q listing) →
        ((c : Contents) × RecordStandsAt image q c) ⊎ ((c : Contents) → RecordStandsAt image q c → ⊥)
    by (inl s) d = inl (plain, s)
    by (inr none) (inl s) = inl (listing, s)
    by (inr none) (inr neither) = inr (λ c s. at c s (count_in c) refl)
      where
        at : (c : Contents) → RecordStandsAt image q c → (k : Option ℕ) → count_in c ≡ k → ⊥
        at c s None e =
            let is : plain ≡ c = ap (contents_in image.geometry x) (sym e) ∙ contents_again (begins_there image q c s) in
            none (subst (λ (d : Contents). RecordStandsAt image q d) (sym is) s)
        at c s (Some t) e =
            let count : big_number 2 (drop 26 (take 28 x)) ≡ t = listed_count (begins_there image q c s) t e in
            let is : listing ≡ c =
            ap (λ n. contents_in image.geometry x (Some n)) count ∙ ap (contents_in image.geometry x) (sym e)
            ∙ contents_again (begins_there image q c s) in
            neither (subst (λ (d : Contents). RecordStandsAt image q d) (sym is) s)

-- ---- all of them

record_pages : (image : Image) → (pages : List ℕ) × AreRecordPages image pages
record_pages image = (
  those.0,
  record {
    rising = λ k here. those.1.rising k (k + 1) 0 (omega arith) here;
    exact = λ q. ((λ there. (those.1.each q there).1), (λ s. those.1.all q s.1.within s));
  },
)
  where
    those : (qs : List ℕ) × AreThoseBelow (λ q. (c : Contents) × RecordStandsAt image q c) image.geometry.pages qs
    those =
        those_below (λ q. (c : Contents) × RecordStandsAt image q c) (λ q. by q (record_there image q))
        image.geometry.pages
      where
        by : (q : ℕ) → ((c : Contents) × RecordStandsAt image q c) ⊎ ((c : Contents) → RecordStandsAt image q c → ⊥) →
            ((c : Contents) × RecordStandsAt image q c) ⊎ (((c : Contents) × RecordStandsAt image q c) → ⊥)
        by q (inl s) = inl s
        by q (inr none) = inr (λ s. none s.0 s.1)

-- an image has a choice
pub some_choice : (image : Image) → (choice : Choice) × IsChoice image choice
some_choice image =
    let valid = records_of_pages (record_pages image).1 in (
      record {
        geometry = image.geometry;
        superblock = option_map (λ r. r.1) (slice_get (newest_records valid.0) 0);
        page = option_map (λ r. r.0) (slice_get (newest_records valid.0) 0);
        records = length valid.0;
        tie = nat_lt 1 (length (newest_records valid.0));
        bad_pages = unreadable_pages image 0;
      },
      record {
        valid = valid.0;
        are = valid.1;
        geometry = refl;
        superblock = refl;
        page = refl;
        records = refl;
        tie = refl;
        bad_pages = refl;
      },
    )

-- and a choice a plan
pub some_plan : (choice : Choice) → (plan : PlanValue) × (plan ≡ plan_of choice)
some_plan choice = (plan_of choice, refl)
