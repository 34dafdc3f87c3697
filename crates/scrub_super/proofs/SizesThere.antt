-- Raw bytes have all their records, each by its own sizes, and all their runs of lost blocks.
use Rattle.std.proofs.Common.{◌≡◌, ◌⊎◌, ◌<◌, ◌≤◌, ◌+◌, ◌-◌, ◌*◌, ◌%◌, ◌^◌, ◌++◌, ℕ, zero, suc, Bool, true, false, IsTrue, List, [], ◌∷◌, length, map, take, drop, get_or, All, AllPairs, Contains, arith, refl, sym, ◌∙◌, ap, subst, Option, Some, None, inl, inr}
use Rattle.std.specs.Int.{is_power_of_two}
use Rattle.std.proofs.lemmas.Bool.{cases_lt, false≢true}
use Rattle.std.specs.List.{range_with_len}
use Rattle.std.proofs.lemmas.List.{get_or-map, get_or_past, length-map}
use Rattle.std.proofs.lemmas.List.FromFn.{get_or-map-range_with_len, length-map-range_with_len}
use Rattle.std.proofs.lemmas.List.Elements.{All-cons, All-contains, All-nil}
use Rattle.byteorder.specs.Endian.{big_number}
use Rattle.byteorder.specs.Numbers.{big_number-reads_back}
use Rattle.list_facts.proofs.Decisions.{AreThoseBelow, Decided, decided_at_most, decided_both, decided_less, decided_like, decided_number, decided_true, some_below, test_of, test_of-holds, test_of-passes, those_below}
use Rattle.scrub_disk.specs.declared.geometry.Geometry.{Geometry}
use Rattle.scrub_disk.specs.Image.{AreBytesAt, extent_bytes}
use Rattle.scrub_disk.specs.Raw.{MayFailIn}
use Rattle.scrub_disk.specs.Limits.{max_extent_bytes, max_disk_bytes}
use Rattle.scrub_super.specs.declared.unknown_sizes.FoundRecord.{FoundRecord}
use Rattle.scrub_super.specs.declared.unknown_sizes.LostBytes.{LostBytes}
use Rattle.scrub_super.specs.Contents.{Contents}
use Rattle.scrub_super.specs.Record.{AreContents, BeginsWithRecord, record_bytes}
use Rattle.scrub_super.specs.Pages.{kind_of}
use Rattle.scrub_super.specs.Blocks.{byte_left, IsMarked, LacksByte, LosesBlocks}
use Rattle.scrub_super.specs.UnknownSizes.{StandsByOwnSizes, IsFoundRecord, AreFoundRecords, AreLostRanges, AreFoundByOwnSizes, AreFoundInSome, AreFoundWith}
use Rattle.scrub_super.specs.steps.BlocksRead.{ended_run}
use Rattle.scrub_super.specs.steps.RecordRead.{kind_by, IsFront}
use Rattle.scrub_super.proofs.BytesHere.{bytes_here, begin_with, decided_bytes_at}
use Rattle.scrub_super.proofs.Fronts.{front_of_head, head_sizes}
use Rattle.scrub_super.proofs.Geometries.{same_geometry}
use Rattle.scrub_super.proofs.Listed.{count_in, few_listed}
use Rattle.scrub_super.proofs.LostRuns.{AreRunsTo, RunsFrom, all_runs, goes_on, runs_next, starts_behind}
use Rattle.scrub_super.proofs.OneRecord.{one_record_lem}
use Rattle.scrub_super.proofs.RecordParts.{is_head, length_record}
use Rattle.scrub_super.proofs.RecordsThere.{contents_again, contents_in, decided_contents, listed_count}
use Rattle.scrub_super.proofs.UnknownSizesSteps.{some_record}

-- ---- sizes within their limits

record AreLimits (p n e : ℕ) : Type 0 where
  pub page_least : 64 ≤ p
  pub page_most : p ≤ 65536
  pub page_power : IsTrue (is_power_of_two p)
  pub pages_least : 1 ≤ n
  pub pages_most : n ≤ 65536
  pub extents_least : 2 ≤ e
  pub extents_most : e ≤ 65536
  pub extent_fits : p * n ≤ max_extent_bytes
  pub total_fits : p * n * e ≤ max_disk_bytes

decided_limits : (p n e : ℕ) → Decided (AreLimits p n e)
decided_limits p n e =
    let page : Decided (((64 ≤ p) × (p ≤ 65536)) × IsTrue (is_power_of_two p)) =
    decided_both (decided_both (decided_at_most 64 p) (decided_at_most p 65536)) (decided_true (is_power_of_two p)) in
    let pages : Decided ((1 ≤ n) × (n ≤ 65536)) = decided_both (decided_at_most 1 n) (decided_at_most n 65536) in
    let extents : Decided ((2 ≤ e) × (e ≤ 65536)) = decided_both (decided_at_most 2 e) (decided_at_most e 65536) in
    let fits : Decided ((p * n ≤ max_extent_bytes) × (p * n * e ≤ max_disk_bytes)) =
    decided_both (decided_at_most (p * n) max_extent_bytes) (decided_at_most (p * n * e) max_disk_bytes) in
    let counts : Decided (((1 ≤ n) × (n ≤ 65536)) × ((2 ≤ e) × (e ≤ 65536))) = decided_both pages extents in
    let sizes : Decided ((((64 ≤ p) × (p ≤ 65536)) × IsTrue (is_power_of_two p)) × (((1 ≤ n) × (n ≤ 65536)) × ((2 ≤ e) × (e ≤ 65536)))) =
    decided_both page counts in
    let all : Decided (((((64 ≤ p) × (p ≤ 65536)) × IsTrue (is_power_of_two p)) × (((1 ≤ n) × (n ≤ 65536)) × ((2 ≤ e) × (e ≤ 65536)))) × ((p * n ≤ max_extent_bytes) × (p * n * e ≤ max_disk_bytes))) =
    decided_both sizes fits in
    decided_like all
    (λ h. record {
      page_least = h.0.0.0.0;
      page_most = h.0.0.0.1;
      page_power = h.0.0.1;
      pages_least = h.0.1.0.0;
      pages_most = h.0.1.0.1;
      extents_least = h.0.1.1.0;
      extents_most = h.0.1.1.1;
      extent_fits = h.1.0;
      total_fits = h.1.1;
    })
    (λ h. (
      (
        ((h.page_least, h.page_most), h.page_power),
        ((h.pages_least, h.pages_most), (h.extents_least, h.extents_most)),
      ),
      (h.extent_fits, h.total_fits),
    ))

-- the geometry of some numbers
record HasNumbers (p n e : ℕ) (g : Geometry) : Type 0 where
  pub page : g.page ≡ p
  pub pages : g.pages ≡ n
  pub extents : g.extents ≡ e

limits_of : (g : Geometry) → AreLimits g.page g.pages g.extents
limits_of g = record {
  page_least = g.page_least;
  page_most = g.page_most;
  page_power = g.page_power;
  pages_least = g.pages_least;
  pages_most = g.pages_most;
  extents_least = g.extents_least;
  extents_most = g.extents_most;
  extent_fits = g.extent_fits;
  total_fits = g.total_fits;
}

same_limits : (p n e q m f : ℕ) → q ≡ p → m ≡ n → f ≡ e → AreLimits q m f → AreLimits p n e
same_limits p n e q m f hp hn he limits = rw (sym hp, sym hn, sym he) limits

some_geometry : (p n e : ℕ) → ((g : Geometry) × HasNumbers p n e g) ⊎ ((g : Geometry) → HasNumbers p n e g → ⊥)
some_geometry p n e = by (decided_limits p n e)
  where
    by : Decided (AreLimits p n e) → ((g : Geometry) × HasNumbers p n e g) ⊎ ((g : Geometry) → HasNumbers p n e g → ⊥)
    by (inl l) = inl (
      record {
        page = p;
        pages = n;
        extents = e;
        page_least = l.page_least;
        page_most = l.page_most;
        page_power = l.page_power;
        pages_least = l.pages_least;
        pages_most = l.pages_most;
        extents_least = l.extents_least;
        extents_most = l.extents_most;
        extent_fits = l.extent_fits;
        total_fits = l.total_fits;
      },
      record { page = refl; pages = refl; extents = refl },
    )
    by (inr none) = inr (λ g h. none (same_limits p n e g.page g.pages g.extents h.page h.pages h.extents (limits_of g)))

-- ---- the record at an offset

-- at most so many bytes has a record of any sizes
abbrev most_of_any : ℕ
most_of_any = 526268

module _ (at : ℕ → Option ℕ) (offset : ℕ) where
  abbrev here : List ℕ
  here = bytes_here at offset most_of_any

  -- the sizes that the bytes there would have as a record
  abbrev page_here : ℕ
  page_here = big_number 4 (take 4 (drop 12 (take 26 here)))

  abbrev pages_here : ℕ
  pages_here = big_number 4 (take 4 (drop 16 (take 26 here)))

  abbrev extents_here : ℕ
  extents_here = big_number 4 (take 4 (drop 20 (take 26 here)))

  module _ {g : Geometry} {c : Contents} (s : StandsByOwnSizes at offset g c) where
    begins_here : BeginsWithRecord g here c
    begins_here = record {
      contents = s.contents;
      rest = drop (length (record_bytes g c)) here;
      spelled =
          begin_with at offset most_of_any (record_bytes g c) s.stands
          (omega (
            arith,
            length_record s.contents,
            head_sizes (count_in c),
            few_listed g c.retired s.contents.retired,
            s.contents.run_count,
            g.extents_most,
          ));
    }

    front_here : IsFront g (take 26 here) (kind_by (count_in c)) c.generation (length c.runs)
    front_here = front_of_head here (is_head begins_here)

    numbers_here : HasNumbers page_here pages_here extents_here g
    numbers_here = record {
      page =
          sym
          (ap (λ (y : List ℕ). big_number 4 (take 4 (drop 12 y))) front_here.spelled ∙ big_number-reads_back 4 g.page [] (omega (arith, g.page_most)));
      pages =
          sym
          (ap (λ (y : List ℕ). big_number 4 (take 4 (drop 16 y))) front_here.spelled ∙ big_number-reads_back 4 g.pages [] (omega (arith, g.pages_most)));
      extents =
          sym
          (ap (λ (y : List ℕ). big_number 4 (take 4 (drop 20 y))) front_here.spelled ∙ big_number-reads_back 4 g.extents [] (omega (arith, g.extents_most)));
    }

  one_geometry : {g h : Geometry} {c d : Contents} → StandsByOwnSizes at offset g c → StandsByOwnSizes at offset h d → g ≡ h
  one_geometry {g} {h} s t =
      let a = numbers_here s in
      let b = numbers_here t in
      same_geometry g h (a.page ∙ sym b.page) (a.pages ∙ sym b.pages) (a.extents ∙ sym b.extents)

  one_contents : (g : Geometry) (c d : Contents) → StandsByOwnSizes at offset g c → StandsByOwnSizes at offset g d → c ≡ d
  one_contents g c d s t = one_record_lem g here c d (begins_here s) (begins_here t)

  decided_own : (g : Geometry) (c : Contents) → Decided (StandsByOwnSizes at offset g c)
  decided_own g c =
      let bounds : Decided ((offset % 64 ≡ 0) × (offset % g.page ≡ 0)) =
      decided_both (decided_number (offset % 64) 0) (decided_number (offset % g.page) 0) in
      let limits : Decided ((offset + length (record_bytes g c) ≤ extent_bytes g) × AreContents g c) =
      decided_both (decided_at_most (offset + length (record_bytes g c)) (extent_bytes g)) (decided_contents g c) in
      let front : Decided (((offset % 64 ≡ 0) × (offset % g.page ≡ 0)) × ((offset + length (record_bytes g c) ≤ extent_bytes g) × AreContents g c)) =
      decided_both bounds limits in
      let all : Decided ((((offset % 64 ≡ 0) × (offset % g.page ≡ 0)) × ((offset + length (record_bytes g c) ≤ extent_bytes g) × AreContents g c)) × AreBytesAt at offset (record_bytes g c)) =
      decided_both front (decided_bytes_at at offset (record_bytes g c)) in
      decided_like all
      (λ h. record { step = h.0.0.0; page_bound = h.0.0.1; within = h.0.1.0; contents = h.0.1.1; stands = h.1 })
      (λ h. (((h.step, h.page_bound), (h.within, h.contents)), h.stands))

  -- one stands there by its own sizes, or none does
  own_there : ((g : Geometry) × (c : Contents) × StandsByOwnSizes at offset g c) ⊎ ((g : Geometry) (c : Contents) → StandsByOwnSizes at offset g c → ⊥)
  own_there = by_sizes (some_geometry page_here pages_here extents_here)
    where
      by_sizes : ((g : Geometry) × HasNumbers page_here pages_here extents_here g) ⊎ ((g : Geometry) → HasNumbers page_here pages_here extents_here g → ⊥) →
          ((g : Geometry) × (c : Contents) × StandsByOwnSizes at offset g c) ⊎ ((g : Geometry) (c : Contents) → StandsByOwnSizes at offset g c → ⊥)
      by_sizes (inr none) = inr (λ g c s. none g (numbers_here s))
      by_sizes (inl sized) = by (decided_own g plain) (decided_own g listing)
        where
          g : Geometry
          g = sized.0

          plain : Contents
          plain = contents_in g here None

          listing : Contents
          listing = contents_in g here (Some (big_number 2 (drop 26 (take 28 here))))

          by : Decided (StandsByOwnSizes at offset g plain) → Decided (StandsByOwnSizes at offset g listing) →
              ((h : Geometry) × (c : Contents) × StandsByOwnSizes at offset h c) ⊎ ((h : Geometry) (c : Contents) → StandsByOwnSizes at offset h c → ⊥)
          by (inl s) d = inl (g, plain, s)
          by (inr none) (inl s) = inl (g, listing, s)
          by (inr none) (inr neither) = inr (λ h c s.
              let n = numbers_here s in
              let same : h ≡ g =
              same_geometry h g (n.page ∙ sym sized.1.page) (n.pages ∙ sym sized.1.pages) (n.extents ∙ sym sized.1.extents) in
              at_count c (subst (λ (k : Geometry). StandsByOwnSizes at offset k c) same s) (count_in c) refl)
            where
              at_count : (c : Contents) → StandsByOwnSizes at offset g c → (k : Option ℕ) → count_in c ≡ k → ⊥
              at_count c s None e =
                  let is : plain ≡ c = ap (contents_in g here) (sym e) ∙ contents_again (begins_here s) in
                  none (subst (λ (d : Contents). StandsByOwnSizes at offset g d) (sym is) s)
              at_count c s (Some t) e =
                  let count : big_number 2 (drop 26 (take 28 here)) ≡ t = listed_count (begins_here s) t e in
                  let is : listing ≡ c =
                  ap (λ n. contents_in g here (Some n)) count ∙ ap (contents_in g here) (sym e) ∙ contents_again (begins_here s) in
                  neither (subst (λ (d : Contents). StandsByOwnSizes at offset g d) (sym is) s)

-- ---- all records

module _ (at : ℕ → Option ℕ) where
  -- a record is found at an offset
  abbrev FoundAt : ℕ → FoundRecord → Type 0
  FoundAt offset r = IsFoundRecord at r × (r.offset ≡ offset)

  stands_at : (offset : ℕ) (r : FoundRecord) (f : IsFoundRecord at r) → r.offset ≡ offset → StandsByOwnSizes at offset r.geometry f.0
  stands_at offset r f e = subst (λ (o : ℕ). StandsByOwnSizes at o r.geometry f.0) e f.1

  found_there : (offset : ℕ) → ((r : FoundRecord) × FoundAt offset r) ⊎ (((r : FoundRecord) × FoundAt offset r) → ⊥)
  found_there offset = by (own_there at offset)
    where
      by : ((g : Geometry) × (c : Contents) × StandsByOwnSizes at offset g c) ⊎ ((g : Geometry) (c : Contents) → StandsByOwnSizes at offset g c → ⊥) →
          ((r : FoundRecord) × FoundAt offset r) ⊎ (((r : FoundRecord) × FoundAt offset r) → ⊥)
      by (inl (g, c, s)) = inl (
        record { offset = offset; kind = kind_of c; generation = c.generation; geometry = g },
        ((c, s, refl, refl), refl),
      )
      by (inr none) = inr (λ x. none x.0.geometry x.1.0.0 (stands_at offset x.0 x.1.0 x.1.1))

  -- at most one is
  one_found : (offset : ℕ) (r q : FoundRecord) → FoundAt offset r → FoundAt offset q → r ≡ q
  one_found offset r q (f, e) (h, d) =
      let s = stands_at offset r f e in
      let t = stands_at offset q h d in
      let geometry : r.geometry ≡ q.geometry = one_geometry at offset s t in
      let contents : f.0 ≡ h.0 =
      one_contents at offset q.geometry f.0 h.0 (subst (λ (k : Geometry). StandsByOwnSizes at offset k f.0) geometry s) t in
      let kind : r.kind ≡ q.kind = f.2 ∙ ap kind_of contents ∙ sym h.2 in
      let generation : r.generation ≡ q.generation = f.3 ∙ ap (λ (c : Contents). c.generation) contents ∙ sym h.3 in
      let place : r.offset ≡ q.offset = e ∙ sym d in
      λ i. record { offset = place i; kind = kind i; generation = generation i; geometry = geometry i }

  records_at : (offsets : List ℕ) → ((o : ℕ) → Contains offsets o → (r : FoundRecord) × FoundAt o r) →
      (rs : List FoundRecord) × (map (λ r. r.offset) rs ≡ offsets) × All (IsFoundRecord at) rs
  records_at [] found = ([], refl, All-nil (IsFoundRecord at))
  records_at (o ∷ os) found =
      let first = found o (0, omega arith, refl) in
      let rest = records_at os (λ p there. found p (suc there.0, omega (arith, there.1), there.2)) in (
        first.0 ∷ rest.0,
        ap (λ n. n ∷ map (λ (r : FoundRecord). r.offset) rest.0) first.1.1 ∙ ap (λ (ns : List ℕ). o ∷ ns) rest.1,
        All-cons (IsFoundRecord at) first.0 rest.0 first.1.0 rest.2,
      )

  some_records : (rs : List FoundRecord) × AreFoundRecords at rs
  some_records = (
    on.0,
    record {
      rising = λ i j d lt below.
          let long = length-map on.0 (λ (r : FoundRecord). r.offset) in
          rw (
            get_or-map (λ (r : FoundRecord). r.offset) on.0 i d d.offset (omega (arith, lt, below)),
            get_or-map (λ (r : FoundRecord). r.offset) on.0 j d d.offset below,
          ) at
          (subst (λ (ns : List ℕ). AllPairs (λ a b. a < b) ns) (sym on.1) those.1.rising i j d.offset lt (omega (arith, below, long)));
      exact = λ r. ((λ there. All-contains (IsFoundRecord at) on.0 r on.2 there), (λ f. among r f));
    },
  )
    where
      those : (os : List ℕ) × AreThoseBelow (λ o. (r : FoundRecord) × FoundAt o r) max_extent_bytes os
      those = those_below (λ o. (r : FoundRecord) × FoundAt o r) found_there max_extent_bytes

      on : (rs : List FoundRecord) × (map (λ r. r.offset) rs ≡ those.0) × All (IsFoundRecord at) rs
      on = records_at those.0 (λ o there. (those.1.each o there).1)

      among : (r : FoundRecord) → IsFoundRecord at r → Contains on.0 r
      among r f =
          let low : r.offset < max_extent_bytes =
          omega (arith, f.1.within, some_record r.geometry f.0, r.geometry.extent_fits) in
          let offsets : Contains (map (λ (q : FoundRecord). q.offset) on.0) r.offset =
          subst (λ (ns : List ℕ). Contains ns r.offset) (sym on.1) (those.1.all r.offset low (r, (f, refl))) in
          let within : offsets.0 < length on.0 =
          omega (arith, offsets.1, length-map on.0 (λ (q : FoundRecord). q.offset)) in
          let q = get_or on.0 offsets.0 r in
          let same_offset : q.offset ≡ r.offset =
          sym (get_or-map (λ (x : FoundRecord). x.offset) on.0 offsets.0 r r.offset within) ∙ offsets.2 in
          (offsets.0, within, one_found r.offset q r (on.2 offsets.0 r within, same_offset) (f, refl))

-- ---- lost blocks

-- the runs of lost blocks up to a block
runs_to : (lost : List Bool) (n : ℕ) → (first : ℕ) × RunsFrom lost first n × ((ranges : List LostBytes) × AreRunsTo lost n ranges)
runs_to lost zero = (
  0,
  record {
    from = omega arith;
    all = λ n low high. absurd (omega (arith, high));
    not_before = λ n e. absurd (omega (arith, e));
  },
  (
    [],
    record {
      rising = λ i j d lt here. absurd (omega (arith, here));
      in_list = λ l first stop run low hf ht. absurd (omega (arith, run.some, low));
      are = λ l there. absurd (omega (arith, there.1));
    },
  ),
)
runs_to lost (suc n) =
    let before = runs_to lost n in
    let e : n + 1 ≡ suc n = omega arith in
    subst (λ (m : ℕ). (first : ℕ) × RunsFrom lost first m × ((ranges : List LostBytes) × AreRunsTo lost m ranges)) e
    (next before.0 before.1 before.2.0 before.2.1 (get_or lost n false) refl)
  where
    ends : (first : ℕ) → RunsFrom lost first (n + 1) → (ranges : List LostBytes) → AreRunsTo lost n ranges →
        (first : ℕ) × RunsFrom lost first (n + 1) × ((ranges : List LostBytes) × AreRunsTo lost (n + 1) ranges)
    ends first from ranges are = (first, from, (ranges ++ ended_run lost first n, runs_next from refl are))

    next : (first : ℕ) → RunsFrom lost first n → (ranges : List LostBytes) → AreRunsTo lost n ranges → (b : Bool) →
        get_or lost n false ≡ b →
        (first : ℕ) × RunsFrom lost first (n + 1) × ((ranges : List LostBytes) × AreRunsTo lost (n + 1) ranges)
    next first from ranges are false kept = ends (n + 1) (starts_behind n kept) ranges are
    next first from ranges are true gone = ends first (goes_on n gone from) ranges are

some_ranges : (lost : List Bool) → (ranges : List LostBytes) × AreLostRanges lost ranges
some_ranges lost =
    let all = runs_to lost (length lost) in
    let enough : length lost ≤ length lost = omega arith in
    (all.2.0, all_runs enough all.2.1)

-- raw bytes have all their records and lost ranges
pub some_found : (bytes : List ℕ) (lost : List Bool) →
    (records : List FoundRecord) × (ranges : List LostBytes) × AreFoundByOwnSizes bytes lost records ranges
some_found bytes lost =
    let records = some_records (byte_left bytes lost) in
    let ranges = some_ranges lost in
    (records.0, ranges.0, record { records_are = records.1; ranges_are = ranges.1 })

-- ---- which blocks are lost

-- byte k of block n is before this end, and is lacking
abbrev LacksAt : ℕ → (ℕ → Bool) → ℕ → ℕ → Type 0
LacksAt end lacking n k = (n * 512 + k < end) × (lacking (n * 512 + k) ≡ true)

decided_lacks : (end : ℕ) (lacking : ℕ → Bool) (n : ℕ) → Decided (LacksByte end lacking n)
decided_lacks end lacking n =
    elim (some_below (LacksAt end lacking n) (λ k. decided_both (decided_less (n * 512 + k) end) (decided_true (lacking (n * 512 + k)))) 512) [
      | inl has ↦ inl (record {
        place = n * 512 + has.0;
        low = omega arith;
        high = omega (arith, has.1);
        before_end = has.2.0;
        lacks = has.2.1;
      })
      | inr none ↦ inr (λ l.
          let own : n * 512 + (l.place - n * 512) ≡ l.place = omega (arith, l.low) in
          none (l.place - n * 512) (omega (arith, l.low, l.high)) (rw own l.before_end, rw own l.lacks))
    ]

-- marks below a number, by a condition that is decided
record AreMarksOf (P : ℕ → Type 0) (many : ℕ) (marks : List Bool) : Type 0 where
  pub few : length marks ≤ many
  pub all : (n : ℕ) → n < many → P n → IsMarked marks n
  pub only : (n : ℕ) → IsMarked marks n → P n

marks_of : (P : ℕ → Type 0) → ((n : ℕ) → Decided (P n)) → (many : ℕ) → (marks : List Bool) × AreMarksOf P many marks
marks_of P decided many = (
  map (λ n. test_of (decided n)) (range_with_len 0 many),
  record {
    few = omega (arith, long);
    all = λ n low has. at n low ∙ test_of-passes (decided n) has;
    only = λ n marked. by n marked (cases_lt n many);
  },
)
  where
    long : length (map (λ n. test_of (decided n)) (range_with_len 0 many)) ≡ many
    long = length-map-range_with_len (λ n. test_of (decided n)) 0 many

    at : (n : ℕ) → n < many → get_or (map (λ n. test_of (decided n)) (range_with_len 0 many)) n false ≡ test_of (decided n)
    at n low = get_or-map-range_with_len (λ n. test_of (decided n)) 0 many n n false low (omega arith)

    by : (n : ℕ) → IsMarked (map (λ n. test_of (decided n)) (range_with_len 0 many)) n → (n < many) ⊎ (many ≤ n) → P n
    by n marked (inl low) = test_of-holds (decided n) (sym (at n low) ∙ marked)
    by n marked (inr high) =
        absurd (false≢true (sym (get_or_past (map (λ n. test_of (decided n)) (range_with_len 0 many)) n false (omega (arith, long, high))) ∙ marked))

some_lost : (bytes : List ℕ) (lacking : ℕ → Bool) (fails : ℕ → ℕ → Bool) (failures : ℕ) → (lost : List Bool) × LosesBlocks bytes lacking fails failures lost
some_lost bytes lacking fails failures =
    let marks = marks_of (LacksByte (length bytes) lacking) (decided_lacks (length bytes) lacking) (2 ^ 17) in (
      marks.0,
      record {
        few_blocks = marks.1.few;
        lacks = marks.1.all;
        failed = [];
        few = omega arith;
        each = All-nil (λ n. MayFailIn fails (n * 512) 512);
        only = λ n marked. inl (marks.1.only n marked);
      },
    )

-- of the known bytes, or of none, if none are known
pub some_found_in : (raw : Option (List ℕ)) (lacking : ℕ → Bool) (fails : ℕ → ℕ → Bool) (failures : ℕ) →
    (records : List FoundRecord) × (ranges : List LostBytes) × AreFoundInSome raw lacking fails failures records ranges
some_found_in raw lacking fails failures = by raw
  where
    found : (bytes : List ℕ) → (records : List FoundRecord) × (ranges : List LostBytes) × AreFoundWith bytes lacking fails failures records ranges
    found bytes =
        let lost = some_lost bytes lacking fails failures in
        let all = some_found bytes lost.0 in (all.0, all.1, record { lost = lost.0; loses = lost.1; found = all.2 })

    by : (raw : Option (List ℕ)) → (records : List FoundRecord) × (ranges : List LostBytes) × AreFoundInSome raw lacking fails failures records ranges
    by None = let all = found [] in (all.0, all.1, record { bytes = []; known = tt; found = all.2 })
    by (Some bytes) = let all = found bytes in (all.0, all.1, record { bytes = bytes; known = refl; found = all.2 })
