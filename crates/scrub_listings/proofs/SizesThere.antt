-- There are lines of the records and the lost bytes of raw bytes, and it is decided whether they are clean.
use Rattle.std.proofs.Common.{◌≡◌, ◌⊎◌, ◌<◌, ◌≤◌, ◌+◌, ◌-◌, ◌++◌, ℕ, zero, suc, Bool, true, false, List, [], ◌∷◌, length, get_or, All, arith, refl, sym, ◌∙◌, ap, subst, inl, inr, Option}
use Rattle.std.specs.Prelude.{◌↔◌, IsTrue}
use Rattle.std.proofs.lemmas.Bool.{cases_lt, false≢true}
use Rattle.std.proofs.lemmas.List.{get_or_default}
use Rattle.std.proofs.lemmas.List.Elements.{All-contains, All-contains_itself}
use Rattle.list_facts.proofs.Decisions.{Decided, decided_all, decided_both, decided_less, decided_like, decided_number}
use Rattle.scrub_disk.specs.declared.geometry.Geometry.{Geometry}
use Rattle.scrub_super.specs.declared.unknown_sizes.FoundRecord.{FoundRecord}
use Rattle.scrub_super.specs.declared.unknown_sizes.LostBytes.{LostBytes}
use Rattle.scrub_super.proofs.Geometries.{same_geometry}
use Rattle.scrub_super.proofs.SizesThere.{some_found, some_found_in}
use Rattle.scrub_listings.specs.declared.sizes_listing.lines.SizesLine.{SizesLine}
use Rattle.scrub_listings.specs.declared.sizes_listing.lines.SizesLine.TheVariants.{Record, Lost}
use Rattle.scrub_listings.specs.Sizes.{AreSizesLines, AreSizesOf, IsCleanFront, IsSizesListingOf, size_lines}
use Rattle.scrub_listings.specs.declared.sizes_listing.SizesFound.{SizesFound}
use Rattle.scrub_listings.specs.declared.sizes_listing.SizesFound.TheVariants.{Certain, Uncertain, NotFound}
use Rattle.scrub_listings.specs.steps.Sizes.{AreCleanLists, AreInOrder, AreSizesIn, AreUncertainLists, CanMerge, IsNextLine, record_count}
use Rattle.scrub_listings.proofs.SizesLists.{AreMerged, all_merged, can_merge, clean_front, counts_more, in_order, line_more, listing_known, none_merged, sizes_known}

element_at : {X : Type 0} (xs : List X) (i : ℕ) → i < length xs → (x : X) × (x ≡ get_or xs i x)
element_at [] i within = absurd (omega (arith, within))
element_at (x ∷ xs) zero within = (x, refl)
element_at (x ∷ xs) (suc i) within = element_at xs i (omega (arith, within))

module _ (records : List FoundRecord) (ranges : List LostBytes) where
  -- what begins first among the rest
  next_line : (r l : ℕ) → r ≤ length records → l ≤ length ranges → r + l < length records + length ranges →
      (line : SizesLine) × IsNextLine records ranges r l line
  next_line r l low few some = by (cases_lt r (length records)) (cases_lt l (length ranges))
    where
      by : (r < length records) ⊎ (length records ≤ r) → (l < length ranges) ⊎ (length ranges ≤ l) →
          (line : SizesLine) × IsNextLine records ranges r l line
      by (inr done) (inr over) = absurd (omega (arith, done, over, some))
      by (inl left) (inr over) =
          let x = element_at records r left in (Record x.0, (left, x.1, λ d more. absurd (omega (arith, more, over))))
      by (inr done) (inl more) =
          let y = element_at ranges l more in (Lost y.0, (more, y.1, λ d left. absurd (omega (arith, left, done))))
      by (inl left) (inl more) = first (cases_lt x.0.offset y.0.from)
        where
          x : (x : FoundRecord) × (x ≡ get_or records r x)
          x = element_at records r left

          y : (y : LostBytes) × (y ≡ get_or ranges l y)
          y = element_at ranges l more

          first : (x.0.offset < y.0.from) ⊎ (y.0.from ≤ x.0.offset) → (line : SizesLine) × IsNextLine records ranges r l line
          first (inl before) = (
            Record x.0,
            (
              left,
              x.1,
              λ d here.
                  let same : (get_or ranges l d).from ≡ y.0.from =
                  ap (λ (z : LostBytes). z.from) (get_or_default ranges l d y.0 here ∙ sym y.1) in
                  omega (arith, before, same),
            ),
          )
          first (inr behind) = (
            Lost y.0,
            (
              more,
              y.1,
              λ d here.
                  let same : (get_or records r d).offset ≡ x.0.offset =
                  ap (λ (z : FoundRecord). z.offset) (get_or_default records r d x.0 here ∙ sym x.1) in
                  omega (arith, behind, same),
            ),
          )

  -- the first n lines, of which r are of records
  record AreLines (n : ℕ) (r : ℕ) (lines : List SizesLine) : Type 0 where
    pub of_lines : r ≤ n
    pub of_records : r ≤ length records
    pub of_ranges : n - r ≤ length ranges
    pub merged : AreMerged records ranges r (n - r) lines

  line_behind : CanMerge records ranges → (n : ℕ) → suc n ≤ length records + length ranges →
      (r : ℕ) × ((lines : List SizesLine) × AreLines n r lines) →
      (r : ℕ) × ((lines : List SizesLine) × AreLines (suc n) r lines)
  line_behind can n within (r, (lines, h)) =
      let next = next_line r (n - r) h.of_records h.of_ranges (omega (arith, within, h.of_lines)) in
      let count : ℕ = record_count next.0 in
      let counts = counts_more records ranges r n count next.0 h.of_lines next.1 refl h.of_records h.of_ranges in
      let e : n + 1 ≡ suc n = omega arith in
      let more : AreMerged records ranges (r + count) (n + 1 - (r + count)) (lines ++ next.0 ∷ []) =
      line_more records ranges r n lines (lines ++ next.0 ∷ []) next.0 count h.of_lines next.1 refl refl (λ c. h.merged) can in (
        r + count,
        (
          lines ++ next.0 ∷ [],
          subst (λ (m : ℕ). AreLines m (r + count) (lines ++ next.0 ∷ [])) e
              (record { of_lines = counts.0; of_records = counts.1; of_ranges = counts.2; merged = more }),
        ),
      )

  lines_to : CanMerge records ranges → (n : ℕ) → n ≤ length records + length ranges →
      (r : ℕ) × ((lines : List SizesLine) × AreLines n r lines)
  lines_to can zero within = (
    0,
    (
      [],
      record {
        of_lines = omega arith;
        of_records = omega arith;
        of_ranges = omega arith;
        merged = none_merged records ranges;
      },
    ),
  )
  lines_to can (suc n) within = line_behind can n within (lines_to can n (omega (arith, within)))

  some_lines : CanMerge records ranges → (lines : List SizesLine) × AreInOrder records ranges lines
  some_lines can =
      let all = lines_to can (length records + length ranges) (omega arith) in
      let h = all.1.1 in (
        all.1.0,
        all_merged records ranges all.0 (length records + length ranges - all.0) all.1.0
            (omega (arith, h.of_ranges, h.of_lines)) (omega (arith, h.of_records)) h.merged,
      )

  -- ---- whether they are clean

  decided_geometry : (g h : Geometry) → Decided (g ≡ h)
  decided_geometry g h =
      let two : Decided ((g.page ≡ h.page) × (g.pages ≡ h.pages)) =
      decided_both (decided_number g.page h.page) (decided_number g.pages h.pages) in
      let all : Decided (((g.page ≡ h.page) × (g.pages ≡ h.pages)) × (g.extents ≡ h.extents)) =
      decided_both two (decided_number g.extents h.extents) in
      decided_like all (λ e. same_geometry g h e.0.0 e.0.1 e.1)
      (λ e. ((ap (λ (k : Geometry). k.page) e, ap (λ (k : Geometry). k.pages) e), ap (λ (k : Geometry). k.extents) e))

  decided_none : (ls : List LostBytes) → Decided (ls ≡ [])
  decided_none [] = inl refl
  decided_none (l ∷ ls) = inr (λ e. omega (arith, ap (λ (xs : List LostBytes). length xs) e))

  decided_clean : Decided (AreCleanLists records ranges)
  decided_clean =
      let ends : Decided ((0 < length records) × (ranges ≡ [])) =
      decided_both (decided_less 0 (length records)) (decided_none ranges) in
      let sizes : Decided (All (λ (r : FoundRecord). All (λ (s : FoundRecord). r.geometry ≡ s.geometry) records) records) =
      decided_all (λ (r : FoundRecord). All (λ (s : FoundRecord). r.geometry ≡ s.geometry) records)
      (λ r. decided_all (λ (s : FoundRecord). r.geometry ≡ s.geometry) (λ s. decided_geometry r.geometry s.geometry) records) records in
      let all : Decided (((0 < length records) × (ranges ≡ [])) × All (λ (r : FoundRecord). All (λ (s : FoundRecord). r.geometry ≡ s.geometry) records) records) =
      decided_both ends sizes in
      decided_like all
      (λ h. record {
        some = h.0.0;
        same_sizes = λ r s c d.
            All-contains (λ (t : FoundRecord). r.geometry ≡ t.geometry) records s
            (All-contains (λ (q : FoundRecord). All (λ (t : FoundRecord). q.geometry ≡ t.geometry) records) records r h.1 c) d;
        nothing_lost = h.0.1;
      })
      (λ h. (
        (h.some, h.nothing_lost),
        λ k d here j e there.
            h.same_sizes (get_or records k d) (get_or records j e) (All-contains_itself records k d here) (All-contains_itself records j e there),
      ))

  decided_uncertain : Decided (AreUncertainLists records ranges)
  decided_uncertain =
      let both : Decided ((0 < length records) × (0 < length ranges)) =
      decided_both (decided_less 0 (length records)) (decided_less 0 (length ranges)) in
      decided_like both (λ h. record { some = h.0; something_lost = h.1 }) (λ h. (h.some, h.something_lost))

  -- the sizes of all records if they are clean, or that they are uncertain, or neither
  some_sizes : (sizes : SizesFound) × AreSizesIn records ranges sizes
  some_sizes = by decided_clean decided_uncertain
    where
      by : Decided (AreCleanLists records ranges) → Decided (AreUncertainLists records ranges) →
          (sizes : SizesFound) × AreSizesIn records ranges sizes
      by (inr odd) (inl uncertain) = (Uncertain, uncertain)
      by (inr odd) (inr no_doubt) = (NotFound, (odd, no_doubt))
      by (inl clean) whether =
          let first = element_at records 0 clean.some in (
            Certain first.0.geometry,
            (
              clean,
              λ k d here.
                  clean.same_sizes (get_or records k d) first.0 (All-contains_itself records k d here)
                  (0, clean.some, sym first.1),
            ),
          )

-- Raw bytes with any lost blocks have a text of lines.
pub some_sizes_lines : (bytes : List ℕ) (lost : List Bool) → (text : List ℕ) × AreSizesLines bytes lost text
some_sizes_lines bytes lost =
    let found = some_found bytes lost in
    let lines = some_lines found.0 found.1 (can_merge bytes lost found.0 found.1 found.2) in (
      size_lines lines.0,
      record { lines = lines.0; in_order = in_order bytes lost found.0 found.1 lines.0 found.2 lines.1; text_is = refl },
    )

-- whether a condition that is decided holds, as a truth value
truth : {P Q : Type 0} → P ↔ Q → Decided P → (b : Bool) × (IsTrue b ↔ Q)
truth same (inl holds) = (true, ((λ is. same.0 holds), (λ c. refl)))
truth same (inr fails) = (false, ((λ is. absurd (false≢true is)), (λ c. absurd (fails (same.1 c)))))

-- Some truth value says whether raw bytes with these lost blocks have a clean front.
pub some_clean_front : (bytes : List ℕ) (lost : List Bool) → (clean : Bool) × (IsTrue clean ↔ IsCleanFront bytes lost)
some_clean_front bytes lost =
    let found = some_found bytes lost in
    truth (clean_front bytes lost found.0 found.1 found.2) (decided_clean found.0 found.1)

-- There is a listing of sizes for any raw image, known or not, any lacking bytes and any failures.
pub some_sizes_listing : (raw : Option (List ℕ)) (lacking : ℕ → Bool) (fails : ℕ → ℕ → Bool) (failures : ℕ) →
    (text : List ℕ) × (clean : Bool) × IsSizesListingOf raw lacking fails failures text clean
some_sizes_listing raw lacking fails failures =
    let some = some_found_in raw lacking fails failures in
    let found = some.2.found in
    let lines = some_lines some.0 some.1 (can_merge some.2.bytes found.lost some.0 some.1 found.found) in
    let Clean : Type 0 = AreCleanLists some.0 some.1 in
    let clean : (b : Bool) × (IsTrue b ↔ Clean) = truth ((λ c. c), (λ c. c)) (decided_clean some.0 some.1) in (
      size_lines lines.0,
      clean.0,
      listing_known raw lacking failures some.0 some.1 lines.0 (size_lines lines.0) clean.0 some.2 (λ can. lines.1) refl clean.1,
    )

-- For any raw image, lacking bytes and failures the sizes are certain, uncertain or not found.
pub some_sizes_of : (raw : Option (List ℕ)) (lacking : ℕ → Bool) (fails : ℕ → ℕ → Bool) (failures : ℕ) →
    (found : SizesFound) × AreSizesOf raw lacking fails failures found
some_sizes_of raw lacking fails failures =
    let some = some_found_in raw lacking fails failures in
    let sizes = some_sizes some.0 some.1 in
    (sizes.0, sizes_known raw lacking failures some.0 some.1 some.2 sizes.0 sizes.1)
