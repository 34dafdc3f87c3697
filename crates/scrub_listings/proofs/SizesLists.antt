-- Records and lost ranges in one list by ascending start, and the lines of raw bytes that it gives.
use Rattle.std.proofs.Common.{◌≡◌, ◌≢◌, ◌<◌, ◌≤◌, ◌+◌, ◌-◌, ◌*◌, ◌/◌, ◌++◌, ℕ, Bool, false, not, List, [], ◌∷◌, length, slice_get, take, drop, get_or, arith, refl, sym, ◌∙◌, ap, subst, inl, inr, Option, Some}
use Rattle.std.specs.Prelude.{◌↔◌, IsTrue}
use Rattle.std.specs.List.{All, AllPairs, Contains, position_or_len}
use Rattle.std.proofs.lemmas.Bool.{cases_lt, false≢true, not-false, not-true}
use Rattle.std.proofs.lemmas.List.{take_all, take_more, get_or_default, get_or-drop, length-drop}
use Rattle.std.proofs.lemmas.List.Sums.{fails_before_first, passes_at_first}
use Rattle.std.proofs.lemmas.List.Elements.{All-contains_itself, Contains-push, Contains-push_cases, Contains-append_left}
use Rattle.list_facts.proofs.Rising.{one_rising_by, rises_more}
use Rattle.scrub_disk.specs.declared.geometry.Geometry.{Geometry}
use Rattle.scrub_super.specs.declared.unknown_sizes.FoundRecord.{FoundRecord}
use Rattle.scrub_super.specs.declared.unknown_sizes.LostBytes.{LostBytes}
use Rattle.scrub_super.specs.Blocks.{byte_left, IsMarked, IsLostRun}
use Rattle.scrub_super.specs.UnknownSizes.{IsFoundRecord, AreLostBytes, AreFoundByOwnSizes, AreFoundInSome}
use Rattle.scrub_super.proofs.UnknownSizesSteps.{some_record}
use Rattle.scrub_super.proofs.BlocksFront.{left_at, left_there, mark_within}
use Rattle.scrub_super.proofs.FoundByOwnSizes.{same_record}
use Rattle.scrub_listings.specs.declared.sizes_listing.lines.SizesLine.{SizesLine}
use Rattle.scrub_listings.specs.declared.sizes_listing.lines.SizesLine.TheVariants.{Record, Lost}
use Rattle.scrub_listings.specs.declared.sizes_listing.SizesFound.{SizesFound}
use Rattle.scrub_listings.specs.declared.sizes_listing.SizesFound.TheVariants.{Certain, Uncertain, NotFound}
use Rattle.scrub_listings.specs.Sizes.{line_start, size_lines, IsFoundInFront, AreSizesInOrder, AreSizesLines, AreSizesOf, IsCleanFront, IsSizesListingOf, IsUncertainFront}
use Rattle.scrub_listings.specs.steps.Sizes.{CanMerge, AreInOrder, AreSizesIn, IsNextLine, record_count, AreCleanLists, AreUncertainLists}

-- ---- the merge

-- the first elements of two lists are in the list of lines, and all in it begins before the others
pub record AreMergedBy {X Y : Type 0} (f : X → SizesLine) (g : Y → SizesLine) (xs : List X) (ys : List Y) (n m : ℕ)
    (lines : List SizesLine) : Type 0 where
  pub rising : AllPairs (λ a b. line_start a < line_start b) lines
  pub firsts_are : (x : X) → Contains lines (f x) ↔ Contains (take n xs) x
  pub seconds_are : (y : Y) → Contains lines (g y) ↔ Contains (take m ys) y
  pub below_firsts : (line : SizesLine) → Contains lines line → (k : ℕ) (d : X) → n ≤ k → k < length xs →
      line_start line < line_start (f (get_or xs k d))
  pub below_seconds : (line : SizesLine) → Contains lines line → (k : ℕ) (d : Y) → m ≤ k → k < length ys →
      line_start line < line_start (g (get_or ys k d))

-- the first records and the first ranges are in the list, and all in it begins before the others
abbrev pub AreMerged : List FoundRecord → List LostBytes → ℕ → ℕ → List SizesLine → Type 0
AreMerged records ranges r l lines = AreMergedBy Record Lost records ranges r l lines

none_in : {X : Type 0} (x : X) → Contains [] x → ⊥
none_in x c = omega (arith, c.1)

-- The empty list has the first 0 records and the first 0 ranges.
pub none_merged : (records : List FoundRecord) (ranges : List LostBytes) → AreMerged records ranges 0 0 []
none_merged records ranges = record {
  rising = λ i j d hi hj. absurd (omega (arith, hj));
  firsts_are = λ x. ((λ c. absurd (none_in (Record x) c)), (λ c. absurd (none_in x c)));
  seconds_are = λ x. ((λ c. absurd (none_in (Lost x) c)), (λ c. absurd (none_in x c)));
  below_firsts = λ line c. absurd (none_in line c);
  below_seconds = λ line c. absurd (none_in line c);
}

-- the default doesn't matter
at_any : {X : Type 0} (xs : List X) (n : ℕ) (x d : X) → n < length xs → x ≡ get_or xs n x → get_or xs n d ≡ x
at_any xs n x d h is = get_or_default xs n d x h ∙ sym is

-- the elements from n on begin at or past the n-th
from_here : {X : Type 0} (key : X → ℕ) (xs : List X) (n k start : ℕ) (d : X) → AllPairs (λ a b. key a < key b) xs →
    n ≤ k → k < length xs → start < key (get_or xs n d) → start < key (get_or xs k d)
from_here key xs n k start d up le lt low = elim (cases_lt n k) [
  | inl later ↦ omega (arith, low, up n k d later lt)
  | inr here ↦ let e : k ≡ n = omega (arith, le, here) in subst (λ (m : ℕ). start < key (get_or xs m d)) (sym e) low
]

-- the other list as the first
swapped : {X Y : Type 0} {f : X → SizesLine} {g : Y → SizesLine} {xs : List X} {ys : List Y} {n m : ℕ} {lines : List SizesLine} →
    AreMergedBy f g xs ys n m lines → AreMergedBy g f ys xs m n lines
swapped h = record {
  rising = h.rising;
  firsts_are = h.seconds_are;
  seconds_are = h.firsts_are;
  below_firsts = h.below_seconds;
  below_seconds = h.below_firsts;
}

module _ {X Y : Type 0} (f : X → SizesLine) (g : Y → SizesLine) (one : (x y : X) → f x ≡ f y → x ≡ y) (apart : (x : X) (y : Y) → f x ≡ g y → ⊥) where
  one_more : (xs : List X) (ys : List Y) (n m : ℕ) (lines : List SizesLine) (x : X) →
      AllPairs (λ a b. line_start (f a) < line_start (f b)) xs → AllPairs (λ a b. line_start (g a) < line_start (g b)) ys →
      AreMergedBy f g xs ys n m lines → n < length xs → x ≡ get_or xs n x →
      ((d : Y) → m < length ys → line_start (f x) < line_start (g (get_or ys m d))) →
      AreMergedBy f g xs ys (n + 1) m (lines ++ f x ∷ [])
  one_more xs ys n m lines x rise others old here is first = record {
    rising = rises_more line_start lines (f x) old.rising (λ line c.
        let low = old.below_firsts line c n x (omega arith) here in
        let at : line_start (f (get_or xs n x)) ≡ line_start (f x) = ap (λ y. line_start (f y)) (sym is) in omega (arith, low, at));
    firsts_are = λ y. (
      (λ c. rw grown (elim (Contains-push_cases lines (f x) (f y) c) [
        | inl was ↦ Contains-append_left (take n xs) (x ∷ []) y ((old.firsts_are y).0 was)
        | inr same ↦ subst (λ (z : X). Contains (take n xs ++ x ∷ []) z) (one x y same) (Contains-push (take n xs) x)
      ])),
      (λ c. elim (Contains-push_cases (take n xs) x y (rw grown at c)) [
        | inl was ↦ Contains-append_left lines (f x ∷ []) (f y) ((old.firsts_are y).1 was)
        | inr same ↦ subst (λ (z : X). Contains (lines ++ f x ∷ []) (f z)) same (Contains-push lines (f x))
      ]),
    );
    seconds_are = λ y. (
      (λ c. elim (Contains-push_cases lines (f x) (g y) c) [
        | inl was ↦ (old.seconds_are y).0 was
        | inr same ↦ absurd (apart x y same)
      ]),
      (λ c. Contains-append_left lines (f x ∷ []) (g y) ((old.seconds_are y).1 c)),
    );
    below_firsts = λ line c k d le lt. elim (Contains-push_cases lines (f x) line c) [
      | inl was ↦ old.below_firsts line was k d (omega (arith, le)) lt
      | inr same ↦
          let up = rise n k d (omega (arith, le)) lt in
          let at : line_start (f (get_or xs n d)) ≡ line_start (f x) = ap (λ y. line_start (f y)) (at_any xs n x d here is) in
          let start : line_start (f x) ≡ line_start line = ap line_start same in
          omega (arith, up, at, start)
    ];
    below_seconds = λ line c k d le lt. elim (Contains-push_cases lines (f x) line c) [
      | inl was ↦ old.below_seconds line was k d le lt
      | inr same ↦
          let up = from_here (λ y. line_start (g y)) ys m k (line_start (f x)) d others le lt (first d (omega (arith, le, lt))) in
          let start : line_start (f x) ≡ line_start line = ap line_start same in
          omega (arith, up, start)
    ];
  }
    where
      grown : take (n + 1) xs ≡ take n xs ++ x ∷ []
      grown = take_more xs n x here ∙ ap (λ y. take n xs ++ y ∷ []) (sym is)

not_lost : (x : FoundRecord) (y : LostBytes) → Record x ≡ Lost y → ⊥
not_lost x y e = cc

same_record_in : (x y : FoundRecord) → Record x ≡ Record y → x ≡ y
same_record_in x y e = cc

same_range_in : (x y : LostBytes) → Lost x ≡ Lost y → x ≡ y
same_range_in x y e = cc

record_more : (records : List FoundRecord) (ranges : List LostBytes) (r l : ℕ) (lines : List SizesLine) (x : FoundRecord) →
    CanMerge records ranges → AreMerged records ranges r l lines →
    r < length records → x ≡ get_or records r x →
    ((d : LostBytes) → l < length ranges → x.offset < (get_or ranges l d).from) →
    AreMerged records ranges (r + 1) l (lines ++ Record x ∷ [])
record_more records ranges r l lines x can = one_more Record Lost same_record_in not_lost records ranges r l lines x can.records_rise can.ranges_rise

range_more : (records : List FoundRecord) (ranges : List LostBytes) (r l : ℕ) (lines : List SizesLine) (x : LostBytes) →
    CanMerge records ranges → AreMerged records ranges r l lines →
    l < length ranges → x ≡ get_or ranges l x →
    ((d : FoundRecord) → r < length records → x.from ≤ (get_or records r d).offset) →
    AreMerged records ranges r (l + 1) (lines ++ Lost x ∷ [])
range_more records ranges r l lines x can old here is first =
    swapped
    (one_more Lost Record same_range_in (λ y z e. not_lost z y (sym e)) ranges records l r lines x can.ranges_rise can.records_rise (swapped old) here is
    (λ d more.
    let ne : (get_or records r d).offset ≢ x.from = can.apart (get_or records r d) x (All-contains_itself records r d more) (l, here, sym is) in
    omega (arith, first d more, ne)))

-- one more line, with the records and the ranges that are before the next
pub line_more : (records : List FoundRecord) (ranges : List LostBytes) (r n : ℕ) (lines more : List SizesLine) (line : SizesLine) (count : ℕ) →
    r ≤ n → IsNextLine records ranges r (n - r) line →
    count ≡ record_count line → more ≡ lines ++ line ∷ [] →
    (CanMerge records ranges → AreMerged records ranges r (n - r) lines) →
    CanMerge records ranges → AreMerged records ranges (r + count) (n + 1 - (r + count)) more
line_more records ranges r n lines more (Record x) count le next e m old can =
    let a : r + 1 ≡ r + count = omega (arith, e) in
    let b : n - r ≡ n + 1 - (r + count) = omega (arith, e, le) in
    subst (λ (ls : List SizesLine). AreMerged records ranges (r + count) (n + 1 - (r + count)) ls) (sym m)
    (subst (λ (k : ℕ). AreMerged records ranges k (n + 1 - (r + count)) (lines ++ Record x ∷ [])) a
    (subst (λ (k : ℕ). AreMerged records ranges (r + 1) k (lines ++ Record x ∷ [])) b
    (record_more records ranges r (n - r) lines x can (old can) next.0 next.1 next.2)))
line_more records ranges r n lines more (Lost x) count le next e m old can =
    let a : r ≡ r + count = omega (arith, e) in
    let b : n - r + 1 ≡ n + 1 - (r + count) = omega (arith, e, le) in
    subst (λ (ls : List SizesLine). AreMerged records ranges (r + count) (n + 1 - (r + count)) ls) (sym m)
    (subst (λ (k : ℕ). AreMerged records ranges k (n + 1 - (r + count)) (lines ++ Lost x ∷ [])) a
    (subst (λ (k : ℕ). AreMerged records ranges r k (lines ++ Lost x ∷ [])) b
    (range_more records ranges r (n - r) lines x can (old can) next.0 next.1 next.2)))

-- the counts stay within the lists
pub counts_more : (records : List FoundRecord) (ranges : List LostBytes) (r n count : ℕ) (line : SizesLine) → r ≤ n →
    IsNextLine records ranges r (n - r) line → count ≡ record_count line →
    r ≤ length records → n - r ≤ length ranges →
    (r + count ≤ n + 1) × (r + count ≤ length records) × (n + 1 - (r + count) ≤ length ranges)
counts_more records ranges r n count (Record x) le next e hr hl =
    (omega (arith, e, le), omega (arith, e, next.0), omega (arith, e, hl))
counts_more records ranges r n count (Lost x) le next e hr hl =
    (omega (arith, e, le), omega (arith, e, hr), omega (arith, e, next.0))

-- Once all records and ranges are merged, the lines are those of both lists, by ascending start.
pub all_merged : (records : List FoundRecord) (ranges : List LostBytes) (r l : ℕ) (lines : List SizesLine) →
    length records ≤ r → length ranges ≤ l → AreMerged records ranges r l lines → AreInOrder records ranges lines
all_merged records ranges r l lines hr hl h = record {
  rising = h.rising;
  records_are = rw (take_all r records hr) at h.firsts_are;
  ranges_are = rw (take_all l ranges hl) at h.seconds_are;
}

-- ---- what was found

-- no record begins in a lost block
apart_in : (bytes : List ℕ) (lost : List Bool) (r : FoundRecord) (l : LostBytes) →
    IsFoundRecord (byte_left bytes lost) r → AreLostBytes lost l → r.offset ≡ l.from → ⊥
apart_in bytes lost r l f run same =
    (left_there bytes lost (r.offset + 0) _ (f.1.stands 0 (omega (arith, some_record r.geometry f.0)))).0
    (let block : (r.offset + 0) / 512 ≡ run.0 = omega (arith, same, run.3) in ap (λ k. get_or lost k false) block ∙ run.2.all run.0 (omega arith) run.2.some)

-- Records and lost ranges that were found ascend, and no record begins where a range does.
pub can_merge : (bytes : List ℕ) (lost : List Bool) (records : List FoundRecord) (ranges : List LostBytes) →
    AreFoundByOwnSizes bytes lost records ranges → CanMerge records ranges
can_merge bytes lost records ranges h = record {
  records_rise = h.records_are.rising;
  ranges_rise = h.ranges_are.rising;
  apart = λ r l c d e. apart_in bytes lost r l ((h.records_are.exact r).0 c) ((h.ranges_are.exact l).0 d) e;
}

-- The merged lines of all that was found in raw bytes are all lines of these bytes, by ascending start.
pub in_order : (bytes : List ℕ) (lost : List Bool) (records : List FoundRecord) (ranges : List LostBytes) (lines : List SizesLine) →
    AreFoundByOwnSizes bytes lost records ranges →
    AreInOrder records ranges lines → AreSizesInOrder bytes lost lines
in_order bytes lost records ranges lines h o = record {
  rising = o.rising;
  records = λ r. (
    (λ c. (h.records_are.exact r).0 ((o.records_are r).0 c)),
    (λ f. (o.records_are r).1 ((h.records_are.exact r).1 f)),
  );
  ranges = λ l.
      ((λ c. (h.ranges_are.exact l).0 ((o.ranges_are l).0 c)), (λ f. (o.ranges_are l).1 ((h.ranges_are.exact l).1 f)));
}

-- ---- a lost block is in a run of lost blocks

-- if a block is lost, the first lost blocks are a run
some_run : (lost : List Bool) (n : ℕ) → IsMarked lost n → (first stop : ℕ) × IsLostRun lost first stop
some_run lost n m = (
  first,
  first + more,
  record {
    some = some;
    all = λ k low high.
        let e : k ≡ first + (k - first) = omega (arith, low) in
        ap (λ j. get_or lost j false) e ∙ sym (get_or-drop first lost (k - first) false)
        ∙ not-false (get_or rest (k - first) false) (fails_before_first not rest (k - first) false (omega (arith, low, high)));
    not_before = λ k e marked. false≢true (sym (fails_before_first (λ b. b) lost k false (omega (arith, e))) ∙ marked);
    not_behind = ended;
  },
)
  where
    first : ℕ
    first = position_or_len (λ b. b) lost

    rest : List Bool
    rest = drop first lost

    more : ℕ
    more = position_or_len not rest

    ended : IsMarked lost (first + more) → ⊥
    ended marked =
        let inside : more < length rest = omega (arith, mark_within lost (first + more) marked, length-drop first lost) in
        false≢true (sym (not-true (get_or rest more false) (passes_at_first not rest false inside)) ∙ get_or-drop first lost more false ∙ marked)

    some : first < first + more
    some = elim (cases_lt n first) [
      | inl before ↦ absurd (false≢true (sym (fails_before_first (λ b. b) lost n false before) ∙ m))
      | inr behind ↦ elim (cases_lt first (first + more)) [
        | inl over ↦ over
        | inr none ↦
            let here : first + more ≡ first = omega (arith, none) in
            absurd (ended (ap (λ j. get_or lost j false) here ∙ passes_at_first (λ b. b) lost false (omega (arith, behind, mark_within lost n m))))
      ]
    ]

-- ---- whether it is clean

an_element : {X : Type 0} (xs : List X) → 0 < length xs → (x : X) × Contains xs x
an_element [] some = absurd (omega (arith, some))
an_element (x ∷ xs) some = (x, (0, omega arith, refl))

empty_list : {X : Type 0} (xs : List X) → ((x : X) → Contains xs x → ⊥) → xs ≡ []
empty_list [] none = refl
empty_list (x ∷ xs) none = absurd (none x (0, omega arith, refl))

-- Raw bytes have a clean front exactly if the lists of what was found in them are clean.
pub clean_front : (bytes : List ℕ) (lost : List Bool) (records : List FoundRecord) (ranges : List LostBytes) →
    AreFoundByOwnSizes bytes lost records ranges →
    AreCleanLists records ranges ↔ IsCleanFront bytes lost
clean_front bytes lost records ranges h = (
  (λ c. record {
    some = let x = an_element records c.some in (x.0, (h.records_are.exact x.0).0 x.1);
    same_sizes = λ r s f g. c.same_sizes r s ((h.records_are.exact r).1 f) ((h.records_are.exact s).1 g);
    nothing_lost = λ n m.
        let run = some_run lost n m in
        let l : LostBytes = record { from = run.0 * 512; to = run.1 * 512 } in
        none_in l (rw c.nothing_lost at ((h.ranges_are.exact l).1 (run.0, run.1, run.2, refl, refl)));
  }),
  (λ c. record {
    some = let there = (h.records_are.exact c.some.0).1 c.some.1 in omega (arith, there.1);
    same_sizes = λ r s f g. c.same_sizes r s ((h.records_are.exact r).0 f) ((h.records_are.exact s).0 g);
    nothing_lost =
        empty_list ranges
        (λ l there. let run = (h.ranges_are.exact l).0 there in c.nothing_lost run.0 (run.2.all run.0 (omega arith) run.2.some));
  }),
)

-- In raw bytes there is a record, and something is lost, exactly if the lists of what was found in them say so.
pub uncertain_front : (bytes : List ℕ) (lost : List Bool) (records : List FoundRecord) (ranges : List LostBytes) →
    AreFoundByOwnSizes bytes lost records ranges →
    AreUncertainLists records ranges ↔ IsUncertainFront bytes lost
uncertain_front bytes lost records ranges h = (
  (λ u. record {
    some = let x = an_element records u.some in (x.0, (h.records_are.exact x.0).0 x.1);
    something_lost =
        let l = an_element ranges u.something_lost in
        let run = (h.ranges_are.exact l.0).0 l.1 in
        (run.0, run.2.all run.0 (omega arith) run.2.some);
  }),
  (λ u. record {
    some = let there = (h.records_are.exact u.some.0).1 u.some.1 in omega (arith, there.1);
    something_lost =
        let run = some_run lost u.something_lost.0 u.something_lost.1 in
        let l : LostBytes = record { from = run.0 * 512; to = run.1 * 512 } in
        let there = (h.ranges_are.exact l).1 (run.0, run.1, run.2, refl, refl) in
        omega (arith, there.1);
  }),
)

-- The lines of all that was found, with whether it is clean, are a listing of sizes.
pub listing_known : (raw : Option (List ℕ)) (lacking : ℕ → Bool) {fails : ℕ → ℕ → Bool} (failures : ℕ) (records : List FoundRecord) (ranges : List LostBytes) (lines : List SizesLine) (text : List ℕ) (clean : Bool) →
    AreFoundInSome raw lacking fails failures records ranges →
    (CanMerge records ranges → AreInOrder records ranges lines) → text ≡ size_lines lines →
    IsTrue clean ↔ AreCleanLists records ranges → IsSizesListingOf raw lacking fails failures text clean
listing_known raw lacking failures records ranges lines text clean some merged is answer =
    let bytes = some.bytes in
    let found = some.found in
    let front = clean_front bytes found.lost records ranges found.found in
    record {
      bytes = bytes;
      known = some.known;
      listing = record {
        lost = found.lost;
        loses = found.loses;
        lines = record {
          lines = lines;
          in_order =
              in_order bytes found.lost records ranges lines found.found
              (merged (can_merge bytes found.lost records ranges found.found));
          text_is = is;
        };
        is_clean = ((λ yes'. front.0 (answer.0 yes')), (λ c. answer.1 (front.1 c)));
      };
    }

-- what the lists say of the sizes is so of the bytes in which the records were found
pub sizes_known : (raw : Option (List ℕ)) (lacking : ℕ → Bool) {fails : ℕ → ℕ → Bool} (failures : ℕ) (records : List FoundRecord) (ranges : List LostBytes) →
    AreFoundInSome raw lacking fails failures records ranges → (said : SizesFound) → AreSizesIn records ranges said →
    AreSizesOf raw lacking fails failures said
sizes_known raw lacking failures records ranges some said answer = record {
  bytes = some.bytes;
  known = some.known;
  lost = some.found.lost;
  loses = some.found.loses;
  sizes = by said answer;
}
  where
    clean_is : AreCleanLists records ranges ↔ IsCleanFront some.bytes some.found.lost
    clean_is = clean_front some.bytes some.found.lost records ranges some.found.found

    uncertain_is : AreUncertainLists records ranges ↔ IsUncertainFront some.bytes some.found.lost
    uncertain_is = uncertain_front some.bytes some.found.lost records ranges some.found.found

    by : (s : SizesFound) → AreSizesIn records ranges s → IsFoundInFront some.bytes some.found.lost s
    by NotFound none = ((λ clean. none.0 (clean_is.1 clean)), (λ uncertain. none.1 (uncertain_is.1 uncertain)))
    by Uncertain uncertain = uncertain_is.0 uncertain
    by (Certain g) all = record {
      clean = clean_is.0 all.0;
      each = λ r f.
          let c = (some.found.found.records_are.exact r).1 f in
          ap (λ (x : FoundRecord). x.geometry) (sym c.2) ∙ all.1 c.0 r c.1;
    }

-- all have the sizes of the first
pub clean_lists : (records : List FoundRecord) (ranges : List LostBytes) (g : Geometry) (clean : Bool) →
    0 < length records → ranges ≡ [] →
    ((d : FoundRecord) → (get_or records 0 d).geometry ≡ g) → IsTrue clean ↔ All (λ r. r.geometry ≡ g) records →
    IsTrue clean ↔ AreCleanLists records ranges
clean_lists records ranges g clean some none first answer = (
  (λ yes'. record {
    some = some;
    same_sizes = λ r s c d.
        let e : r.geometry ≡ g = ap (λ x. x.geometry) (sym c.2) ∙ answer.0 yes' c.0 r c.1 in
        let f : s.geometry ≡ g = ap (λ x. x.geometry) (sym d.2) ∙ answer.0 yes' d.0 s d.1 in
        e ∙ sym f;
    nothing_lost = none;
  }),
  (λ c. answer.1 (λ k d hk. c.same_sizes (get_or records k d) (get_or records 0 d) (All-contains_itself records k d hk) (All-contains_itself records 0 d some) ∙ first d)),
)

-- each has the sizes of the first if all have the same
pub first_sizes : (records : List FoundRecord) (ranges : List LostBytes) (g : Geometry) → AreCleanLists records ranges →
    ((d : FoundRecord) → (get_or records 0 d).geometry ≡ g) → All (λ r. r.geometry ≡ g) records
first_sizes records ranges g c first k d hk =
    c.same_sizes (get_or records k d) (get_or records 0 d) (All-contains_itself records k d hk) (All-contains_itself records 0 d c.some)
    ∙ first d

-- ---- the laws

-- Raw bytes with given lost blocks have at most one text of lines.
pub one_text : (bytes : List ℕ) (lost : List Bool) (a b : List ℕ) → AreSizesLines bytes lost a →
    AreSizesLines bytes lost b → a ≡ b
one_text bytes lost a b x y =
    x.text_is
    ∙ ap size_lines
    (one_rising_by line_start x.lines y.lines x.in_order.rising y.in_order.rising (there x.lines y.lines x.in_order y.in_order) (there y.lines x.lines y.in_order x.in_order))
    ∙ sym y.text_is
  where
    there : (xs ys : List SizesLine) → AreSizesInOrder bytes lost xs → AreSizesInOrder bytes lost ys →
        (line : SizesLine) → Contains xs line → Contains ys line
    there xs ys h k (Record r) c = (k.records r).1 ((h.records r).0 c)
    there xs ys h k (Lost l) c = (k.ranges l).1 ((h.ranges l).0 c)

-- a record that is found if nothing is lost is found in the same bytes if nothing else is lost
moved_record : (bytes others : List ℕ) (lost gone : List Bool) (r : FoundRecord) → bytes ≡ others →
    ((n : ℕ) → ¬ IsMarked lost n) → ((n : ℕ) → ¬ IsMarked gone n) → IsFoundRecord (byte_left bytes lost) r →
    IsFoundRecord (byte_left others gone) r
moved_record bytes others lost gone r same none nothing f =
    same_record (byte_left bytes lost) (byte_left others gone) r
    (λ i small. left_at bytes lost i (none (i / 512)) ∙ ap (λ (xs : List ℕ). slice_get xs i) same ∙ sym (left_at others gone i (nothing (i / 512))))
    f

-- If raw bytes give sizes twice, these are the same, whatever may be lacking or fail each time.
pub one_size_lem : (bytes : List ℕ) (lacking others : ℕ → Bool) (fails faults : ℕ → ℕ → Bool) (failures more : ℕ) (g h : Geometry) →
    AreSizesOf (Some bytes) lacking fails failures (Certain g) → AreSizesOf (Some bytes) others faults more (Certain h) → g ≡ h
one_size_lem bytes lacking others fails faults failures more g h x y =
    let one = x.sizes.clean.some in
    sym (x.sizes.each one.0 one.1)
    ∙ y.sizes.each one.0
    (moved_record x.bytes y.bytes x.lost y.lost one.0 (x.known ∙ sym y.known) x.sizes.clean.nothing_lost y.sizes.clean.nothing_lost one.1)
