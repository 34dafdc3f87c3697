-- The choice by the list of all valid records, and by conditions on all of them: each says what the other says.
use Rattle.std.proofs.Common.{◌≡◌, ◌≢◌, ◌⊎◌, ◌↔◌, ◌<◌, ◌≤◌, ◌+◌, ℕ, suc, List, [], ◌∷◌, Bool, true, false, cond, length, get_or, map, arith, refl, sym, ◌∙◌, ap, Option, Some, None, IfSome, IsTrue, inl, inr, not, nat_lt, slice_get, option_map}
use Rattle.std.specs.List.{All, AllPairs, Contains, list_any}
use Rattle.std.specs.List.Sorted.{IsStrictlyIncreasing}
use Rattle.std.proofs.lemmas.Bool.{cases_lt, false≢true, false_from_ne_true, lt-ltb, ltb-true, not-true, not_from_false, or_cases, true_from_ne_false}
use Rattle.std.proofs.lemmas.Bool.Decides.{same_from_decides}
use Rattle.std.proofs.lemmas.List.{get_or-map, length-map}
use Rattle.std.proofs.lemmas.List.Elements.{All-cons, All-contains, All-contains_itself, All-nil}
use Rattle.std.proofs.lemmas.List.Folds.{list_any_at}
use Rattle.std.proofs.lemmas.List.Kept.{AllPairs-filter, AllPairs-from_increasing}
use Rattle.std.proofs.lemmas.Option.{get_or_from_slice_get, none-some, same_Some, slice_get_within, slice_get-get_or}
use Rattle.list_facts.proofs.Elements.{Contains-filter, Contains-cases, Contains-from_filter}
use Rattle.list_facts.proofs.Rising.{first_below_rest}
use Rattle.scrub_disk.specs.Image.{Image}
use Rattle.scrub_super.specs.declared.pages.Rank.{Rank}
use Rattle.scrub_super.specs.declared.pages.Rank.TheVariants.{Tie, Counts, Older}
use Rattle.scrub_super.specs.Contents.{Contents}
use Rattle.scrub_super.specs.Record.{AreContents}
use Rattle.scrub_super.specs.Chosen.{AreRecords, Choice, IsChoice, RecordStandsAt, newest_records}
use Rattle.scrub_super.specs.Pages.{IsRank}
use Rattle.scrub_super.specs.steps.ByConditions.{AreRecordPages, IsChoiceByConditions, IsChosen, IsGreatest, IsNewestRecord, IsRankByConditions, IsTie}
use Rattle.scrub_super.proofs.Laws.{one_record_on_page}

-- ---- lists that rise by page

-- by page, each is below all later ones
abbrev Rises : List (ℕ × Contents) → Type 0
Rises = AllPairs (λ r s. r.0 < s.0)

first_is : (rs : List (ℕ × Contents)) (r : ℕ × Contents) → Rises rs → Contains rs r →
    ((s : ℕ × Contents) → Contains rs s → r.0 ≤ s.0) → slice_get rs 0 ≡ Some r
first_is [] r up there lowest = absurd (omega (arith, there.1))
first_is (x ∷ xs) r up there lowest = elim (Contains-cases x xs r there) [
  | inl here ↦ ap Some here
  | inr later ↦
      absurd (omega (arith, first_below_rest (λ (s : ℕ × Contents). s.0) x r xs up later, lowest x (0, omega arith, refl)))
]

first_lowest : (rs : List (ℕ × Contents)) (r s : ℕ × Contents) → Rises rs → slice_get rs 0 ≡ Some r → Contains rs s →
    r.0 ≤ s.0
first_lowest [] r s up is there = absurd (omega (arith, there.1))
first_lowest (x ∷ xs) r s up is there =
    let e : x ≡ r = same_Some x r is in
    elim (Contains-cases x xs s there) [
      | inl here ↦ omega (arith, ap (λ (t : ℕ × Contents). t.0) here, ap (λ (t : ℕ × Contents). t.0) e)
      | inr later ↦
          omega (arith, first_below_rest (λ (t : ℕ × Contents). t.0) x s xs up later, ap (λ (t : ℕ × Contents). t.0) e)
    ]

first_among : (rs : List (ℕ × Contents)) (r : ℕ × Contents) → slice_get rs 0 ≡ Some r → Contains rs r
first_among rs r is = (0, slice_get_within rs 0 r is, get_or_from_slice_get rs 0 r r is)

two_among : (rs : List (ℕ × Contents)) → Rises rs → 1 < length rs →
    (r : ℕ × Contents) × (s : ℕ × Contents) × Contains rs r × Contains rs s × (r.0 < s.0)
two_among [] up two = absurd (omega (arith, two))
two_among (x ∷ []) up two = absurd (omega (arith, two))
two_among (x ∷ y ∷ ys) up two =
    (x, y, (0, omega arith, refl), (1, omega arith, refl), first_below_rest (λ (t : ℕ × Contents). t.0) x y (y ∷ ys) up (0, omega arith, refl))

two_if_apart : (rs : List (ℕ × Contents)) (r s : ℕ × Contents) → r.0 ≢ s.0 → Contains rs r → Contains rs s → 1 < length rs
two_if_apart [] r s apart a b = absurd (omega (arith, a.1))
two_if_apart (x ∷ y ∷ ys) r s apart a b = omega arith
two_if_apart (x ∷ []) r s apart a b = by (Contains-cases x [] r a) (Contains-cases x [] s b)
  where
    by : (x ≡ r) ⊎ Contains [] r → (x ≡ s) ⊎ Contains [] s → 1 < length (x ∷ [])
    by (inl here) (inl there) = absurd (apart (ap (λ (t : ℕ × Contents). t.0) (sym here ∙ there)))
    by (inr later) there = absurd (omega (arith, later.1))
    by (inl here) (inr later) = absurd (omega (arith, later.1))

pages_rise : (rs : List (ℕ × Contents)) → Rises rs → IsStrictlyIncreasing (map (λ r. r.0) rs)
pages_rise [] up k hk = absurd (omega (arith, hk))
pages_rise (x ∷ xs) up k hk =
    let long = length-map (x ∷ xs) (λ (r : ℕ × Contents). r.0) in
    rw (
      get_or-map (λ (r : ℕ × Contents). r.0) (x ∷ xs) k x 0 (omega (arith, hk, long)),
      get_or-map (λ (r : ℕ × Contents). r.0) (x ∷ xs) (k + 1) x 0 (omega (arith, hk, long)),
    ) (up k (k + 1) x (omega arith) (omega (arith, hk, long)))

rise_by_pages : (rs : List (ℕ × Contents)) (pages : List ℕ) → map (λ r. r.0) rs ≡ pages → IsStrictlyIncreasing pages → Rises rs
rise_by_pages rs pages are up i j d hi hj =
    let long = length-map rs (λ (r : ℕ × Contents). r.0) in
    rw (
      get_or-map (λ (r : ℕ × Contents). r.0) rs i d d.0 (omega (arith, hi, hj)),
      get_or-map (λ (r : ℕ × Contents). r.0) rs j d d.0 hj,
    ) at (AllPairs-from_increasing (map (λ (r : ℕ × Contents). r.0) rs) (rw (sym are) at up) i j d.0 hi (omega (arith, hj, long)))

-- ---- greater generations

-- whether one of these records has a greater generation
abbrev is_older : List (ℕ × Contents) → ℕ → Bool
is_older rs n = list_any (λ r. nat_lt n r.1.generation) rs

older_than : (rs : List (ℕ × Contents)) (n : ℕ) → is_older rs n ≡ true →
    (r : ℕ × Contents) × Contains rs r × (n < r.1.generation)
older_than [] n is = absurd (false≢true is)
older_than (r ∷ rs) n is = elim (or_cases (nat_lt n r.1.generation) (is_older rs n) is) [
  | inl here ↦ (r, (0, omega arith, refl), ltb-true n r.1.generation here)
  | inr later ↦ let x = older_than rs n later in (x.0, (suc x.1.0, omega (arith, x.1.1), x.1.2), x.2)
]

none_newer : (rs : List (ℕ × Contents)) (n : ℕ) → is_older rs n ≡ false → (r : ℕ × Contents) → Contains rs r →
    r.1.generation ≤ n
none_newer rs n is r there = elim (cases_lt n r.1.generation) [
  | inl above ↦
      let at : nat_lt n (get_or rs there.0 r).1.generation ≡ true = rw there.2 (lt-ltb n r.1.generation above) in
      absurd
      (false≢true (sym is ∙ list_any_at (λ (s : ℕ × Contents). nat_lt n s.1.generation) rs there.0 r there.1 at))
  | inr below ↦ below
]

if_none_newer : (rs : List (ℕ × Contents)) (n : ℕ) → ((r : ℕ × Contents) → Contains rs r → r.1.generation ≤ n) →
    is_older rs n ≡ false
if_none_newer rs n below =
    false_from_ne_true (is_older rs n) (λ is. let x = older_than rs n is in omega (arith, below x.0 x.1, x.2))

-- one record of a list has the greatest generation
top_of : (x : ℕ × Contents) (xs : List (ℕ × Contents)) →
    (t : ℕ × Contents) × Contains (x ∷ xs) t × ((r : ℕ × Contents) → Contains (x ∷ xs) r → r.1.generation ≤ t.1.generation)
top_of x [] = (
  x,
  (0, omega arith, refl),
  λ r there. elim (Contains-cases x [] r there) [
    | inl here ↦ omega (arith, ap (λ (t : ℕ × Contents). t.1.generation) here)
    | inr later ↦ absurd (omega (arith, later.1))
  ],
)
top_of x (y ∷ ys) =
    let t = top_of y ys in
    elim (cases_lt t.0.1.generation x.1.generation) [
      | inl above ↦ (
        x,
        (0, omega arith, refl),
        λ r there. elim (Contains-cases x (y ∷ ys) r there) [
          | inl here ↦ omega (arith, ap (λ (s : ℕ × Contents). s.1.generation) here)
          | inr later ↦ omega (arith, t.2 r later, above)
        ],
      )
      | inr below ↦ (
        t.0,
        (suc t.1.0, omega (arith, t.1.1), t.1.2),
        λ r there. elim (Contains-cases x (y ∷ ys) r there) [
          | inl here ↦ omega (arith, ap (λ (s : ℕ × Contents). s.1.generation) here, below)
          | inr later ↦ t.2 r later
        ],
      )
    ]

-- ---- the newest of a list

newest_from : (rs : List (ℕ × Contents)) (r : ℕ × Contents) → Contains (newest_records rs) r →
    Contains rs r × (is_older rs r.1.generation ≡ false)
newest_from rs r there =
    let x = Contains-from_filter (λ (s : ℕ × Contents). not (is_older rs s.1.generation)) rs r there in
    (x.0, not-true (is_older rs r.1.generation) x.1)

among_newest : (rs : List (ℕ × Contents)) (r : ℕ × Contents) → Contains rs r → is_older rs r.1.generation ≡ false →
    Contains (newest_records rs) r
among_newest rs r there top =
    Contains-filter (λ (s : ℕ × Contents). not (is_older rs s.1.generation)) rs r (not_from_false (is_older rs r.1.generation) top) there

some_newest : (rs : List (ℕ × Contents)) (r : ℕ × Contents) → Contains rs r → slice_get (newest_records rs) 0 ≡ None → ⊥
some_newest [] r there none = omega (arith, there.1)
some_newest (x ∷ xs) r there none =
    let t = top_of x xs in
    let c = among_newest (x ∷ xs) t.0 t.1 (if_none_newer (x ∷ xs) t.0.1.generation t.2) in
    none-some (get_or (newest_records (x ∷ xs)) 0 x) (sym none ∙ slice_get-get_or (newest_records (x ∷ xs)) 0 x (omega (arith, c.1)))

-- ---- from the list of records to conditions on all of them

module _ {image : Image} {records : List (ℕ × Contents)} (are : AreRecords image records) where
  greatest_by : (n : ℕ) → is_older records n ≡ false → IsGreatest image n
  greatest_by n is q c s = none_newer records n is (q, c) ((are.exact q c).1 s)

  not_older : (n : ℕ) → IsGreatest image n → is_older records n ≡ false
  not_older n greatest = if_none_newer records n (λ r there. greatest r.0 r.1 ((are.exact r.0 r.1).0 there))

  newest_rises : Rises (newest_records records)
  newest_rises =
      AllPairs-filter (λ (r s : ℕ × Contents). r.0 < s.0) (λ r. not (is_older records r.1.generation)) records are.rising

  newest_stands : (r : ℕ × Contents) → Contains (newest_records records) r →
      RecordStandsAt image r.0 r.1 × IsGreatest image r.1.generation
  newest_stands r there =
      let x = newest_from records r there in ((are.exact r.0 r.1).0 x.0, greatest_by r.1.generation x.1)

  newest_if : (q : ℕ) (c : Contents) → RecordStandsAt image q c → IsGreatest image c.generation → Contains (newest_records records) (q, c)
  newest_if q c s greatest = among_newest records (q, c) ((are.exact q c).1 s) (not_older c.generation greatest)

  chosen_by_list : (o : Option (ℕ × Contents)) → slice_get (newest_records records) 0 ≡ o →
      IsChosen image (option_map (λ r. r.1) o) (option_map (λ r. r.0) o)
  chosen_by_list None none = λ q c s. some_newest records (q, c) ((are.exact q c).1 s) none
  chosen_by_list (Some r) is =
      let x = newest_stands r (first_among (newest_records records) r is) in
      record {
        stands = x.0;
        greatest = x.1;
        lowest = λ q d s same.
            first_lowest (newest_records records) r (q, d) newest_rises is (newest_if q d s (rw same x.1));
      }

  first_chosen : (q : ℕ) (c : Contents) → IsNewestRecord image q c → slice_get (newest_records records) 0 ≡ Some (q, c)
  first_chosen q c is =
      first_is (newest_records records) (q, c) newest_rises (newest_if q c is.stands is.greatest)
      (λ r there. let x = newest_stands r there in
      is.lowest r.0 r.1 x.0 (omega (arith, x.1 q c is.stands, is.greatest r.0 r.1 x.0)))

  chosen_in_list : (o : Option Contents) (p : Option ℕ) → IsChosen image o p →
      (o ≡ option_map (λ r. r.1) (slice_get (newest_records records) 0)) × (p ≡ option_map (λ r. r.0) (slice_get (newest_records records) 0))
  chosen_in_list (Some c) (Some q) is = rw (first_chosen q c is) (refl, refl)
  chosen_in_list (Some c) None is = absurd is
  chosen_in_list None (Some q) is = absurd is
  chosen_in_list None None is = by (slice_get (newest_records records) 0) refl
    where
      by : (o : Option (ℕ × Contents)) → slice_get (newest_records records) 0 ≡ o →
          (None ≡ option_map (λ r. r.1) o) × (None ≡ option_map (λ r. r.0) o)
      by None e = (refl, refl)
      by (Some r) e = absurd (is r.0 r.1 (newest_stands r (first_among (newest_records records) r e)).0)

  tie_in_list : IsTrue (nat_lt 1 (length (newest_records records))) ↔ IsTie image
  tie_in_list = (tied, several)
    where
      tied : nat_lt 1 (length (newest_records records)) ≡ true → IsTie image
      tied is =
          let x = two_among (newest_records records) newest_rises (ltb-true 1 (length (newest_records records)) is) in
          let r = newest_stands x.0 x.2 in
          let s = newest_stands x.1 x.3 in
          record {
            one = x.0.0;
            other = x.1.0;
            apart = λ e. omega (arith, x.4, e);
            contents = x.0.1;
            contents_of_other = x.1.1;
            stands = r.0;
            other_stands = s.0;
            same = omega (arith, r.1 x.1.0 x.1.1 s.0, s.1 x.0.0 x.0.1 r.0);
            greatest = r.1;
          }

      several : IsTie image → nat_lt 1 (length (newest_records records)) ≡ true
      several t =
          lt-ltb 1 (length (newest_records records))
          (two_if_apart (newest_records records) (t.one, t.contents) (t.other, t.contents_of_other) t.apart
          (newest_if t.one t.contents t.stands t.greatest)
          (newest_if t.other t.contents_of_other t.other_stands (rw t.same t.greatest)))

  pages_in_list : AreRecordPages image (map (λ r. r.0) records)
  pages_in_list = record { rising = pages_rise records are.rising; exact = λ q. (stands q, on_page q) }
    where
      stands : (q : ℕ) → Contains (map (λ r. r.0) records) q → (c : Contents) × RecordStandsAt image q c
      stands q there = by records refl there
        where
          by : (rs : List (ℕ × Contents)) → records ≡ rs → Contains (map (λ r. r.0) rs) q →
              (c : Contents) × RecordStandsAt image q c
          by [] e c = absurd (omega (arith, c.1))
          by (x ∷ xs) e c =
              let long = length-map (x ∷ xs) (λ (r : ℕ × Contents). r.0) in
              let r = get_or (x ∷ xs) c.0 x in
              let page : r.0 ≡ q =
              sym (get_or-map (λ (s : ℕ × Contents). s.0) (x ∷ xs) c.0 x q (omega (arith, c.1, long))) ∙ c.2 in
              let there : Contains records r =
              rw e (All-contains_itself (x ∷ xs) c.0 x (omega (arith, c.1, long))) in
              (r.1, rw page at ((are.exact r.0 r.1).0 there))

      on_page : (q : ℕ) → (c : Contents) × RecordStandsAt image q c → Contains (map (λ r. r.0) records) q
      on_page q x =
          let there = (are.exact q x.0).1 x.1 in
          let long = length-map records (λ (r : ℕ × Contents). r.0) in (
            there.0,
            omega (arith, there.1, long),
            get_or-map (λ (s : ℕ × Contents). s.0) records there.0 (q, x.0) q there.1 ∙ ap (λ (s : ℕ × Contents). s.0) there.2,
          )

-- a choice meets the conditions
pub by_conditions : {image : Image} {choice : Choice} → IsChoice image choice → IsChoiceByConditions image choice
by_conditions {image} {choice} x = record {
  geometry = x.geometry;
  chosen = rw (x.superblock, x.page) (chosen_by_list x.are (slice_get (newest_records x.valid) 0) refl);
  records = (map (λ r. r.0) x.valid, pages_in_list x.are, x.records ∙ sym (length-map x.valid (λ (r : ℕ × Contents). r.0)));
  tie = rw x.tie (tie_in_list x.are);
  bad_pages = x.bad_pages;
}

-- ---- from the pages with a record to the list of records

module _ {image : Image} where
  records_on : (pages : List ℕ) → ((q : ℕ) → Contains pages q → (c : Contents) × RecordStandsAt image q c) →
      (rs : List (ℕ × Contents)) × (map (λ r. r.0) rs ≡ pages) × All (λ r. RecordStandsAt image r.0 r.1) rs
  records_on [] at = ([], refl, All-nil (λ (r : ℕ × Contents). RecordStandsAt image r.0 r.1))
  records_on (q ∷ qs) at =
      let first = at q (0, omega arith, refl) in
      let rest = records_on qs (λ r there. at r (suc there.0, omega (arith, there.1), there.2)) in (
        (q, first.0) ∷ rest.0,
        ap (λ (ps : List ℕ). q ∷ ps) rest.1,
        All-cons (λ (r : ℕ × Contents). RecordStandsAt image r.0 r.1) (q, first.0) rest.0 first.1 rest.2,
      )

  -- If these are the pages with a valid record, there is a list of all valid records, with these pages.
  pub records_of_pages : {pages : List ℕ} → AreRecordPages image pages →
      (records : List (ℕ × Contents)) × AreRecords image records × (map (λ r. r.0) records ≡ pages)
  records_of_pages {pages} h = (
    on.0,
    record {
      rising = rise_by_pages on.0 pages on.1 h.rising;
      exact = λ q c. (
        (λ there. All-contains (λ (r : ℕ × Contents). RecordStandsAt image r.0 r.1) on.0 (q, c) on.2 there),
        (λ s. there q c s),
      );
    },
    on.1,
  )
    where
      on : (rs : List (ℕ × Contents)) × (map (λ r. r.0) rs ≡ pages) × All (λ r. RecordStandsAt image r.0 r.1) rs
      on = records_on pages (λ q c. (h.exact q).0 c)

      there : (q : ℕ) (c : Contents) → RecordStandsAt image q c → Contains on.0 (q, c)
      there q c s =
          let on_page : Contains (map (λ (r : ℕ × Contents). r.0) on.0) q = rw on.1 ((h.exact q).1 (c, s)) in
          let within : on_page.0 < length on.0 =
          omega (arith, on_page.1, length-map on.0 (λ (r : ℕ × Contents). r.0)) in
          let r = get_or on.0 on_page.0 (q, c) in
          let page : r.0 ≡ q =
          sym (get_or-map (λ (t : ℕ × Contents). t.0) on.0 on_page.0 (q, c) q within) ∙ on_page.2 in
          let same : r.1 ≡ c =
          one_record_on_page image q r.1 c (rw page at (on.2 on_page.0 (q, c) within)) s in
          (on_page.0, within, λ i. (page i, same i))

-- what meets the conditions is a choice
pub from_conditions : {image : Image} {choice : Choice} → IsChoiceByConditions image choice → IsChoice image choice
from_conditions {image} {choice} x =
    let rs = records_of_pages x.records.1 in
    let chosen = chosen_in_list rs.1 choice.superblock choice.page x.chosen in
    record {
      valid = rs.0;
      are = rs.1;
      geometry = x.geometry;
      superblock = chosen.0;
      page = chosen.1;
      records = x.records.2 ∙ ap length (sym rs.2) ∙ length-map rs.0 (λ (r : ℕ × Contents). r.0);
      tie = same_from_decides choice.tie (nat_lt 1 (length (newest_records rs.0))) x.tie (tie_in_list rs.1);
      bad_pages = x.bad_pages;
    }

-- ---- how new a record is

-- a rank by the conditions is one by the list
pub rank_from_conditions : {image : Image} {records : List (ℕ × Contents)} → AreRecords image records → (n : ℕ) (rank : Rank) →
    IsRankByConditions image n rank → IsRank image n rank
rank_from_conditions {image} {records} are n rank is = (records, are, by rank is)
  where
    among : Bool → Bool → Rank
    among older several = cond older Older (cond several Tie Counts)

    by : (rank : Rank) → IsRankByConditions image n rank →
        rank ≡ among (is_older records n) (nat_lt 1 (length (newest_records records)))
    by Tie x = sym (
        ap (λ (b : Bool). among b (nat_lt 1 (length (newest_records records)))) (not_older are n x.0)
        ∙ ap (among false) ((tie_in_list are).1 x.1)
        )
    by Counts x = sym (
        ap (λ (b : Bool). among b (nat_lt 1 (length (newest_records records)))) (not_older are n x.0)
        ∙ ap (among false)
        (false_from_ne_true (nat_lt 1 (length (newest_records records))) (λ several. x.1 ((tie_in_list are).0 several)))
        )
    by Older x = sym (
        ap (λ (b : Bool). among b (nat_lt 1 (length (newest_records records))))
        (true_from_ne_false (is_older records n) (λ top. x (greatest_by are n top)))
        )

-- and the other way round
pub rank_by_conditions : {image : Image} (n : ℕ) (rank : Rank) → IsRank image n rank → IsRankByConditions image n rank
rank_by_conditions {image} n rank x =
    rw x.2 (by (is_older x.0 n) (nat_lt 1 (length (newest_records x.0))) refl refl)
  where
    by : (older several : Bool) → is_older x.0 n ≡ older → nat_lt 1 (length (newest_records x.0)) ≡ several →
        IsRankByConditions image n (cond older Older (cond several Tie Counts))
    by true several is tie = λ greatest. false≢true (sym (not_older x.1 n greatest) ∙ is)
    by false true is tie = (greatest_by x.1 n is, (tie_in_list x.1).0 tie)
    by false false is tie =
        (greatest_by x.1 n is, (λ t. false≢true (sym tie ∙ (tie_in_list x.1).1 t)))

-- ---- what callers need

-- the contents of the superblock that counts are within the limits of the disk
pub superblock_fits : {image : Image} {choice : Choice} → IsChoice image choice →
    IfSome choice.superblock (AreContents image.geometry)
superblock_fits {image} {choice} x = rw x.superblock (by (slice_get (newest_records x.valid) 0) refl)
  where
    by : (o : Option (ℕ × Contents)) → slice_get (newest_records x.valid) 0 ≡ o →
        IfSome (option_map (λ r. r.1) o) (AreContents image.geometry)
    by None e = tt
    by (Some r) e = (newest_stands x.are r (first_among (newest_records x.valid) r e)).0.contents
