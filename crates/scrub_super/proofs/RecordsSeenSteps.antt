-- What is found of the records, one page down at a time.
use Rattle.std.proofs.Common.{◌≡◌, ◌<◌, ◌≤◌, ◌+◌, ℕ, zero, suc, List, [], ◌∷◌, false, length, get_or, arith, refl, sym, Option, Some, None, inl, inr, ◌⊎◌, MatchOption, eqb}
use Rattle.std.specs.List.{Contains}
use Rattle.std.specs.List.Sorted.{IsStrictlyIncreasing}
use Rattle.std.proofs.Math.Numerals.{add-one}
use Rattle.std.proofs.lemmas.Bool.{cases_lt, false≢true, eq-eqb, eqb-true}
use Rattle.scrub_super.specs.declared.choosing.Newest.{Newest}
use Rattle.scrub_super.specs.declared.choosing.RecordsSeen.{RecordsSeen}
use Rattle.scrub_super.specs.steps.RecordsSeen.{IsNewestFrom, ArePagesFrom, AreSeenFrom, AddsRecord}

-- a page from q on is q or a later one
from_cases : (q r : ℕ) → q ≤ r → (r ≡ q) ⊎ (q + 1 ≤ r)
from_cases q r h = elim (cases_lt q r) [ inl later ↦ inr (omega arith) | inr here ↦ inl (omega (arith, h)) ]

contains_cons : (x r : ℕ) (xs : List ℕ) → Contains (x ∷ xs) r → (r ≡ x) ⊎ Contains xs r
contains_cons x r xs (zero, here, is) = inl (sym is)
contains_cons x r xs (suc k, here, is) = inr (k, omega (arith, here), is)

-- ---- a page with no record

module _ {stands : ℕ → ℕ → Type 0} {q : ℕ} (none : (n : ℕ) → stands q n → ⊥) where
  pages_none : {pages : List ℕ} → ArePagesFrom stands (q + 1) pages → ArePagesFrom stands q pages
  pages_none h = record {
    rising = h.rising;
    exact = λ r. (
      (λ there. let x = (h.exact r).0 there in (omega (arith, x.0), x.1)),
      (λ x. elim (from_cases q r x.0) [
        | inl here ↦ absurd (none x.1.0 (rw here at x.1.1))
        | inr later ↦ (h.exact r).1 (later, x.1)
      ]),
    );
  }

  newest_none : {b : Newest} → IsNewestFrom stands (q + 1) b → IsNewestFrom stands q b
  newest_none h = record {
    from = omega (arith, h.from);
    there = h.there;
    greatest = λ r n low s.
        elim (from_cases q r low) [ inl here ↦ absurd (none n (rw here at s)) | inr later ↦ h.greatest r n later s ];
    lowest = λ r low s.
        elim (from_cases q r low) [ inl here ↦ absurd (none _ (rw here at s)) | inr later ↦ h.lowest r later s ];
    tied = (
      (λ tie. let x = h.tied.0 tie in (x.0, x.1, omega (arith, x.2), x.3)),
      (λ x. elim (from_cases q x.0 x.2) [
        | inl here ↦ absurd (none _ (rw here at x.3))
        | inr later ↦ h.tied.1 (x.0, x.1, later, x.3)
      ]),
    );
  }

  -- If page q has no record, what is seen from page q + 1 on is what is seen from q on.
  pub found_none : {f : RecordsSeen} → AreSeenFrom stands (q + 1) f → AreSeenFrom stands q f
  found_none {f} h = record {
    pages = h.pages;
    are = pages_none h.are;
    records = h.records;
    newest = newest_is f.newest h.newest;
  }
    where
      newest_is : (o : Option Newest) →
          MatchOption o ((r n : ℕ) → q + 1 ≤ r → stands r n → ⊥) (IsNewestFrom stands (q + 1)) →
          MatchOption o ((r n : ℕ) → q ≤ r → stands r n → ⊥) (IsNewestFrom stands q)
      newest_is None absent =
          λ r n low s. elim (from_cases q r low) [ inl here ↦ none n (rw here at s) | inr later ↦ absent r n later s ]
      newest_is (Some b) newest = newest_none newest

-- ---- a page with a record

module _ {stands : ℕ → ℕ → Type 0} {q : ℕ} (n : ℕ) (s : stands q n) where
  pages_more : {pages : List ℕ} → ArePagesFrom stands (q + 1) pages → ArePagesFrom stands q (q ∷ pages)
  pages_more {pages} h = record {
    rising = λ k hk. rises k pages h.rising (λ r there. ((h.exact r).0 there).0) hk;
    exact = λ r. (
      (λ there. elim (contains_cons q r pages there) [
        | inl here ↦ (omega (arith, here), (n, rw here s))
        | inr later ↦ let x = (h.exact r).0 later in (omega (arith, x.0), x.1)
      ]),
      (λ x. elim (from_cases q r x.0) [
        | inl here ↦ (0, omega arith, sym here)
        | inr later ↦ let there = (h.exact r).1 (later, x.1) in (suc there.0, omega (arith, there.1), there.2)
      ]),
    );
  }
    where
      rises : (k : ℕ) (xs : List ℕ) → IsStrictlyIncreasing xs → ((r : ℕ) → Contains xs r → q + 1 ≤ r) →
          k + 1 < length (q ∷ xs) → get_or (q ∷ xs) k 0 < get_or (q ∷ xs) (k + 1) 0
      rises zero [] up above hk = absurd (omega (arith, hk))
      rises zero (x ∷ xs) up above hk = omega (arith, above x (0, omega arith, refl))
      rises (suc k) xs up above hk = rw add-one (rw add-one at (up k (omega (arith, hk))))

  module _ (one : (m : ℕ) → stands q m → m ≡ n) where
    -- the first record, and newer, as new and older ones than those on later pages
    newest_first : ((r m : ℕ) → q + 1 ≤ r → stands r m → ⊥) →
        IsNewestFrom stands q (record { page = q; generation = n; tie = false })
    newest_first absent = record {
      from = omega arith;
      there = s;
      greatest = λ r m low t.
          elim (from_cases q r low)
          [ inl here ↦ omega (arith, one m (rw here at t)) | inr later ↦ absurd (absent r m later t) ];
      lowest = λ r low t. low;
      tied = (
        (λ wrong. absurd (false≢true wrong)),
        (λ x. elim (from_cases q x.0 x.2) [
          | inl here ↦ absurd (x.1 here)
          | inr later ↦ absurd (absent x.0 n later x.3)
        ]),
      );
    }

    newest_kept : {b : Newest} → n < b.generation → IsNewestFrom stands (q + 1) b → IsNewestFrom stands q b
    newest_kept {b} older h = record {
      from = omega (arith, h.from);
      there = h.there;
      greatest = λ r m low t.
          elim (from_cases q r low)
          [ inl here ↦ omega (arith, one m (rw here at t), older) | inr later ↦ h.greatest r m later t ];
      lowest = λ r low t.
          elim (from_cases q r low) [ inl here ↦ absurd (not_here (rw here at t)) | inr later ↦ h.lowest r later t ];
      tied = (
        (λ tie. let x = h.tied.0 tie in (x.0, x.1, omega (arith, x.2), x.3)),
        (λ x. elim (from_cases q x.0 x.2) [
          | inl here ↦ absurd (not_here (rw here at x.3))
          | inr later ↦ h.tied.1 (x.0, x.1, later, x.3)
        ]),
      );
    }
      where
        not_here : stands q b.generation → ⊥
        not_here t = omega (arith, one b.generation t, older)

    newest_replaced : {b : Newest} → b.generation ≤ n → IsNewestFrom stands (q + 1) b →
        IsNewestFrom stands q (record { page = q; generation = n; tie = eqb n b.generation })
    newest_replaced {b} newer h = record {
      from = omega arith;
      there = s;
      greatest = λ r m low t.
          elim (from_cases q r low)
          [ inl here ↦ omega (arith, one m (rw here at t)) | inr later ↦ omega (arith, h.greatest r m later t, newer) ];
      lowest = λ r low t. low;
      tied = (
        (λ tie. (b.page, (λ e. omega (arith, h.from, e)), omega (arith, h.from), rw (eqb-true n b.generation tie) h.there)),
        (λ x. elim (from_cases q x.0 x.2) [
          | inl here ↦ absurd (x.1 here)
          | inr later ↦ eq-eqb n b.generation (omega (arith, h.greatest x.0 n later x.3, newer))
        ]),
      );
    }

    -- If page q has a record, it is added to what is seen from page q + 1 on.
    pub found_more : {old new : RecordsSeen} → AreSeenFrom stands (q + 1) old → AddsRecord old new q n →
        AreSeenFrom stands q new
    found_more {old} {new} h adds = record {
      pages = q ∷ h.pages;
      are = pages_more h.are;
      records = omega (arith, adds.records, h.records);
      newest = newest_is old.newest h.newest adds.newest;
    }
      where
        newest_is : (o : Option Newest) →
            MatchOption o ((r m : ℕ) → q + 1 ≤ r → stands r m → ⊥) (IsNewestFrom stands (q + 1)) →
            MatchOption o (new.newest ≡ Some (record { page = q; generation = n; tie = false }))
            (λ b. (n < b.generation → new.newest ≡ Some b)
            × (b.generation ≤ n → new.newest ≡ Some (record { page = q; generation = n; tie = eqb n b.generation })))
            →
            MatchOption new.newest ((r m : ℕ) → q ≤ r → stands r m → ⊥) (IsNewestFrom stands q)
        newest_is None absent is = rw is (newest_first absent)
        newest_is (Some b) newest is = elim (cases_lt n b.generation) [
          | inl older ↦ rw (is.0 older) (newest_kept older newest)
          | inr newer ↦ rw (is.1 newer) (newest_replaced newer newest)
        ]
