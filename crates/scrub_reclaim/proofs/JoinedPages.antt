-- The ranges of pages hold just these pages, and none is directly followed by the next.
use Rattle.std.proofs.Common.{◌≡◌, ◌≢◌, ◌≤◌, ◌+◌, ◌-◌, ◌==◌, ℕ, suc, Bool, true, false, cond, List, [], ◌∷◌, ◌++◌, arith, refl, sym, ap, ◌∙◌}
use Rattle.std.specs.List.{All, flat_map, range_with_len}
use Rattle.std.proofs.lemmas.Bool.{eqb-true, eq-eqb, false≢true}
use Rattle.std.proofs.lemmas.List.Elements.{All-cons, All-head, All-tail}
use Rattle.scrub_reclaim.specs.declared.page_ranges.PageRange.{PageRange}
use Rattle.scrub_reclaim.specs.Doubts.{HaveGapsBetween, AreJoined, page_ranges, pages_within, with_page}
use Rattle.scrub_reclaim.proofs.PageRanges.{alone, from_page}

abbrev IsFilled : PageRange → Type 0
IsFilled r = r.first ≤ r.last

no_ranges : All IsFilled []
no_ranges i d below = absurd (omega (arith, below))

-- a page in front of ranges, by whether the first one follows it directly
abbrev in_front : Bool → ℕ → PageRange → List PageRange → List PageRange
in_front b q r rs = cond b (from_page q r ∷ rs) (alone q ∷ r ∷ rs)

-- no range is empty
filled_by : (b : Bool) (q : ℕ) (r : PageRange) (rs : List PageRange) → (q + 1 == r.first) ≡ b → All IsFilled (r ∷ rs) →
    All IsFilled (in_front b q r rs)
filled_by true q r rs e filled =
    let next : q + 1 ≡ r.first = eqb-true (q + 1) r.first e in
    let some : r.first ≤ r.last = All-head IsFilled r rs filled in
    All-cons IsFilled (from_page q r) rs (omega (arith, next, some)) (All-tail IsFilled r rs filled)
filled_by false q r rs e filled = All-cons IsFilled (alone q) (r ∷ rs) (omega arith) filled

filled_with : (q : ℕ) (rs : List PageRange) → All IsFilled rs → All IsFilled (with_page q rs)
filled_with q [] filled = All-cons IsFilled (alone q) [] (omega arith) no_ranges
filled_with q (r ∷ rs) filled = filled_by (q + 1 == r.first) q r rs refl filled

-- the pages of a range of one page, and of a range with one more page in front
pages_alone : (q : ℕ) → pages_within (alone q) ≡ q ∷ []
pages_alone q = ap (range_with_len q) (let one : q + 1 - q ≡ 1 = omega arith in one)

pages_from : (q : ℕ) (r : PageRange) → q + 1 ≡ r.first → r.first ≤ r.last →
    pages_within (from_page q r) ≡ q ∷ pages_within r
pages_from q r next some =
    ap (range_with_len q) (let more : r.last + 1 - q ≡ suc (r.last + 1 - r.first) = omega (arith, next, some) in more)
    ∙ ap (λ (p : ℕ). q ∷ range_with_len p (r.last + 1 - r.first)) next

-- with a page in front the ranges have one page more
same_by : (b : Bool) (q : ℕ) (r : PageRange) (rs : List PageRange) → (q + 1 == r.first) ≡ b → r.first ≤ r.last →
    flat_map pages_within (in_front b q r rs) ≡ q ∷ flat_map pages_within (r ∷ rs)
same_by true q r rs e some =
    ap (λ (ps : List ℕ). ps ++ flat_map pages_within rs) (pages_from q r (eqb-true (q + 1) r.first e) some)
same_by false q r rs e some = ap (λ (ps : List ℕ). ps ++ flat_map pages_within (r ∷ rs)) (pages_alone q)

same_with : (q : ℕ) (rs : List PageRange) → All IsFilled rs →
    flat_map pages_within (with_page q rs) ≡ q ∷ flat_map pages_within rs
same_with q [] filled = ap (λ (ps : List ℕ). ps ++ []) (pages_alone q)
same_with q (r ∷ rs) filled = same_by (q + 1 == r.first) q r rs refl (All-head IsFilled r rs filled)

-- a page that isn't joined isn't directly in front of the first range
no_neighbour : (q : ℕ) (r : PageRange) → (q + 1 == r.first) ≡ false → q + 1 ≢ r.first
no_neighbour q r e same = false≢true (sym e ∙ eq-eqb (q + 1) r.first same)

apart_by : (b : Bool) (q : ℕ) (r : PageRange) (rs : List PageRange) → (q + 1 == r.first) ≡ b → HaveGapsBetween (r ∷ rs) →
    HaveGapsBetween (in_front b q r rs)
apart_by true q r [] e apart = tt
apart_by true q r (s ∷ rs) e apart = apart
apart_by false q r rs e apart = (no_neighbour q r e, apart)

apart_with : (q : ℕ) (rs : List PageRange) → HaveGapsBetween rs → HaveGapsBetween (with_page q rs)
apart_with q [] apart = tt
apart_with q (r ∷ rs) apart = apart_by (q + 1 == r.first) q r rs refl apart

-- Ranges by `page_ranges` have just these pages, and none is empty or directly followed by the next.
pub joined_pages : (pages : List ℕ) → AreJoined pages (page_ranges pages)
joined_pages [] = record { filled = no_ranges; same = refl; apart = tt }
joined_pages (q ∷ qs) =
    let rest : AreJoined qs (page_ranges qs) = joined_pages qs in
    record {
      filled = filled_with q (page_ranges qs) rest.filled;
      same = same_with q (page_ranges qs) rest.filled ∙ ap (λ (ps : List ℕ). q ∷ ps) rest.same;
      apart = apart_with q (page_ranges qs) rest.apart;
    }
