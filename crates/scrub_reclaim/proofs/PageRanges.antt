-- One more page after ranges of neighbours.
use Rattle.std.proofs.Common.{◌≡◌, ◌+◌, ◌==◌, ◌<◌, ℕ, Bool, true, false, cond, List, [], ◌∷◌, ◌++◌, length, get_or, take, append_assoc, refl, sym, ap, ◌∙◌}
use Rattle.std.proofs.lemmas.List.{take_more}
use Rattle.scrub_reclaim.specs.declared.page_ranges.PageRange.{PageRange}
use Rattle.scrub_reclaim.specs.Doubts.{page_ranges, with_page}
use Rattle.scrub_reclaim.specs.steps.PageRanges.{joined_with}

-- a page as a range of its own
abbrev pub alone : ℕ → PageRange
alone q = record { first = q; last = q }

-- a range that begins with a page, and one that ends with it
abbrev pub from_page : ℕ → PageRange → PageRange
from_page q r = record { first = q; last = r.last }

abbrev pub up_to_page : PageRange → ℕ → PageRange
up_to_page r q = record { first = r.first; last = q }

-- one page is joined after the others, and in front of them
abbrev pub last_joined : Bool → PageRange → ℕ → List PageRange
last_joined b r q = cond b (up_to_page r q ∷ []) (r ∷ alone q ∷ [])

-- after ranges it is joined to the last one
pub joined_behind : (rs : List PageRange) (r : PageRange) (q : ℕ) →
    joined_with (rs ++ r ∷ []) q ≡ rs ++ last_joined (r.last + 1 == q) r q
joined_behind [] r q = refl
joined_behind (s ∷ []) r q = refl
joined_behind (s ∷ t ∷ rs) r q = ap (λ (us : List PageRange). s ∷ us) (joined_behind (t ∷ rs) r q)

-- a page in front and one after one range
around_one : (p q : ℕ) (r : PageRange) (b c : Bool) → (p + 1 == r.first) ≡ b → (r.last + 1 == q) ≡ c →
    with_page p (last_joined c r q) ≡ joined_with (cond b (from_page p r ∷ []) (alone p ∷ r ∷ [])) q
around_one p q r true true eb ec =
    ap (λ t. cond t (from_page p (up_to_page r q) ∷ []) (alone p ∷ up_to_page r q ∷ [])) eb
    ∙ sym (ap (λ t. last_joined t (from_page p r) q) ec)
around_one p q r true false eb ec =
    ap (λ t. cond t (from_page p r ∷ alone q ∷ []) (alone p ∷ r ∷ alone q ∷ [])) eb
    ∙ sym (ap (λ t. last_joined t (from_page p r) q) ec)
around_one p q r false true eb ec =
    ap (λ t. cond t (from_page p (up_to_page r q) ∷ []) (alone p ∷ up_to_page r q ∷ [])) eb
    ∙ sym (ap (λ t. alone p ∷ last_joined t r q) ec)
around_one p q r false false eb ec =
    ap (λ t. cond t (from_page p r ∷ alone q ∷ []) (alone p ∷ r ∷ alone q ∷ [])) eb
    ∙ sym (ap (λ t. alone p ∷ last_joined t r q) ec)

around_more : (p q : ℕ) (r s : PageRange) (rs : List PageRange) (b : Bool) → (p + 1 == r.first) ≡ b →
    with_page p (r ∷ joined_with (s ∷ rs) q) ≡ joined_with (cond b (from_page p r ∷ s ∷ rs) (alone p ∷ r ∷ s ∷ rs)) q
around_more p q r s rs true e =
    ap (λ t. cond t (from_page p r ∷ joined_with (s ∷ rs) q) (alone p ∷ r ∷ joined_with (s ∷ rs) q)) e
around_more p q r s rs false e =
    ap (λ t. cond t (from_page p r ∷ joined_with (s ∷ rs) q) (alone p ∷ r ∷ joined_with (s ∷ rs) q)) e

-- whichever page is joined first
around : (p q : ℕ) (rs : List PageRange) → with_page p (joined_with rs q) ≡ joined_with (with_page p rs) q
around p q [] = refl
around p q (r ∷ []) =
    around_one p q r (p + 1 == r.first) (r.last + 1 == q) refl refl
    ∙ ap (λ (rs : List PageRange). joined_with rs q) refl
around p q (r ∷ s ∷ rs) = around_more p q r s rs (p + 1 == r.first) refl

-- the ranges of pages, and of one more after them
pub ranges_push : (ps : List ℕ) (q : ℕ) → page_ranges (ps ++ q ∷ []) ≡ joined_with (page_ranges ps) q
ranges_push [] q = refl
ranges_push (p ∷ ps) q = ap (with_page p) (ranges_push ps q) ∙ around p q (page_ranges ps)

-- a loop's step
pub ranges_more : (ps : List ℕ) (i d : ℕ) → i < length ps →
    page_ranges (take (i + 1) ps) ≡ joined_with (page_ranges (take i ps)) (get_or ps i d)
ranges_more ps i d below = ap page_ranges (take_more ps i d below) ∙ ranges_push (take i ps) (get_or ps i d)

-- a page after ranges, whether it follows the last one directly or not
module _ (old rest : List PageRange) (r : PageRange) (q : ℕ) (split : old ≡ rest ++ r ∷ []) where
  -- A page that follows the last range directly becomes the end of this range.
  pub joined_neighbour : (r.last + 1 == q) ≡ true → rest ++ up_to_page r q ∷ [] ≡ joined_with old q
  joined_neighbour e =
      sym
      (ap (λ (rs : List PageRange). joined_with rs q) split ∙ joined_behind rest r q ∙ ap (λ b. rest ++ last_joined b r q) e)

  -- Any other page becomes a range of its own behind the last one.
  pub joined_alone : (r.last + 1 == q) ≡ false → (rest ++ r ∷ []) ++ alone q ∷ [] ≡ joined_with old q
  joined_alone e =
      append_assoc rest (r ∷ []) (alone q ∷ [])
      ∙ sym
      (ap (λ (rs : List PageRange). joined_with rs q) split ∙ joined_behind rest r q ∙ ap (λ b. rest ++ last_joined b r q) e)
