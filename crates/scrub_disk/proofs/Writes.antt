-- A write of n elements ys at place a of a list xs.
use Rattle.std.proofs.Common.{rules, ◌≡◌, ◌<◌, ◌≤◌, ◌+◌, ℕ, List, length, get_or, ◌⊎◌, inl, inr}
use Rattle.std.proofs.lemmas.List.{places}
use borrow.Rule.Slice.PartMut.{put_mid}

-- within it the list has ys,
pub put_within : (xs ys : List ℕ) (a n k : ℕ) → n ≡ length ys → a + n ≤ length xs → k < n →
    get_or (put_mid a n xs ys) (a + k) 0 ≡ get_or ys k 0
put_within xs ys a n k e fits hk = search (rules, places)

-- outside it the elements are as they were,
pub put_outside : (xs ys : List ℕ) (a n i : ℕ) → n ≡ length ys → a + n ≤ length xs → (i < a) ⊎ (a + n ≤ i) →
    i < length xs → get_or (put_mid a n xs ys) i 0 ≡ get_or xs i 0
put_outside xs ys a n i e fits (inl h) hi = search (rules, places)
put_outside xs ys a n i e fits (inr h) hi = search (rules, places)

-- and the list is as long as it was
pub length-put : (xs ys : List ℕ) (a n : ℕ) → a + n ≤ length xs → length ys ≡ n → length (put_mid a n xs ys) ≡ length xs
length-put xs ys a n fits l = search (rules, places)
