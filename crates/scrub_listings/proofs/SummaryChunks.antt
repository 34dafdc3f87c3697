-- How many chunks there are, and how many bytes they take, together and parted into live ones and orphans.
use Rattle.std.proofs.Common.{◌≡◌, ◌+◌, ◌-◌, ◌&&◌, ◌∷◌, [], ℕ, Bool, true, false, not, cond, List, length, arith, refl, sym, ap, ◌∙◌}
use Rattle.std.specs.List.{count_by, filter, filter_map, sum_by}
use Rattle.std.proofs.Math.Path.{fun_ext}
use Rattle.std.proofs.lemmas.List.Concat.{length-flat_map}
use Rattle.std.proofs.lemmas.List.Sums.{sum_by-cons}
use Rattle.scrub_scan.specs.Item.{start_of}
use Rattle.scrub_scan.specs.Scanned.{Scanned}
use Rattle.scrub_scan.specs.declared.item.Item.{Item}
use Rattle.scrub_scan.specs.declared.item.Item.TheVariants.{Chunk, Lost, Noise, Pad, Torn}
use Rattle.scrub_check.specs.declared.lists.place.Place.{Place}
use Rattle.scrub_check.specs.declared.statuses.checked.Checked.{Checked}
use Rattle.scrub_check.specs.Chunks.{chunks, orphans, place_of}
use Rattle.scrub_check.specs.Live.{has_sound_at, is_chunk, live_bytes, size_of}
use Rattle.scrub_listings.specs.Summary.{chunk_bytes, items_of, live_count, one_if, orphan_bytes}

-- the places of chunks are as many as the chunks
places_of : (e : ℕ) (items : List Item) → length (filter_map (place_of e) items) ≡ count_by is_chunk items
places_of e [] = refl
places_of e (i ∷ is) = by i (places_of e is)
  where
    by : (j : Item) → length (filter_map (place_of e) is) ≡ count_by is_chunk is → length (filter_map (place_of e) (j ∷ is)) ≡ count_by is_chunk (j ∷ is)
    by (Chunk form start stop uuid n digest) h = let s = sum_by-cons (λ y. one_if (is_chunk y)) (Chunk form start stop uuid n digest) is in omega (arith, s, h)
    by (Pad start stop) h = let s = sum_by-cons (λ y. one_if (is_chunk y)) (Pad start stop) is in omega (arith, s, h)
    by (Torn start stop) h = let s = sum_by-cons (λ y. one_if (is_chunk y)) (Torn start stop) is in omega (arith, s, h)
    by (Noise start stop) h = let s = sum_by-cons (λ y. one_if (is_chunk y)) (Noise start stop) is in omega (arith, s, h)
    by (Lost start stop) h = let s = sum_by-cons (λ y. one_if (is_chunk y)) (Lost start stop) is in omega (arith, s, h)

-- a sum of sums
sum_both : {X : Type 0} (f g h : X → ℕ) (xs : List X) → ((x : X) → f x ≡ g x + h x) → sum_by f xs ≡ sum_by g xs + sum_by h xs
sum_both f g h [] both = refl
sum_both f g h (x ∷ xs) both =
    let a = sum_by-cons f x xs in
    let b = sum_by-cons g x xs in
    let d = sum_by-cons h x xs in
    let here = both x in
    let later = sum_both f g h xs both in
    omega (arith, a, b, d, here, later)

-- the places of the chunks of one extent, in the order of its items
abbrev chunks_in : Scanned → List Place
chunks_in f = filter_map (place_of f.extent) f.findings.items

-- The scanned extents have as many chunks among their items as there are places of chunks.
pub chunks_counted : (all : List Scanned) → sum_by (items_of is_chunk) all ≡ length (chunks all)
chunks_counted all =
    let each : (f : Scanned) → items_of is_chunk f ≡ length (chunks_in f) = λ f. sym (places_of f.extent f.findings.items) in
    ap (λ (count : Scanned → ℕ). sum_by count all) (fun_ext each)
    ∙ sym (length-flat_map chunks_in all)

-- those that pass and those that don't are all
length_by_count_and_rest : {X : Type 0} (p : X → Bool) (xs : List X) → length xs ≡ count_by p xs + length (filter (λ x. not (p x)) xs)
length_by_count_and_rest p [] = refl
length_by_count_and_rest p (x ∷ xs) = by (p x) (sum_by-cons (λ y. one_if (p y)) x xs) (length_by_count_and_rest p xs)
  where
    by : (b : Bool) → count_by p (x ∷ xs) ≡ one_if b + count_by p xs → length xs ≡ count_by p xs + length (filter (λ y. not (p y)) xs) →
        length (x ∷ xs) ≡ count_by p (x ∷ xs) + length (cond (not b) (x ∷ filter (λ y. not (p y)) xs) (filter (λ y. not (p y)) xs))
    by true s h = omega (arith, s, h)
    by false s h = omega (arith, s, h)

-- The number of chunks less that of orphans is the number of live chunks.
pub live_counted : (all : List Scanned) (checked : List Checked) (n : ℕ) → n ≡ length (orphans all checked) →
    sum_by (items_of is_chunk) all - n ≡ live_count all checked
live_counted all checked n is =
    let both = length_by_count_and_rest (λ (p : Place). has_sound_at checked p.extent p.offset) (chunks all) in
    let count = chunks_counted all in
    omega (arith, both, count, is)

-- the bytes of items that pass a test, parted by another
parted_bytes : (p q : Item → Bool) (items : List Item) →
    sum_by size_of (filter p items) ≡ sum_by size_of (filter (λ i. p i && q i) items) + sum_by size_of (filter (λ i. p i && not (q i)) items)
parted_bytes p q [] = refl
parted_bytes p q (i ∷ is) = by (p i) (q i) (parted_bytes p q is)
  where
    by : (a b : Bool) → sum_by size_of (filter p is) ≡ sum_by size_of (filter (λ j. p j && q j) is) + sum_by size_of (filter (λ j. p j && not (q j)) is) →
        sum_by size_of (cond a (i ∷ filter p is) (filter p is))
        ≡ sum_by size_of (cond (a && b) (i ∷ filter (λ j. p j && q j) is) (filter (λ j. p j && q j) is))
        + sum_by size_of (cond (a && not b) (i ∷ filter (λ j. p j && not (q j)) is) (filter (λ j. p j && not (q j)) is))
    by true true h =
        let s = sum_by-cons size_of i (filter p is) in
        let t = sum_by-cons size_of i (filter (λ j. p j && q j) is) in
        omega (arith, s, t, h)
    by true false h =
        let s = sum_by-cons size_of i (filter p is) in
        let t = sum_by-cons size_of i (filter (λ j. p j && not (q j)) is) in
        omega (arith, s, t, h)
    by false b h = h

-- The bytes of all chunks less the live bytes are the bytes of orphans.
pub orphan_bytes_left : (all : List Scanned) (checked : List Checked) (n : ℕ) → n ≡ sum_by (live_bytes checked) all →
    sum_by chunk_bytes all - n ≡ sum_by (orphan_bytes checked) all
orphan_bytes_left all checked n is =
    let both = sum_both chunk_bytes (live_bytes checked) (orphan_bytes checked) all
    (λ f. parted_bytes is_chunk (λ i. has_sound_at checked f.extent (start_of i)) f.findings.items) in
    omega (arith, both, is)
