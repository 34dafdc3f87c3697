-- Bytes that are cut into the parts of a record: a head, the write pointers, the retired extents, the locators, the digest,
-- and the rest.
use Rattle.std.proofs.Common.{◌≡◌, ◌≤◌, ◌+◌, ℕ, List, ◌++◌, length, take, drop, arith, ap, append_assoc, length-append, take-append-drop, drop-drop}
use Rattle.std.proofs.Math.Seq.{take-add}
use Rattle.std.proofs.lemmas.List.{take_at}
use Rattle.list_facts.proofs.Slices.{part_at}
use Rattle.scrub_frame.specs.Frame.{digest_size}

-- the parts, at their places in the bytes
pub record AreParts (x head pointers retired runs digest : List ℕ) (a p t r : ℕ) : Type 0 where
  pub enough : a + p + t + r + digest_size ≤ length x
  pub head_is : take a x ≡ head
  pub pointers_are : take p (drop a x) ≡ pointers
  pub retired_are : take t (drop (a + p) x) ≡ retired
  pub runs_are : take r (drop (a + p + t) x) ≡ runs
  pub digest_is : take digest_size (drop (a + p + t + r) x) ≡ digest

-- bytes that are written part by part have these parts
pub parts_of : {x head pointers retired runs digest : List ℕ} (rest : List ℕ) {a p t r : ℕ} →
    length head ≡ a → length pointers ≡ p → length retired ≡ t → length runs ≡ r → length digest ≡ digest_size →
    x ≡ (head ++ (pointers ++ (retired ++ runs))) ++ digest ++ rest →
    AreParts x head pointers retired runs digest a p t r
parts_of {x} {head} {pointers} {retired} {runs} {digest} rest {a} {p} {t} {r} lh lp lt lr ld e = record {
  enough = omega (arith, ap length flat, length-append {A = ℕ});
  head_is = rw flat (take_at _ _ _ lh);
  pointers_are = rw flat (part_at _ _ _ _ _ lh lp);
  retired_are =
      rw flat (simp append_assoc at (part_at (head ++ pointers) retired (runs ++ (digest ++ rest)) _ _ l2 lt));
  runs_are = rw flat (simp append_assoc at (part_at (head ++ (pointers ++ retired)) runs (digest ++ rest) _ _ l3 lr));
  digest_is = rw flat (simp append_assoc at (part_at (head ++ (pointers ++ (retired ++ runs))) digest rest _ _ l4 ld));
}
  where
    flat : x ≡ head ++ (pointers ++ (retired ++ (runs ++ (digest ++ rest))))
    flat = simp append_assoc at e

    l2 : length (head ++ pointers) ≡ a + p
    l2 = simp (length-append, lh, lp)

    l3 : length (head ++ (pointers ++ retired)) ≡ a + p + t
    l3 = omega (arith, length-append {A = ℕ})

    l4 : length (head ++ (pointers ++ (retired ++ runs))) ≡ a + p + t + r
    l4 = omega (arith, length-append {A = ℕ})

-- the parts, put together again
pub whole_of : {x head pointers retired runs digest : List ℕ} {a p t r : ℕ} →
    AreParts x head pointers retired runs digest a p t r →
    x ≡ (head ++ (pointers ++ (retired ++ runs))) ++ digest ++ drop (a + p + t + r + digest_size) x
whole_of h =
    rw (← h.head_is, ← h.pointers_are, ← h.retired_are, ← h.runs_are, ← h.digest_is)
    (simp (append_assoc, ← drop-drop, take-append-drop))

-- four parts that follow one another
pub four_parts : (x : List ℕ) (a p t r : ℕ) →
    take a x ++ (take p (drop a x) ++ (take t (drop (a + p) x) ++ take r (drop (a + p + t) x))) ≡ take (a + p + t + r) x
four_parts x a p t r = simp (take-add, append_assoc)

-- the bytes before the digest
pub body_of : {x head pointers retired runs digest : List ℕ} {a p t r : ℕ} →
    AreParts x head pointers retired runs digest a p t r →
    take (a + p + t + r) x ≡ head ++ (pointers ++ (retired ++ runs))
body_of {x} {a = a} {p = p} {t = t} {r = r} h =
    rw (← four_parts x a p t r, h.head_is, h.pointers_are, h.retired_are, h.runs_are)
