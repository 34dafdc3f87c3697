-- What fronts and heads of records spell.
use Rattle.std.proofs.Common.{◌≡◌, ◌≤◌, ℕ, List, [], length, take, drop, get_or, arith, refl, sym, ◌∙◌, ap, Option, Some, None}
use Rattle.std.proofs.lemmas.List.{take-take}
use Rattle.byteorder.specs.Endian.{big_number}
use Rattle.byteorder.specs.Numbers.{big_number-reads_back}
use Rattle.scrub_disk.specs.declared.geometry.Geometry.{Geometry}
use Rattle.scrub_super.specs.declared.kind.RecordKind.{RecordKind}
use Rattle.scrub_super.specs.declared.kind.RecordKind.TheVariants.{Ssb1, Ssb2}
use Rattle.scrub_super.specs.Pages.{magic_of}
use Rattle.scrub_super.specs.steps.RecordRead.{IsFront, IsHead, digit_by, front_bytes, head_bytes, kind_by, record_head_size}

-- two kinds with the same letters are the same
pub one_magic : (j k : RecordKind) → magic_of j ≡ magic_of k → j ≡ k
one_magic Ssb1 Ssb1 e = refl
one_magic Ssb2 Ssb2 e = refl
one_magic Ssb1 Ssb2 e = absurd (omega (arith, ap (λ t. get_or t 3 0) e))
one_magic Ssb2 Ssb1 e = absurd (omega (arith, ap (λ t. get_or t 3 0) e))

-- a front begins with the letters of its kind
pub front_magic : {g : Geometry} {x : List ℕ} (k : RecordKind) {n r : ℕ} → IsFront g x k n r → take 4 x ≡ magic_of k
front_magic Ssb1 h = ap (take 4) h.spelled
front_magic Ssb2 h = ap (take 4) h.spelled

-- what is read from a front
module _ {g : Geometry} {x : List ℕ} (kind : RecordKind) {k : RecordKind} {generation runs n r : ℕ} (hk : take 4 x ≡ magic_of kind)
    (hn : generation ≡ big_number 8 (take 8 (drop 4 x)))
    (hr : runs ≡ big_number 2 (take 2 (drop 24 x))) (h : IsFront g x k n r) where
  -- What is read from a front are its kind, its generation and its number of index runs.
  pub front_read : (kind ≡ k) × (generation ≡ n) × (runs ≡ r)
  front_read = (
    one_magic kind k (sym hk ∙ front_magic k h),
    (rw h.spelled at hn) ∙ big_number-reads_back 8 n [] h.fits,
    (rw h.spelled at hr) ∙ big_number-reads_back 2 r [] (omega (arith, h.few)),
  )

  -- what is read spells the front again
  pub front_again : {y : List ℕ} → y ≡ front_bytes (digit_by kind) g generation runs → x ≡ y
  front_again hy = h.spelled ∙ sym (rw (front_read.0, front_read.1, front_read.2) at hy)

-- bytes are one front at most
pub one_front : {g : Geometry} {x : List ℕ} {j k : RecordKind} {n m r s : ℕ} → IsFront g x j n r → IsFront g x k m s →
    (j ≡ k) × (n ≡ m) × (r ≡ s)
one_front {j = j} h i =
    let p = front_read j (front_magic j h) refl refl h in
    let q = front_read j (front_magic j h) refl refl i in
    (q.0, sym p.1 ∙ q.1, sym p.2 ∙ q.2)

-- how long a head is
pub length_head : (g : Geometry) (n r : ℕ) (k : Option ℕ) → length (head_bytes g n r k) ≡ record_head_size k
length_head g n r None = refl
length_head g n r (Some t) = refl

-- a head has at most 28 bytes
pub head_sizes : (k : Option ℕ) → record_head_size k ≤ 28
head_sizes None = omega arith
head_sizes (Some t) = omega arith

-- and at least 26
pub least_head : (k : Option ℕ) → 26 ≤ record_head_size k
least_head None = omega arith
least_head (Some t) = omega arith

-- the front of the bytes that begin with a head
pub front_of_head : {g : Geometry} (x : List ℕ) {n r : ℕ} {k : Option ℕ} →
    IsHead g (take (record_head_size k) x) n r k → IsFront g (take 26 x) (kind_by k) n r
front_of_head {g} x {n} {r} {k} h = record {
  fits = h.fits;
  few = h.few;
  spelled = sym (take-take 26 _ x (least_head k)) ∙ ap (take 26) h.spelled ∙ begins k;
}
  where
    begins : (o : Option ℕ) → take 26 (head_bytes g n r o) ≡ front_bytes (digit_by (kind_by o)) g n r
    begins None = refl
    begins (Some t) = refl

one_count : {g : Geometry} (x : List ℕ) {n m r s : ℕ} (k j : Option ℕ) → IsHead g (take (record_head_size k) x) n r k →
    IsHead g (take (record_head_size j) x) m s j →
    kind_by k ≡ kind_by j → k ≡ j
one_count x None None h i same = refl
one_count x None (Some u) h i same = cc
one_count x (Some t) None h i same = cc
one_count x (Some t) (Some u) h i same =
    ap Some
    (sym (big_number-reads_back 2 t [] h.small)
    ∙ ap (λ y. big_number 2 (drop 26 y)) (sym h.spelled ∙ i.spelled)
    ∙ big_number-reads_back 2 u [] i.small)

-- bytes begin with one head at most
pub one_head : {g : Geometry} (x : List ℕ) {n m r s : ℕ} {k j : Option ℕ} →
    IsHead g (take (record_head_size k) x) n r k → IsHead g (take (record_head_size j) x) m s j →
    (n ≡ m) × (r ≡ s) × (k ≡ j)
one_head x h i =
    let same = one_front (front_of_head x h) (front_of_head x i) in
    (same.1, same.2, one_count x _ _ h i same.0)
