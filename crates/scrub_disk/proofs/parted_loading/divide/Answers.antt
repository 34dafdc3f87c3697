-- As many blocks as it takes have all pages.
use Rattle.std.proofs.Common.{rules, arith, ◌≡◌, ◌≤◌, ◌<◌, ◌+◌, ◌*◌, ◌^◌, ℕ, inl, inr}
use Rattle.std.specs.Int.{div_ceil}
use Rattle.std.proofs.lemmas.Bool.{cases_lt}
use Rattle.std.proofs.lemmas.Grind.{div_ceil_times}
use Rattle.std.proofs.Math.Nat.{mul-le-mul_left, mul-le-mul_right}
use Rattle.scrub_disk.specs.declared.geometry.Geometry.{Geometry}
use Rattle.scrub_disk.proofs.parted_loading.divide.Goals as goal

-- the least number of rows of b that have a elements
record IsCeil (a b q : ℕ) : Type 0 where
  enough : a ≤ q * b
  least : q * b < a + b

within : (a b c q : ℕ) → IsCeil a b q → a ≤ c * b → q ≤ c
within a b c q is fits = elim (cases_lt c q) [
  | inl over ↦
      let next : c + 1 ≤ q = omega (arith, over) in
      let rows : (c + 1) * b ≤ q * b = mul-le-mul_right b next in
      absurd (omega (arith, rows, fits, is.least))
  | inr below ↦ below
]

some : (a b q : ℕ) → IsCeil a b q → 0 < a → 0 < q
some a b q is pos = elim (cases_lt 0 q) [
  | inl above ↦ above
  | inr none ↦
      let rows : q * b ≤ 0 * b = mul-le-mul_right b none in
      absurd (omega (arith, rows, is.enough, pos))
]

-- N pages, r readers with e pages each, which are s blocks of t pages, at most m
record AreDivided (N r m e s t : ℕ) : Type 0 where
  some_each : 0 < e
  some_share : 0 < s
  some_stride : 0 < t
  few : t ≤ m
  enough : N ≤ r * s * t
  in_range : r * s * t < 2 ^ 62

divided : (N r m e s t : ℕ) → 0 < N → N ≤ 2 ^ 26 → 0 < r → r < 2 ^ 32 → 0 < m → IsCeil N r e → IsCeil e m s → IsCeil e s t →
    AreDivided N r m e s t
divided N r m e s t pos small readers few_readers most each share stride =
    let e_some = some N r e each pos in
    let s_some = some e m s share e_some in
    let N_rows : N * 1 ≤ N * r = mul-le-mul_left N (omega (arith, readers)) in
    let e_small : e ≤ N = within N r N e each (omega (arith, N_rows)) in
    let e_rows : e * 1 ≤ e * m = mul-le-mul_left e (omega (arith, most)) in
    let s_small : s ≤ e = within e m e s share (omega (arith, e_rows)) in
    let a : r * (t * s) ≤ r * (e + s) = mul-le-mul_left r (omega (arith, stride.least)) in
    let b : s * r ≤ e * r = mul-le-mul_right r s_small in
    let c : e * r ≤ t * s * r = mul-le-mul_right r stride.enough in
    record {
      some_each = e_some;
      some_share = s_some;
      some_stride = some e s t stride e_some;
      few = within e s m t stride (omega (arith, share.enough));
      enough = omega (arith, each.enough, c);
      in_range = omega (arith, a, b, each.least, small, few_readers);
    }

-- a disk has a page, and at most 2^26
pages_of : (g : Geometry) → (0 < g.pages * g.extents) × (g.pages * g.extents ≤ 2 ^ 26)
pages_of g =
    let some_pages : 1 * g.extents ≤ g.pages * g.extents = mul-le-mul_right g.extents g.pages_least in
    let rows : 64 * (g.pages * g.extents) ≤ g.page * (g.pages * g.extents) = mul-le-mul_right (g.pages * g.extents) g.page_least in
    (omega (arith, some_pages, g.extents_least), omega (arith, rows, g.total_fits))

division : (g : Geometry) (N r m e s t : ℕ) → N ≡ g.pages * g.extents → 0 < r → r < 2 ^ 32 → 0 < m → e ≡ div_ceil N r →
    s ≡ div_ceil e m → t ≡ div_ceil e s → AreDivided (g.pages * g.extents) r m e s t
division g N r m e s t all readers few_readers most each share stride =
    let e_is = ceil N r e readers each in
    let e_of : IsCeil (g.pages * g.extents) r e = rw all at e_is in
    let s_is = ceil e m s most share in
    let s_some = some e m s s_is (some (g.pages * g.extents) r e e_of (pages_of g).0) in
    divided (g.pages * g.extents) r m e s t (pages_of g).0 (pages_of g).1 readers few_readers most e_of s_is (ceil e s t s_some stride)
  where
    ceil : (a b q : ℕ) → 0 < b → q ≡ div_ceil a b → IsCeil a b q
    ceil a b q pos is = rw is (record { enough = (div_ceil_times a b pos).0; least = (div_ceil_times a b pos).1 })

pub invariant_of-result-clause-some : goal.invariant_of-result-clause-some
invariant_of-result-clause-some c =
    let all : c.pages.result * c.extents.result ≡ c.args.geometry.pages * c.args.geometry.extents = search rules in
    (division c.args.geometry (c.pages.result * c.extents.result) c.args.readers c.most_pages.result c.div_ceil-each.result
    c.div_ceil-share.result c.div_ceil.result all c.requires.some c.requires.few c.most_pages.ensures.some
    c.div_ceil-each.ensures c.div_ceil-share.ensures c.div_ceil.ensures).some_stride

pub invariant_of-result-clause-few : goal.invariant_of-result-clause-few
invariant_of-result-clause-few c =
    let all : c.pages.result * c.extents.result ≡ c.args.geometry.pages * c.args.geometry.extents = search rules in
    let divided = division c.args.geometry (c.pages.result * c.extents.result) c.args.readers c.most_pages.result c.div_ceil-each.result
    c.div_ceil-share.result c.div_ceil.result all c.requires.some c.requires.few c.most_pages.ensures.some
    c.div_ceil-each.ensures c.div_ceil-share.ensures c.div_ceil.ensures in
    omega (arith, divided.few, c.most_pages.ensures.few)

pub returns-clause-enough : goal.returns-clause-enough
returns-clause-enough c =
    let all : c.pages.result * c.extents.result ≡ c.args.geometry.pages * c.args.geometry.extents = search rules in
    (division c.args.geometry (c.pages.result * c.extents.result) c.args.readers c.most_pages.result c.div_ceil-each.result
    c.div_ceil-share.result c.div_ceil.result all c.requires.some c.requires.few c.most_pages.ensures.some
    c.div_ceil-each.ensures c.div_ceil-share.ensures c.div_ceil.ensures).enough

pub returns-clause-in_range : goal.returns-clause-in_range
returns-clause-in_range c =
    let all : c.pages.result * c.extents.result ≡ c.args.geometry.pages * c.args.geometry.extents = search rules in
    (division c.args.geometry (c.pages.result * c.extents.result) c.args.readers c.most_pages.result c.div_ceil-each.result
    c.div_ceil-share.result c.div_ceil.result all c.requires.some c.requires.few c.most_pages.ensures.some
    c.div_ceil-each.ensures c.div_ceil-share.ensures c.div_ceil.ensures).in_range
