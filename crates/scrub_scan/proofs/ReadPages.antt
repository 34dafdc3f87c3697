-- Which pages the source was asked for, and that it was asked as many times.
use Rattle.std.proofs.Common.{◌≡◌, ◌<◌, ◌≤◌, ◌+◌, ◌*◌, ◌/◌, ◌^◌, ◌==◌, ℕ, ◌∷◌, arith, refl, sym, ap, ◌∙◌, inl, inr, Some}
use Rattle.std.specs.List.{Contains}
use Rattle.std.proofs.lemmas.Bool.{cases_lt, eq-eqb}
use Rattle.std.proofs.lemmas.Nat.{div_below}
use Rattle.std.proofs.lemmas.Option.{IfSome_then}
use Rattle.std.proofs.lemmas.List.Folds.{list_any_at}
use Rattle.std.proofs.lemmas.Map.Steps.{le-length_from_below}
use Rattle.list_facts.proofs.Elements.{Contains-behind}
use Rattle.scrub_disk.specs.Image.{Image}
use Rattle.scrub_scan.specs.declared.pages.Target.{Target}
use Rattle.scrub_scan.specs.declared.pages.TwoPages.{TwoPages}
use Rattle.scrub_scan.specs.steps.Pages.{HasRead, IsTarget, HasLoaded, ReadsFar}

-- after a call for page q, which is the near one then
pub near_read : (p r : TwoPages) (n q : ℕ) → r.near.number ≡ Some q → r.far.number ≡ p.far.number →
    (r.asked < 2 ^ 32 → p.asked + 1 ≤ r.asked) → HasRead p n → HasRead r n
near_read p r n q near far count h = record {
  calls = q ∷ h.calls;
  each = λ small. omega (arith, count small, h.each (omega (arith, count small, small)));
  near = rw near (0, omega arith, refl);
  far = rw far (IfSome_then p.far.number h.far (Contains-behind q h.calls));
  below = λ k hk. Contains-behind q h.calls k (h.below k hk);
}

-- and which is the far one
pub far_read : (p r : TwoPages) (n q : ℕ) → r.near.number ≡ p.near.number → r.far.number ≡ Some q →
    (r.asked < 2 ^ 32 → p.asked + 1 ≤ r.asked) → HasRead p n → HasRead r n
far_read p r n q near far count h = record {
  calls = q ∷ h.calls;
  each = λ small. omega (arith, count small, h.each (omega (arith, count small, small)));
  near = rw near (IfSome_then p.near.number h.near (Contains-behind q h.calls));
  far = rw far (0, omega arith, refl);
  below = λ k hk. Contains-behind q h.calls k (h.below k hk);
}

-- fewer pages
pub read_fewer : (p : TwoPages) (n m : ℕ) → m ≤ n → HasRead p n → HasRead p m
read_fewer p n m le h = record {
  calls = h.calls;
  each = h.each;
  near = h.near;
  far = h.far;
  below = λ q hq. h.below q (omega (arith, hq, le));
}

-- and one more, which a buffer has
pub read_next : (p : TwoPages) (n : ℕ) → HasLoaded p n → HasRead p n → HasRead p (n + 1)
read_next p n has h = record {
  calls = h.calls;
  each = h.each;
  near = h.near;
  far = h.far;
  below = λ q hq. elim (cases_lt q n) [
    | inl less ↦ h.below q less
    | inr same ↦ let e : n ≡ q = omega (arith, same, hq) in rw e at here
  ];
}
  where
    here : Contains h.calls n
    here = elim has [
      | inl near ↦ let c : Contains h.calls n = rw near at h.near in c
      | inr far ↦ let c : Contains h.calls n = rw far at h.far in c
    ]

-- the pages before that of the pointer are pages of the extent
pub pages_before : (image : Image) (t : Target) → IsTarget image t → t.pointer / t.page ≤ image.geometry.pages
pages_before image t is =
    let size : image.geometry.pages * t.page ≡ image.geometry.pages * image.geometry.page =
    ap (λ p. image.geometry.pages * p) is.page in
    let below : t.pointer / t.page < image.geometry.pages + 1 =
    div_below t.pointer t.page (image.geometry.pages + 1) t.positive (omega (arith, size, is.in_extent, t.positive)) in
    omega (arith, below)

-- So there were at least as many calls as pages that were read.
pub all_read : (p : TwoPages) (n : ℕ) → n ≤ 2 ^ 32 → HasRead p n → n ≤ p.asked
all_read p n small h = elim (cases_lt p.asked (2 ^ 32)) [
  | inl few ↦
      omega (
        arith,
        h.each few,
        le-length_from_below h.calls n (λ q hq. let c = h.below q hq in list_any_at (λ k. q == k) h.calls c.0 q c.1 (eq-eqb q _ (sym c.2))),
      )
  | inr many ↦ omega (arith, many, small)
]

-- fewer reads, or none where less is on the near page
pub reads_fewer : (less most : ℕ) (here there : Type 0) (old new : TwoPages) → less ≤ most → (there → here) → ReadsFar less here old new → ReadsFar most there old new
reads_fewer less most here there old new few then reads = record {
  near = reads.near;
  read = reads.read;
  asked = omega (arith, reads.asked, few);
  known = λ h. reads.known (then h);
}

-- some reads and then more
pub reads_both : (few more : ℕ) (first second here : Type 0) (old mid new : TwoPages) → (here → first) → (here → second) → ReadsFar few first old mid → ReadsFar more second mid new → ReadsFar (few + more) here old new
reads_both few more first second here old mid new at then one two = record {
  near = two.near ∙ one.near;
  read = λ n h. two.read n (one.read n h);
  asked = omega (arith, one.asked, two.asked);
  known = λ h. two.known (then h) ∙ one.known (at h);
}
