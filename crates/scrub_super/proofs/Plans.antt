-- The lists of a plan.
use Rattle.std.proofs.Common.{◌≡◌, ◌<◌, ◌≤◌, ◌+◌, ◌*◌, ◌-◌, ℕ, List, [], ◌∷◌, true, filter, length, get_or, arith, refl, ap, All, replicate, Option, Some, None, IfSome}
use Rattle.std.specs.List.{Contains, range_with_len}
use Rattle.std.specs.List.Sorted.{IsStrictlyIncreasing}
use Rattle.std.proofs.lemmas.List.{get_or-replicate, length-replicate}
use Rattle.std.proofs.lemmas.List.Elements.{All-filter, filter_passes}
use Rattle.std.proofs.lemmas.List.Kept.{IsStrictlyIncreasing-filter}
use Rattle.std.proofs.lemmas.List.FromFn.{length-range_with_len, get_or-range_with_len}
use Rattle.list_facts.proofs.Elements.{All-of_contained}
use Rattle.scrub_disk.specs.declared.geometry.Geometry.{Geometry}
use Rattle.scrub_frame.specs.declared.locator.Locator.{Locator}
use Rattle.scrub_super.specs.Planned.{ArePlanned, AreRetired, is_in_use, extents_in_use}
use Rattle.scrub_super.specs.Record.{AreContents}
use Rattle.scrub_super.specs.steps.Limits.{ArePointers, AreRunLocators}
use Rattle.scrub_super.specs.Contents.{Contents}
use Rattle.scrub_super.proofs.Listed.{listed_extents}

-- the extents in use can be planned
pub in_use_planned : (e : ℕ) (retired : List ℕ) → ArePlanned e (extents_in_use e retired)
in_use_planned e retired = record {
  rising =
      IsStrictlyIncreasing-filter (is_in_use retired) all
      (λ k hk. omega (arith, value k 0 (omega (arith, hk)), value (k + 1) 0 hk));
  from_one = All-filter (is_in_use retired) (λ n. 1 ≤ n) all (λ k d hk. rw (value k d hk) (omega arith));
  below =
      All-filter (is_in_use retired) (λ n. n < e) all
      (λ k d hk. rw (value k d hk) (omega (arith, hk, length-range_with_len 1 (e - 1))));
}
  where
    all : List ℕ
    all = range_with_len 1 (e - 1)

    value : (k d : ℕ) → k < length all → get_or all k d ≡ 1 + k
    value k d hk = get_or-range_with_len 1 (e - 1) k d (omega (arith, hk, length-range_with_len 1 (e - 1)))

-- they are all extents except extent 0 if none is retired
pub all_kept : (e : ℕ) → extents_in_use e [] ≡ range_with_len 1 (e - 1)
all_kept e = kept (range_with_len 1 (e - 1))
  where
    kept : (xs : List ℕ) → filter (is_in_use []) xs ≡ xs
    kept [] = refl
    kept (x ∷ xs) = ap (λ ys. x ∷ ys) (kept xs)

-- and none of them is retired
pub all_in_use : (e : ℕ) (retired : List ℕ) → All (λ x. is_in_use retired x ≡ true) (extents_in_use e retired)
all_in_use e retired = filter_passes (is_in_use retired) (range_with_len 1 (e - 1))

-- some of the planned extents can be planned
pub some_planned : {e : ℕ} {xs ys : List ℕ} → ArePlanned e xs → IsStrictlyIncreasing ys → All (Contains xs) ys →
    ArePlanned e ys
some_planned {e} {xs} {ys} h rising each = record {
  rising = rising;
  from_one = All-of_contained (λ n. 1 ≤ n) xs ys h.from_one each;
  below = All-of_contained (λ n. n < e) xs ys h.below each;
}

-- pointers that are all the extent's size
pub full_pointers : (g : Geometry) (n size : ℕ) → n + 1 ≡ g.extents → size ≡ g.page * g.pages →
    ArePointers g (replicate n size)
full_pointers g n size hn hs = record {
  count = omega (arith, length-replicate n size);
  within = λ k d hk. rw (get_or-replicate n k size d (omega (arith, hk, length-replicate n size))) (omega arith);
}

-- no extent is retired
pub none_retired : (e : ℕ) (xs : List ℕ) → xs ≡ [] → AreRetired e xs
none_retired e xs is = rw is (listed_extents e None tt)

-- and there are no runs
pub no_runs : {rs : List Locator} → rs ≡ [] → AreRunLocators rs
no_runs e = rw e (record { count = omega arith; each = λ k d hk. absurd (omega (arith, hk)) })

-- what was chosen fits the geometry that it was chosen under
pub chosen_fits : {o : Option Contents} {c : Contents} {g k : Geometry} → Some c ≡ o → g ≡ k →
    IfSome o (AreContents g) → AreContents k c
chosen_fits is same h = rw (← same) (rw (← is) at h)
