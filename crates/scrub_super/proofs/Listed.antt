-- The lists of a record: how many elements they have, and how large these are.
use Rattle.std.proofs.Common.{◌≡◌, ◌<◌, ◌≤◌, ◌+◌, ◌*◌, ◌-◌, ◌^◌, ℕ, zero, suc, List, [], ◌∷◌, length, arith, refl, sym, ap, All, Option, Some, None, IfSome, option_map}
use Rattle.std.specs.List.{flat_map}
use Rattle.std.specs.List.Sorted.{IsStrictlyIncreasing}
use Rattle.std.specs.Option.{unwrap_or}
use Rattle.std.proofs.Math.Numerals.{add-one}
use Rattle.std.proofs.lemmas.Option.{same_Some, none-some}
use Rattle.std.proofs.lemmas.Map.Keys.{sorted_from_strictly_increasing}
use Rattle.std.proofs.lemmas.Map.Views.{length-le_from_below}
use Rattle.byteorder.specs.Endian.{big_bytes}
use Rattle.list_facts.proofs.Spelling.{flat_map-injective, length-flat_map_of}
use Rattle.scrub_disk.specs.declared.geometry.Geometry.{Geometry}
use Rattle.scrub_frame.proofs.Bytes.{bytes-injective}
use Rattle.scrub_super.specs.Contents.{Contents}
use Rattle.scrub_super.specs.Planned.{AreRetired}
use Rattle.scrub_super.specs.Record.{AreContents}
use Rattle.scrub_super.specs.steps.Limits.{ArePointers, AreRunLocators}
use Rattle.scrub_super.specs.steps.RecordRead.{retired_count}

-- how many retired extents some contents list
abbrev pub count_in : Contents → Option ℕ
count_in c = option_map length c.retired

-- each number fits four bytes
abbrev pub AreSmall : List ℕ → Type 0
AreSmall ws = All (λ w. w < 2 ^ 32) ws

-- numbers of four bytes each
pub length_numbers : (ws : List ℕ) → length (flat_map (big_bytes 4) ws) ≡ 4 * length ws
length_numbers ws = length-flat_map_of (big_bytes 4) 4 ws (λ k d hk. refl)

-- numbers that are spelled by the same bytes, as many of them, are the same
pub same_numbers : (vs ws : List ℕ) → AreSmall vs → AreSmall ws → length vs ≡ length ws →
    flat_map (big_bytes 4) vs ≡ flat_map (big_bytes 4) ws → vs ≡ ws
same_numbers vs ws = flat_map-injective (big_bytes 4) (λ w. w < 2 ^ 32) 4 vs ws (λ w hw. refl) bytes-injective

-- the limits of the lists of contents
pub pointers_in : {g : Geometry} {c : Contents} → AreContents g c → ArePointers g c.pointers
pointers_in h = record { count = h.pointer_count; within = h.pointers_within }

-- the runs of contents are run locators
pub runs_in : {g : Geometry} {c : Contents} → AreContents g c → AreRunLocators c.runs
runs_in h = record { count = omega (arith, h.run_count); each = h.each_run }

-- ---- write pointers

-- each extent but the first has a pointer of four bytes
pub length_pointers : {g : Geometry} {ws : List ℕ} → ArePointers g ws →
    length (flat_map (big_bytes 4) ws) ≡ 4 * (g.extents - 1)
length_pointers {ws = ws} h = omega (arith, length_numbers ws)

-- write pointers fit four bytes
pub small_pointers : {g : Geometry} {ws : List ℕ} → ArePointers g ws → AreSmall ws
small_pointers {g} h i z hi = omega (arith, h.within i z hi, g.extent_fits)

-- ---- retired extents, if they are listed

-- how many are listed
pub length_listed : (o : Option (List ℕ)) → length (unwrap_or o []) ≡ retired_count (option_map length o)
length_listed None = refl
length_listed (Some xs) = refl

-- how many bytes they take
pub length_retired : (o : Option (List ℕ)) →
    length (flat_map (big_bytes 4) (unwrap_or o [])) ≡ 4 * retired_count (option_map length o)
length_retired o = omega (arith, length_numbers (unwrap_or o []), length_listed o)

-- those that are listed are retired extents, and so are none
pub listed_extents : (e : ℕ) (o : Option (List ℕ)) → IfSome o (AreRetired e) → AreRetired e (unwrap_or o [])
listed_extents e None h = record {
  rising = λ k hk. absurd (omega (arith, hk));
  from_one = λ k d hk. absurd (omega (arith, hk));
  below = λ k d hk. absurd (omega (arith, hk));
}
listed_extents e (Some xs) h = h

-- retired extents are fewer than the extents of the disk
few_extents : {e : ℕ} {xs : List ℕ} → 1 ≤ e → AreRetired e xs → length xs + 1 ≤ e
few_extents {e} {xs} some h =
    omega (arith, length-le_from_below e (0 ∷ xs) (sorted_from_strictly_increasing _ (rising xs h)) below)
  where
    rising : (ys : List ℕ) → AreRetired e ys → IsStrictlyIncreasing (0 ∷ ys)
    rising [] k zero here = absurd (omega (arith, here))
    rising (y ∷ ys) k zero here = k.from_one 0 0 (omega arith)
    rising ys k (suc j) here = rw add-one (rw add-one at (k.rising j (omega (arith, here))))

    below : All (λ y. y < e) (0 ∷ xs)
    below zero d here = omega arith
    below (suc k) d here = h.below k d (omega (arith, here))

-- A record lists fewer retired extents than the disk has extents.
pub few_listed : (g : Geometry) (o : Option (List ℕ)) → IfSome o (AreRetired g.extents) →
    retired_count (option_map length o) + 1 ≤ g.extents
few_listed g None h = omega (arith, g.extents_least)
few_listed g (Some xs) h = few_extents (omega (arith, g.extents_least)) h

-- so their number fits two bytes
pub small_count : (g : Geometry) (o : Option (List ℕ)) → IfSome o (AreRetired g.extents) →
    retired_count (option_map length o) < 2 ^ 16
small_count g o h = omega (arith, few_listed g o h, g.extents_most)

-- and each of them four
pub small_listed : (g : Geometry) (o : Option (List ℕ)) → IfSome o (AreRetired g.extents) → IfSome o AreSmall
small_listed g None h = tt
small_listed g (Some xs) h = λ i z hi. omega (arith, h.below i z hi, g.extents_most)

-- lists that are spelled by the same bytes, or that neither record has, are the same
pub same_listed : (o p : Option (List ℕ)) → option_map length o ≡ option_map length p → IfSome o AreSmall →
    IfSome p AreSmall →
    flat_map (big_bytes 4) (unwrap_or o []) ≡ flat_map (big_bytes 4) (unwrap_or p []) → o ≡ p
same_listed None None count fo fp e = refl
same_listed None (Some ys) count fo fp e = absurd (none-some _ count)
same_listed (Some xs) None count fo fp e = absurd (none-some _ (sym count))
same_listed (Some xs) (Some ys) count fo fp e = ap Some (same_numbers xs ys fo fp (same_Some _ _ count) e)
