-- How many bytes the items of a tiling take: what was written, and those of them that pass a test no more than that.
use Rattle.std.proofs.Common.{◌≡◌, ◌<◌, ◌+◌, ◌^◌, ℕ, List, [], ◌∷◌, arith, ◌==◌, Option, Some, None, refl, ◌∙◌, ap}
use Rattle.std.specs.List.{sum_by, All, Contains}
use Rattle.std.proofs.lemmas.List.Sums.{sum_by-cons}
use Rattle.std.proofs.lemmas.List.Elements.{All-head, All-tail}
use Rattle.list_facts.proofs.Searches.{find_passes}
use Rattle.scrub_scan.specs.declared.item.Item.{Item}
use Rattle.scrub_disk.specs.Image.{Image}
use Rattle.scrub_scan.specs.declared.findings.Findings.{Findings}
use Rattle.scrub_scan.specs.Findings.{IsFindings}
use Rattle.scrub_scan.specs.Extent.{Extent, extent_of}
use Rattle.scrub_scan.specs.Item.{stop_of, IsItem}
use Rattle.scrub_scan.specs.Tiling.{Joins, IsTiling}
use Rattle.scrub_scan.proofs.Tilings.{advances}
use Rattle.scrub_check.specs.Live.{size_of}
use Rattle.std.proofs.lemmas.Bool.Decides.{nat_tests}
use Rattle.std.proofs.lemmas.List.{get_or-map, length-map}
use Rattle.scrub_scan.specs.Scanned.{Scanned}
use Rattle.scrub_scan.specs.AllFindings.{extent_numbers, entry_of}

-- items that join from one place to the pointer take what lies between
joined_sizes : (x : Extent) (a : ℕ) (items : List Item) → 0 < x.page → Joins a x.pointer items → All (IsItem x) items →
    a + sum_by size_of items ≡ x.pointer
joined_sizes x a [] pos joined each = omega (arith, joined)
joined_sizes x a (i ∷ is) pos joined each =
    let one = advances x i pos (All-head (IsItem x) i is each) in
    let more : stop_of i + sum_by size_of is ≡ x.pointer =
    joined_sizes x (stop_of i) is pos joined.1 (All-tail (IsItem x) i is each) in
    let sum : sum_by size_of (i ∷ is) ≡ size_of i + sum_by size_of is = sum_by-cons size_of i is in
    omega (arith, one.0, joined.0, more, sum)

-- the sizes of a tiling's items sum to the pointer
pub sizes_of_tiling : (x : Extent) (items : List Item) → 0 < x.page → IsTiling x items → sum_by size_of items ≡ x.pointer
sizes_of_tiling x items pos h =
    let all : 0 + sum_by size_of items ≡ x.pointer = joined_sizes x 0 items pos h.joined h.each in
    omega (arith, all)

-- so do those of what was found under the pointer
pub sizes_found : (image : Image) (e w : ℕ) (found : Findings) → IsFindings image e w found → sum_by size_of found.items ≡ w
sizes_found image e w found h =
    sizes_of_tiling (extent_of image e w) found.items (omega (arith, image.geometry.page_least)) h.tiled

-- so 32 bits count what the items take that findings show, as they count the pointer
pub sizes_fit : (image : Image) (e w : ℕ) (found : Findings) (items : List Item) → IsFindings image e w found →
    items ≡ found.items → w < 2 ^ 32 →
    sum_by size_of items < 2 ^ 32
sizes_fit image e w found items h shown below =
    let sizes : sum_by size_of items ≡ w = ap (sum_by size_of) shown ∙ sizes_found image e w found h in
    omega (arith, sizes, below)

-- what wasn't scanned isn't found
pub not_scanned : (all : List Scanned) (e : ℕ) → ¬ Contains (extent_numbers all) e → entry_of all e ≡ None
not_scanned all e missing = by (entry_of all e) refl
  where
    there : {f : Scanned} → Contains all f → Contains (extent_numbers all) f.extent
    there {f} (i, inside, is) = (
      i,
      omega (arith, inside, length-map all (λ g. g.extent)),
      get_or-map (λ g. g.extent) all i f f.extent inside ∙ ap (λ g. g.extent) is,
    )

    by : (o : Option Scanned) → entry_of all e ≡ o → entry_of all e ≡ None
    by None is = is
    by (Some f) is =
        let passes = find_passes (λ g. g.extent == e) all f is in
        let same : f.extent ≡ e = grind (arith, nat_tests, passes.0) in
        absurd (missing (rw same at (there passes.1)))
