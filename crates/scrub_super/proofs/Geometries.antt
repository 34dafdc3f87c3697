-- A record's own sizes: they are read from its front, and their numbers determine them.
use Rattle.std.proofs.Common.{◌≡◌, ◌≤◌, ◌*◌, ℕ, List, [], take, drop, arith, ◌∙◌, ap, Option, Some, Result, Ok, Err, MatchResult, IsTrue}
use Rattle.std.specs.Int.{is_power_of_two}
use Rattle.std.proofs.Props.{props}
use mathlib.Core.HLevel.{is_prop→PathP}
use Rattle.std.specs.Array.{IsFirstChunk}
use Rattle.std.specs.Result.{result_ok}
use Rattle.byteorder.specs.Endian.{big_number}
use Rattle.byteorder.specs.Numbers.{big_number-reads_back}
use Rattle.scrub_disk.specs.declared.geometry.Geometry.{Geometry}
use Rattle.scrub_disk.specs.declared.geometry.GeometryFault.{GeometryFault}
use Rattle.scrub_disk.specs.declared.geometry.GeometryFault.TheVariants.{PageSize, Pages, Extents, ExtentBytes, TotalBytes}
use Rattle.scrub_disk.specs.Limits.{max_extent_bytes, max_disk_bytes}
use Rattle.scrub_disk.specs.Faults.{HasSizes, IsFirstBroken}
use Rattle.scrub_super.specs.declared.kind.RecordKind.{RecordKind}
use Rattle.scrub_super.specs.Contents.{Contents}
use Rattle.scrub_super.specs.Pages.{magic_of}
use Rattle.scrub_super.specs.Record.{BeginsWithRecord}
use Rattle.scrub_super.specs.steps.RecordRead.{IsFront}
use Rattle.scrub_super.proofs.Fronts.{front_magic, front_of_head}
use Rattle.scrub_super.proofs.RecordParts.{is_head}

-- ---- sizes are determined by their numbers, whatever shows that they are within their limits

power-prop : (p : ℕ) → IsProp (IsTrue (is_power_of_two p))
power-prop p = hlevel props

le-prop : (m n : ℕ) → IsProp (m ≤ n)
le-prop m n = hlevel props

-- three numbers determine a geometry
pub same_geometry : (g h : Geometry) → g.page ≡ h.page → g.pages ≡ h.pages → g.extents ≡ h.extents → g ≡ h
same_geometry g h p n e = λ i. record {
  page = p i;
  pages = n i;
  extents = e i;
  page_least = is_prop→PathP (λ j. 64 ≤ p j) (λ j. le-prop _ _) g.page_least h.page_least i;
  page_most = is_prop→PathP (λ j. p j ≤ 65536) (λ j. le-prop _ _) g.page_most h.page_most i;
  page_power = is_prop→PathP (λ j. IsTrue (is_power_of_two (p j))) (λ j. power-prop (p j)) g.page_power h.page_power i;
  pages_least = is_prop→PathP (λ j. 1 ≤ n j) (λ j. le-prop _ _) g.pages_least h.pages_least i;
  pages_most = is_prop→PathP (λ j. n j ≤ 65536) (λ j. le-prop _ _) g.pages_most h.pages_most i;
  extents_least = is_prop→PathP (λ j. 2 ≤ e j) (λ j. le-prop _ _) g.extents_least h.extents_least i;
  extents_most = is_prop→PathP (λ j. e j ≤ 65536) (λ j. le-prop _ _) g.extents_most h.extents_most i;
  extent_fits = is_prop→PathP (λ j. p j * n j ≤ max_extent_bytes) (λ j. le-prop _ _) g.extent_fits h.extent_fits i;
  total_fits = is_prop→PathP (λ j. p j * n j * e j ≤ max_disk_bytes) (λ j. le-prop _ _) g.total_fits h.total_fits i;
}

-- no limit of a geometry is broken
not_broken : (g : Geometry) (fault : GeometryFault) → IsFirstBroken g.page g.pages g.extents fault → ⊥
not_broken g PageSize b = b (record { least = g.page_least; most = g.page_most; power = g.page_power })
not_broken g Pages b = b.1 (record { least = g.pages_least; most = g.pages_most })
not_broken g Extents b = b.2 (record { least = g.extents_least; most = g.extents_most })
not_broken g ExtentBytes b = omega (arith, b.3, g.extent_fits)
not_broken g TotalBytes b = omega (arith, b.4, g.total_fits)

sizes_accepted : {g : Geometry} (made : Result Geometry GeometryFault) {known : Option Geometry} {p n e : ℕ} →
    p ≡ g.page → n ≡ g.pages → e ≡ g.extents →
    MatchResult made (λ h. HasSizes h p n e) (IsFirstBroken p n e) → known ≡ result_ok made → known ≡ Some g
sizes_accepted {g} (Ok h) hp hn he sizes is =
    is ∙ ap Some (same_geometry h g (sizes.page ∙ hp) (sizes.pages ∙ hn) (sizes.extents ∙ he))
sizes_accepted {g} (Err fault) hp hn he broken is = absurd (not_broken g fault (rw (hp, hn, he) at broken))

-- ---- the numbers are in the front

front_sizes : {g : Geometry} {x : List ℕ} {k : RecordKind} {generation runs p n e : ℕ} →
    IsFront g x k generation runs →
    p ≡ big_number 4 (take 4 (drop 12 x)) → n ≡ big_number 4 (take 4 (drop 16 x)) →
    e ≡ big_number 4 (take 4 (drop 20 x)) → (p ≡ g.page) × (n ≡ g.pages) × (e ≡ g.extents)
front_sizes {g} h hp hn he = (
  (rw h.spelled at hp) ∙ big_number-reads_back 4 g.page [] (omega (arith, g.page_most)),
  (rw h.spelled at hn) ∙ big_number-reads_back 4 g.pages [] (omega (arith, g.pages_most)),
  (rw h.spelled at he) ∙ big_number-reads_back 4 g.extents [] (omega (arith, g.extents_most)),
)

-- bytes that don't begin with the letters of a kind don't begin with a record
pub no_kind : (x : List ℕ) {y : List ℕ} → IsFirstChunk x y 26 → ((k : RecordKind) → take 4 y ≡ magic_of k → ⊥) →
    (g : Geometry) (c : Contents) → BeginsWithRecord g x c → ⊥
no_kind x first none g c b = none _ (front_magic _ (rw (← first.same) at (front_of_head x (is_head b))))

-- the sizes of a record are read where it begins
pub sizes_read : (x : List ℕ) {y : List ℕ} (made : Result Geometry GeometryFault) {known : Option Geometry} {p n e : ℕ} →
    IsFirstChunk x y 26 →
    p ≡ big_number 4 (take 4 (drop 12 y)) → n ≡ big_number 4 (take 4 (drop 16 y)) →
    e ≡ big_number 4 (take 4 (drop 20 y)) →
    MatchResult made (λ h. HasSizes h p n e) (IsFirstBroken p n e) → known ≡ result_ok made →
    (g : Geometry) (c : Contents) → BeginsWithRecord g x c → known ≡ Some g
sizes_read x made first hp hn he sizes is g c b =
    let read = front_sizes (rw (← first.same) at (front_of_head x (is_head b))) hp hn he in
    sizes_accepted made read.0 read.1 read.2 sizes is
