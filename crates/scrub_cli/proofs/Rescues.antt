-- Pages and blocks that are lost because a map lacks a byte of them.
use Rattle.std.proofs.Common.{◌≡◌, ◌<◌, ◌≤◌, ◌+◌, ◌*◌, ℕ, List, Bool, true, false, Option, None, Some, length, get_or, arith, ap, refl, sym, ◌∙◌, subst, inl, inr}
use Rattle.std.specs.Int.{div_ceil}
use Rattle.std.proofs.Math.Nat.{mul-le-mul_right}
use Rattle.std.proofs.lemmas.Bool.{cases_lt}
use Rattle.std.proofs.lemmas.Grind.{div_ceil_times}
use Rattle.std.proofs.lemmas.Nat.{row_fits_turned}
use Rattle.scrub_disk.specs.declared.geometry.Geometry.{Geometry}
use Rattle.scrub_disk.specs.Image.{Image, disk_bytes}
use Rattle.scrub_disk.specs.BytesAndMarks.{page_number}
use Rattle.scrub_disk.specs.steps.Marked.{MarksLost}
use Rattle.scrub_map.specs.declared.block.MapBlock.{MapBlock}
use Rattle.scrub_map.specs.declared.map.RescueMap.{RescueMap}
use Rattle.scrub_map.specs.MissingBytes.{KeepsBlocks}
use Rattle.scrub_map.specs.Rescued.{AreLostBlocks}
use Rattle.scrub_map.proofs.LostDecided.{is_lacking, is_lacking-says}
use Rattle.scrub_super.specs.declared.unknown_sizes.front.Front.{Front}
use Rattle.scrub_super.specs.Blocks.{AreLackingBlocks}
use Rattle.scrub_super.specs.UnknownSizes.{IsFrontOf}
use Rattle.scrub_cli.specs.KnownFiles.{KnownRaw}
use Rattle.scrub_cli.specs.Rescue.{AreLackingBy, IsFrontRead, KeepsMap, LosesByMap, LosesPages}

-- ---- pages

-- m rows of P elements are m rows
rows_are : (P m q a : ℕ) → 0 < P → a ≡ m * P → a ≤ q * P → q * P < a + P → q ≡ m
rows_are P m q a pos is enough least = omega (arith, low, high)
  where
    low : m ≤ q
    low = elim (cases_lt q m) [
      | inl under ↦
          let next : q + 1 ≤ m = omega (arith, under) in
          let rows : (q + 1) * P ≤ m * P = mul-le-mul_right P next in
          absurd (omega (arith, rows, is, enough, pos))
      | inr over ↦ over
    ]

    high : q ≤ m
    high = elim (cases_lt m q) [
      | inl over ↦
          let next : m + 1 ≤ q = omega (arith, over) in
          let rows : (m + 1) * P ≤ q * P = mul-le-mul_right P next in
          absurd (omega (arith, rows, is, least))
      | inr under ↦ under
    ]

-- a disk has as many blocks of the size of a page as it has pages
pub page_blocks : (g : Geometry) (size end count : ℕ) → size ≡ g.page → end ≡ disk_bytes g → count ≡ div_ceil end size →
    count ≡ g.pages * g.extents
page_blocks g size end count size_is end_is count_is =
    let times = div_ceil_times (disk_bytes g) g.page (omega (arith, g.page_least)) in
    count_is ∙ ap (λ n. div_ceil n size) end_is ∙ ap (λ n. div_ceil (disk_bytes g) n) size_is
    ∙ rows_are g.page (g.pages * g.extents) (div_ceil (disk_bytes g) g.page) (disk_bytes g) (omega (arith, g.page_least))
    (let e : disk_bytes g ≡ g.pages * g.extents * g.page = omega arith in e) times.0 times.1

-- marks for lost blocks of the size of a page make those pages unreadable
pub loses_pages : (marks lost : List Bool) (blocks : List MapBlock) (before image : Image) (size end : ℕ) → marks ≡ lost →
    size ≡ before.geometry.page → end ≡ disk_bytes before.geometry → AreLostBlocks blocks size end lost →
    MarksLost marks (length marks) before image → LosesPages blocks before image
loses_pages marks lost blocks before image size end same size_is end_is are marked =
    let known : AreLostBlocks blocks before.geometry.page (disk_bytes before.geometry) marks =
    subst (λ (ms : List Bool). AreLostBlocks blocks before.geometry.page (disk_bytes before.geometry) ms) (sym same)
    (subst (λ (n : ℕ). AreLostBlocks blocks n (disk_bytes before.geometry) lost) size_is
    (subst (λ (n : ℕ). AreLostBlocks blocks size n lost) end_is are)) in
    let many : length marks ≡ before.geometry.pages * before.geometry.extents =
    page_blocks before.geometry before.geometry.page (disk_bytes before.geometry) (length marks) refl refl known.one_each in
    let number_below : (e q : ℕ) → e < before.geometry.extents → q < before.geometry.pages → page_number before.geometry e q < length marks =
    λ e q es qs. omega
    (arith, row_fits_turned e before.geometry.pages before.geometry.pages before.geometry.extents es (omega arith), many) in
    record {
      geometry = marked.geometry;
      lost = λ e q es qs is.
          marked.lost e q es qs (number_below e q es qs) ((known.lost (page_number before.geometry e q) (number_below e q es qs)).1 is);
      kept = λ e q es qs is_not. marked.kept e q es qs (λ below. unmarked (get_or marks (page_number before.geometry e q) false)
          (λ is. is_not ((known.lost (page_number before.geometry e q) below).0 is)));
    }
  where
    unmarked : (b : Bool) → (b ≡ true → ⊥) → b ≡ false
    unmarked true is_not = absurd (is_not refl)
    unmarked false is_not = refl

-- the pages that are lost by a map
pub loses_by_map : (map : RescueMap) (before image : Image) →
    ((blocks : List MapBlock) → KeepsBlocks map blocks → LosesPages blocks before image) →
    (blocks : Option (List MapBlock)) → KeepsMap (Some map) blocks → LosesByMap blocks before image
loses_by_map map before image loses None keeps = absurd keeps
loses_by_map map before image loses (Some blocks) keeps = loses blocks keeps

-- without a map none are
pub loses_none : (image : Image) (blocks : Option (List MapBlock)) → KeepsMap None blocks → LosesByMap blocks image image
loses_none image None keeps = refl
loses_none image (Some blocks) keeps = absurd keeps

-- an image without the pages that a map lacks has the same sizes
pub lost_geometry : (blocks : Option (List MapBlock)) (before image : Image) → LosesByMap blocks before image →
    image.geometry ≡ before.geometry
lost_geometry None before image same = ap (λ i. i.geometry) same
lost_geometry (Some blocks) before image loses = loses.geometry

-- ---- blocks of a front

-- a front of a raw image that was opened is one of what is known of it
pub front_as_known : (known : KnownRaw) (bytes : Option (List ℕ)) (fails : ℕ → ℕ → Bool) (most failures : ℕ)
    (blocks : Option (List MapBlock)) (lacking : ℕ → Bool) (front : Front) → bytes ≡ known.bytes → fails ≡ known.fails →
    most ≡ known.most_failures → failures ≤ most → AreLackingBy blocks lacking → IsFrontOf bytes lacking fails failures front →
    IsFrontRead known blocks front
front_as_known known bytes fails most failures blocks lacking front same may bound few lacks is = record {
  failures = failures;
  few = rw (← bound) few;
  lacking = lacking;
  lacks = lacks;
  is_front = rw (← same, ← may) is;
}

-- without a map nothing is lacking
pub lacking_none : (blocks : Option (List MapBlock)) → KeepsMap None blocks → AreLackingBy blocks (λ _. false)
lacking_none None keeps = λ i. refl
lacking_none (Some blocks) keeps = absurd keeps

-- blocks of 512 bytes that are lost by a map are those with a byte that it lacks
lacking_blocks : (blocks : List MapBlock) (end : ℕ) (marks : List Bool) → AreLostBlocks blocks 512 end marks →
    AreLackingBlocks end (is_lacking blocks) marks
lacking_blocks blocks end marks are n below = (
  (λ marked.
      let l = (are.lost n below).0 marked in
      record { place = l.place; low = l.low; high = l.high; before_end = l.before; lacks = (is_lacking-says blocks l.place).1 l.lost }),
  (λ l. (are.lost n below).1
      (record { place = l.place; low = l.low; high = l.high; before = l.before_end; lost = (is_lacking-says blocks l.place).0 l.lacks })),
)

-- the front of what is known of a raw image, without the blocks that a map lacks
pub front_by_map : (known : KnownRaw) (bytes : Option (List ℕ)) (fails : ℕ → ℕ → Bool) (most failures : ℕ) (map : RescueMap)
    (blocks : Option (List MapBlock)) (end : ℕ) (marks : List Bool) (front : Front) → bytes ≡ known.bytes → fails ≡ known.fails →
    most ≡ known.most_failures → failures ≤ most → KeepsMap (Some map) blocks →
    ((kept : List MapBlock) → KeepsBlocks map kept → AreLostBlocks kept 512 end marks) →
    ((lacking : ℕ → Bool) → AreLackingBlocks end lacking marks → IsFrontOf bytes lacking fails failures front) →
    IsFrontRead known blocks front
front_by_map known bytes fails most failures map None end marks front same may bound few keeps are without = absurd keeps
front_by_map known bytes fails most failures map (Some blocks) end marks front same may bound few keeps are without =
    front_as_known known bytes fails most failures (Some blocks) (is_lacking blocks) front same may bound few (is_lacking-says blocks)
    (without (is_lacking blocks) (lacking_blocks blocks end marks (are blocks keeps)))
