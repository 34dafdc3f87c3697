-- Which head bytes begin with, by their front.
use Rattle.std.proofs.Common.{◌≡◌, ◌≤◌, ℕ, List, ◌++◌, length, take, drop, arith, sym, ◌∙◌, ap, append_assoc, Option, Some}
use Rattle.std.specs.Array.{IsFirstChunk}
use Rattle.std.specs.Int.{w16, from_be_bytes}
use Rattle.std.proofs.Math.Seq.{take-add}
use Rattle.std.proofs.lemmas.List.{length-take-le}
use Rattle.std.proofs.lemmas.Nat.{be_bytes_2}
use Rattle.byteorder.specs.Endian.{big_bytes, big_number}
use Rattle.byteorder.specs.Numbers.{big_from-lt}
use Rattle.list_facts.proofs.Spelling.{AreBytes, AreBytes-drop, AreBytes-take}
use Rattle.scrub_disk.specs.declared.geometry.Geometry.{Geometry}
use Rattle.scrub_super.specs.declared.kind.RecordKind.{RecordKind}
use Rattle.scrub_super.specs.declared.kind.RecordKind.TheVariants.{Ssb2}
use Rattle.scrub_super.specs.steps.RecordRead.{IsFront, IsHead, front_bytes, head_bytes}

-- two bytes are spelled by the number that they spell
two_bytes : (y : List ℕ) (t : ℕ) → length y ≡ 2 → AreBytes y → t ≡ big_number 2 y → big_bytes 2 t ≡ y
two_bytes y t l h is = be_bytes_2 y t l h (is ∙ (let e : big_number 2 y ≡ from_be_bytes w16 y = omega arith in e))

-- a front of the second kind, and the number after it
pub listing_head : {g : Geometry} (x : List ℕ) {y rest count : List ℕ} {k : RecordKind} {n r t : ℕ} →
    IsFront g y k n r → k ≡ Ssb2 → y ≡ take 26 x → rest ≡ drop 26 x → IsFirstChunk rest count 2 → AreBytes x →
    t ≡ big_number 2 count → IsHead g (take 28 x) n r (Some t)
listing_head {g} x {y} {rest} {count} {k} {n} {r} {t} front listing first after counted bytes is = record {
  fits = front.fits;
  few = front.few;
  small = rw is (big_from-lt 0 2 count count_bytes);
  spelled =
      take-add 26 2 x
      ∙ ap (λ z. z ++ take 2 (drop 26 x)) (sym first ∙ (rw listing at front.spelled))
      ∙ ap (λ z. front_bytes 0x32 g n r ++ z) (sym count_is ∙ sym spelled);
}
  where
    count_is : count ≡ take 2 (drop 26 x)
    count_is = counted.same ∙ ap (take 2) after

    long : 2 ≤ length (drop 26 x)
    long = rw after at counted.enough

    count_bytes : AreBytes count
    count_bytes = rw count_is (AreBytes-take 2 (drop 26 x) long (AreBytes-drop 26 x bytes))

    spelled : big_bytes 2 t ≡ count
    spelled = two_bytes count t (ap length count_is ∙ length-take-le 2 (drop 26 x) long) count_bytes is

-- a head with a list is written in two parts
pub head_written : (g : Geometry) (old : List ℕ) (n r : ℕ) {o1 o2 count : List ℕ} {t : ℕ} {k : Option ℕ} → k ≡ Some t →
    o1 ≡ old ++ front_bytes 0x32 g n r → count ≡ big_bytes 2 t → o2 ≡ o1 ++ count → o2 ≡ old ++ head_bytes g n r k
head_written g old n r {t = t} is h1 hc h2 =
    rw (h2, h1, hc, is) (append_assoc old (front_bytes 0x32 g n r) (big_bytes 2 t))
