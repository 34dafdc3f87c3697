-- Why there is no record if a test of the bytes fails.
use Rattle.std.proofs.Common.{◌≡◌, ◌<◌, ◌≤◌, ◌+◌, ◌*◌, ℕ, List, length, take, drop, get_or, arith, refl, sym, ◌∙◌, ap, Bool, false, IsTrue, Option}
use Rattle.std.specs.List.{flat_map}
use Rattle.std.proofs.lemmas.Bool.{false≢true}
use Rattle.byteorder.specs.Endian.{big_bytes, big_number}
use Rattle.sha2.specs.Sha256.{sha256}
use Rattle.list_facts.proofs.Spelling.{part-flat_map}
use Rattle.scrub_disk.specs.declared.geometry.Geometry.{Geometry}
use Rattle.scrub_frame.proofs.Bytes.{number-bytes, number-take}
use Rattle.scrub_frame.specs.Frame.{digest_size}
use Rattle.scrub_super.specs.declared.kind.RecordKind.{RecordKind}
use Rattle.scrub_super.specs.Contents.{Contents}
use Rattle.scrub_super.specs.Planned.{AreRetired}
use Rattle.scrub_super.specs.Record.{BeginsWithRecord}
use Rattle.scrub_super.specs.steps.RecordRead.{IsFront, IsHead, record_head_size, digest_place, pointer_bytes, retired_bytes, number_in, SpellExtents}
use Rattle.scrub_super.proofs.Fronts.{front_of_head, least_head}
use Rattle.scrub_super.proofs.Listed.{AreSmall, count_in, length_numbers, pointers_in, small_pointers, listed_extents}
use Rattle.scrub_super.proofs.RecordParts.{is_head, known_parts, known_digest, record_parts}

-- there is no record if there is no front
pub no_front : {g : Geometry} {x y : List ℕ} {c : Contents} → y ≡ take 26 x →
    ((k : RecordKind) (n r : ℕ) → IsFront g y k n r → ⊥) → BeginsWithRecord g x c → ⊥
no_front {x = x} first none b = none _ _ _ (rw (← first) at (front_of_head x (is_head b)))

-- there is no record if the bytes are fewer than those of the shortest one
pub too_few : {g : Geometry} {x : List ℕ} {c : Contents} → length x < 58 → BeginsWithRecord g x c → ⊥
too_few {c = c} few b = omega (arith, few, least_head (count_in c), (record_parts b).enough)

-- the k-th number that is spelled
spelled_number : (ws : List ℕ) (k : ℕ) → AreSmall ws → k < length ws →
    number_in (flat_map (big_bytes 4) ws) k ≡ get_or ws k 0
spelled_number ws k small here =
    sym (number-take (drop (4 * k) (flat_map (big_bytes 4) ws)))
    ∙ ap (big_number 4) (part-flat_map (big_bytes 4) 4 k 0 ws (λ j d hj. refl) here)
    ∙ number-bytes (get_or ws k 0) (small k 0 here)

-- retired extents are spelled as such
spells_extents : {e : ℕ} {xs : List ℕ} → e ≤ 65536 → AreRetired e xs → SpellExtents e (flat_map (big_bytes 4) xs)
spells_extents {e} {xs} few h = record {
  rising = λ k hk.
      let next : k + 1 < length xs = omega (arith, length_numbers xs) in
      rw (value k (omega arith), value (k + 1) next) (h.rising k next);
  from_one = λ k hk.
      let here : k < length xs = omega (arith, length_numbers xs) in
      rw (value k here) (h.from_one k 0 here);
  below = λ k hk. let here : k < length xs = omega (arith, length_numbers xs) in rw (value k here) (h.below k 0 here);
}
  where
    value : (k : ℕ) → k < length xs → number_in (flat_map (big_bytes 4) xs) k ≡ get_or xs k 0
    value k here = spelled_number xs k (λ i z hi. omega (arith, h.below i z hi)) here

-- there is a head, but not the rest
module _ {g : Geometry} {x : List ℕ} {n r : ℕ} {k : Option ℕ} {c : Contents}
    (h : IsHead g (take (record_head_size k) x) n r k) (b : BeginsWithRecord g x c) where
  -- the bytes end before the digest does
  pub too_short : {e : ℕ} → e ≡ digest_place g r k → length x < e + digest_size → ⊥
  too_short he short = omega (arith, (known_parts h b).enough)

  -- another digest is there
  pub other_digest : {e : ℕ} {body rest : List ℕ} {answer : Bool} → e ≡ digest_place g r k → body ≡ take e x →
      rest ≡ drop e x → (take digest_size rest ≡ sha256 body → IsTrue answer) → answer ≡ false → ⊥
  other_digest he hb hr right wrong = false≢true (sym wrong ∙ right (rw (hr, hb, he) (known_digest h b)))

  -- a pointer is over the limit
  pub over_limit : {part : List ℕ} {most : ℕ} {answer : Bool} → part ≡ pointer_bytes g k x → most ≡ g.page * g.pages →
      (((j : ℕ) → 4 * j + 4 ≤ length part → number_in part j ≤ most) → IsTrue answer) → answer ≡ false → ⊥
  over_limit is limit all over =
      false≢true (sym over ∙ all (rw (is, (known_parts h b).pointers_are, limit) within))
    where
      within : (j : ℕ) → 4 * j + 4 ≤ length (flat_map (big_bytes 4) c.pointers) →
          number_in (flat_map (big_bytes 4) c.pointers) j ≤ g.page * g.pages
      within j hj =
          let here : j < length c.pointers = omega (arith, length_numbers c.pointers) in
          rw (spelled_number c.pointers j (small_pointers (pointers_in b.contents)) here)
          (b.contents.pointers_within j 0 here)

  -- the retired extents don't rise, or one isn't an extent of the disk
  pub not_extents : {part : List ℕ} {e : ℕ} {answer : Bool} → part ≡ retired_bytes g k x → e ≡ g.extents →
      (SpellExtents e part → IsTrue answer) → answer ≡ false → ⊥
  not_extents is count all over =
      false≢true
      (sym over
      ∙ all (rw (is, (known_parts h b).retired_are, count)
      (spells_extents g.extents_most (listed_extents g.extents c.retired b.contents.retired))))
