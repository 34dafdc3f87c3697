-- Scanned extents each of whose chunks is still one: they are found as before, and spares in them stay.
use Rattle.std.proofs.Common.{◌≡◌, ◌⊎◌, ◌==◌, ℕ, Bool, true, false, Some, None, List, [], ◌∷◌, arith, refl, ◌∙◌, ap, inl, inr, if◌then◌else◌}
use Rattle.std.specs.List.{AllZip, Contains}
use Rattle.std.proofs.lemmas.Bool.{eqb-true}
use Rattle.list_facts.proofs.Elements.{Contains-behind, Contains-filter_map, Contains-from_filter_map}
use Rattle.scrub_scan.specs.declared.item.Item.{Item}
use Rattle.scrub_scan.specs.declared.item.Item.TheVariants.{Chunk, Pad, Torn, Noise, Lost}
use Rattle.scrub_scan.specs.declared.standing.Standing.{Standing}
use Rattle.scrub_scan.specs.AllFindings.{entry_of}
use Rattle.scrub_scan.specs.Scanned.{Scanned}
use Rattle.scrub_check.specs.declared.statuses.checked.Checked.{Checked}
use Rattle.scrub_check.specs.Live.{is_chunk}
use Rattle.scrub_check.specs.Spares.{frame_of_item, frames, frames_in, spares_of}
use Rattle.scrub_reclaim.proofs.ResetForms.{frames_along, spare_among, spare_too}

-- ---- scanned extents

-- an extent that was scanned before and after, each chunk of which is still one
pub record IsKept (f g : Scanned) : Type 0 where
  pub extent : g.extent ≡ f.extent
  pub chunks : (item : Item) → Contains f.findings.items item → is_chunk item ≡ true → Contains g.findings.items item

-- what an extent's number finds
abbrev pub AreFound : List Scanned → List Scanned → ℕ → Type 0
AreFound fs gs e =
    ((entry_of fs e ≡ None) × (entry_of gs e ≡ None)) ⊎
    ((f : Scanned) × (g : Scanned) × (entry_of fs e ≡ Some f) × (entry_of gs e ≡ Some g) × Contains fs f × Contains gs g × (f.extent ≡ e) × IsKept f g)

-- An extent that was scanned before and after, and keeps its chunks, is found both times.
pub found_both : (fs gs : List Scanned) (e : ℕ) → AllZip IsKept fs gs → AreFound fs gs e
found_both [] [] e zip = inl (refl, refl)
found_both [] (g ∷ gs) e zip = absurd zip
found_both (f ∷ fs) [] e zip = absurd zip
found_both (f ∷ fs) (g ∷ gs) e zip = by (f.extent == e) refl (found_both fs gs e zip.1)
  where
    other : (f.extent == e) ≡ false → (g.extent == e) ≡ false
    other o = ap (λ (n : ℕ). n == e) zip.0.extent ∙ o

    same : (f.extent == e) ≡ true → (g.extent == e) ≡ true
    same o = ap (λ (n : ℕ). n == e) zip.0.extent ∙ o

    pick : (h : Scanned) (hs : List Scanned) (b : Bool) → (h.extent == e) ≡ b →
        entry_of (h ∷ hs) e ≡ (if b then Some h else entry_of hs e)
    pick h hs b is = ap (λ (t : Bool). if t then Some h else entry_of hs e) is

    by : (b : Bool) → (f.extent == e) ≡ b → AreFound fs gs e → AreFound (f ∷ fs) (g ∷ gs) e
    by true is rest = inr (
      f,
      g,
      pick f fs true is,
      pick g gs true (same is),
      (0, omega arith, refl),
      (0, omega arith, refl),
      eqb-true f.extent e is,
      zip.0,
    )
    by false is (inl none) = inl (pick f fs false is ∙ none.0, pick g gs false (other is) ∙ none.1)
    by false is (inr (a, b, ea, eb, ca, cb, number, kept)) = inr (
      a,
      b,
      pick f fs false is ∙ ea,
      pick g gs false (other is) ∙ eb,
      Contains-behind f fs a ca,
      Contains-behind g gs b cb,
      number,
      kept,
    )

-- ---- spares

-- a frame is that of a chunk
frame_of_chunk : (e : ℕ) (item : Item) (s : Standing) → frame_of_item e item ≡ Some s → is_chunk item ≡ true
frame_of_chunk e (Chunk form start stop uuid n digest) s is = refl
frame_of_chunk e (Pad start stop) s is = cc
frame_of_chunk e (Torn start stop) s is = cc
frame_of_chunk e (Noise start stop) s is = cc
frame_of_chunk e (Lost start stop) s is = cc

-- so each chunk that was there as a frame is there
frames_kept_in : (f g : Scanned) (s : Standing) → IsKept f g → Contains (frames_in f) s → Contains (frames_in g) s
frames_kept_in f g s kept there =
    let from = Contains-from_filter_map (frame_of_item f.extent) f.findings.items s there in
    Contains-filter_map (frame_of_item g.extent) g.findings.items from.0 s
    (kept.chunks from.0 from.1 (frame_of_chunk f.extent from.0 s from.2))
    (ap (λ (e : ℕ). frame_of_item e from.0) kept.extent ∙ from.2)

-- A spare is still one.
pub spares_kept : (fs gs : List Scanned) (c : Checked) (s : Standing) → AllZip IsKept fs gs → Contains (spares_of fs c) s →
    Contains (spares_of gs c) s
spares_kept fs gs c s zip there =
    spare_too c (frames fs) (frames gs) s there
    (frames_along IsKept s (λ f g kept inside. frames_kept_in f g s kept inside) fs gs zip (spare_among c (frames fs) (frames gs) s there))
