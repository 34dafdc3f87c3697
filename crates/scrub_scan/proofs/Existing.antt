-- Each place of an extent has a frame or none, and an item; so an extent has a tiling, an extent of an image has findings,
-- and the planned extents of a plan have theirs.
use Rattle.std.proofs.Common.{◌≡◌, ◌⊎◌, ◌<◌, ◌≤◌, ◌+◌, ◌-◌, ◌^◌, ℕ, zero, suc, List, [], ◌∷◌, ◌++◌, map, cond, length, get_or, All, arith, refl, sym, ◌∙◌, ap, Some, None, inl, inr, slice_get}
use Rattle.std.proofs.lemmas.Bool.{cases_lt, ne_eqb}
use Rattle.std.proofs.lemmas.Option.{slice_get-get_or}
use Rattle.std.proofs.lemmas.List.Elements.{All-cons, All-nil}
use Rattle.sha2.specs.Sha256.{sha256}
use Rattle.list_facts.proofs.Decisions.{Decided, decided_at_most, decided_below, decided_both, decided_less, decided_like, decided_none, decided_number, decided_some}
use Rattle.scrub_disk.specs.Image.{Image, AreBytesAt, unreadable_pages}
use Rattle.scrub_frame.specs.declared.form.Form.{Form}
use Rattle.scrub_frame.specs.declared.form.Form.TheVariants.{Plain, Sealed}
use Rattle.scrub_frame.specs.Frame.{frame_of, head, magic, seal, mark, payload_start, head_size, frame_overhead}
use Rattle.scrub_frame.specs.Matching.{form_in, length_in, uuid_in}
use Rattle.scrub_frame.proofs.Claims.{IsHead, form-in, length-in, uuid-in}
use Rattle.scrub_super.specs.Plan.{PlanValue, IsPlan, pointer_of}
use Rattle.scrub_super.proofs.BytesHere.{bytes_here, length-bytes_here, exactly, decided_bytes_at}
use Rattle.scrub_scan.specs.declared.item.Item.{Item}
use Rattle.scrub_scan.specs.declared.item.Item.TheVariants.{Chunk, Pad, Torn, Noise, Lost}
use Rattle.scrub_scan.specs.declared.findings.Findings.{Findings}
use Rattle.scrub_scan.specs.Extent.{Extent, extent_of, FrameAt, NoFrameAt, bound_above, IsZero, HasMagic}
use Rattle.scrub_scan.specs.Item.{start_of, stop_of, IsItem}
use Rattle.scrub_scan.specs.Tiling.{Joins, IsTiling}
use Rattle.scrub_scan.specs.Findings.{tail, IsFindings}
use Rattle.scrub_scan.specs.Scanned.{Scanned}
use Rattle.scrub_scan.specs.AllFindings.{AreAllFindings}
use Rattle.scrub_scan.proofs.FrameBytes.{length-head_of, bytes_front, from_payload, parts_stand}
use Rattle.scrub_scan.proofs.Tilings.{advances}

-- ---- frames

decided_this_frame : (x : Extent) (p : ℕ) (f : Form) (u b : List ℕ) → Decided (FrameAt x p f u b)
decided_this_frame x p f u b =
    let sizes : Decided ((length u ≡ 16) × (length b < 2 ^ 32)) =
    decided_both (decided_number (length u) 16) (decided_less (length b) (2 ^ 32)) in
    let rest : Decided ((p + length b + frame_overhead f ≤ x.pointer) × AreBytesAt x.byte p (frame_of f u b)) =
    decided_both (decided_at_most (p + length b + frame_overhead f) x.pointer)
    (decided_bytes_at x.byte p (frame_of f u b)) in
    let all : Decided (((length u ≡ 16) × (length b < 2 ^ 32)) × ((p + length b + frame_overhead f ≤ x.pointer) × AreBytesAt x.byte p (frame_of f u b))) =
    decided_both sizes rest in
    decided_like all
    (λ h. record { has_frame = record { sixteen = h.0.0; short = h.0.1 }; fits = h.1.0; stands = h.1.1 })
    (λ h. ((h.has_frame.sixteen, h.has_frame.short), (h.fits, h.stands)))

-- the only frame that may be at a place, by the bytes of its head
module _ (x : Extent) (p : ℕ) where
  abbrev head_bytes : List ℕ
  head_bytes = bytes_here x.byte p head_size

  abbrev payload_bytes : List ℕ
  payload_bytes = bytes_here x.byte (p + payload_start (form_in head_bytes)) (length_in head_bytes)

  only_that : (f : Form) (u b : List ℕ) → FrameAt x p f u b →
      (form_in head_bytes ≡ f) × (uuid_in head_bytes ≡ u) × (payload_bytes ≡ b)
  only_that f u b k = (form-in h, uuid-in h, payload)
    where
      lh : length (head f u (length b)) ≡ head_size
      lh = length-head_of f u (length b) k.has_frame.sixteen

      h : IsHead head_bytes f u (length b)
      h = record {
        whole = length-bytes_here x.byte p head_size;
        short = k.has_frame.short;
        is =
            exactly x.byte p head_size (head f u (length b))
            (bytes_front x.byte p (head f u (length b)) (seal f b ++ (b ++ (u ++ mark f))) (parts_stand k)) (sym lh);
      }

      payload : payload_bytes ≡ b
      payload =
          ap (λ (g : Form). bytes_here x.byte (p + payload_start g) (length_in head_bytes)) (form-in h)
          ∙ exactly x.byte (p + payload_start f) (length_in head_bytes) b
          (bytes_front x.byte (p + payload_start f) b (u ++ mark f) (from_payload x p f u b k)) (length-in h)

  moved : (f g : Form) (u v b c : List ℕ) → f ≡ g → u ≡ v → b ≡ c → FrameAt x p g v c → FrameAt x p f u b
  moved f g u v b c same_form same_uuid same_payload k = rw (same_form, same_uuid, same_payload) k

  -- At each place is a frame, or no frame of either form.
  pub some_frame : ((f : Form) × (u : List ℕ) × (b : List ℕ) × FrameAt x p f u b) ⊎ NoFrameAt x p
  some_frame = by (decided_this_frame x p (form_in head_bytes) (uuid_in head_bytes) payload_bytes)
    where
      by : Decided (FrameAt x p (form_in head_bytes) (uuid_in head_bytes) payload_bytes) →
          ((f : Form) × (u : List ℕ) × (b : List ℕ) × FrameAt x p f u b) ⊎ NoFrameAt x p
      by (inl stands) = inl (form_in head_bytes, uuid_in head_bytes, payload_bytes, stands)
      by (inr none) = inr (λ f u b k.
          let is = only_that f u b k in
          none (moved (form_in head_bytes) f (uuid_in head_bytes) u payload_bytes b is.0 is.1 is.2 k))

-- ---- items

decided_zero : (x : Extent) (p : ℕ) → Decided (IsZero x p)
decided_zero x p =
    decided_like (decided_below (λ k. x.byte (p + k) ≡ Some 0) (λ k. decided_some (x.byte (p + k)) 0) (bound_above x p - p))
    (λ all i low high.
    let e : p + (i - p) ≡ i = omega (arith, low) in
    ap x.byte (sym e) ∙ all (i - p) (omega (arith, low, high)))
    (λ all k here. all (p + k) (omega arith) (omega (arith, here)))

decided_magic : (x : Extent) (p : ℕ) → Decided (HasMagic x p)
decided_magic x p = decided_both (decided_at_most (p + 2) (bound_above x p)) (by (decided_bytes_at x.byte p (magic Plain)) (decided_bytes_at x.byte p (magic Sealed)))
  where
    by : Decided (AreBytesAt x.byte p (magic Plain)) → Decided (AreBytesAt x.byte p (magic Sealed)) →
        Decided ((f : Form) × AreBytesAt x.byte p (magic f))
    by (inl plain) d = inl (Plain, plain)
    by (inr neither) (inl sealed) = inl (Sealed, sealed)
    by (inr neither) (inr nor) = inr (λ m. at m.0 m.1)
      where
        at : (f : Form) → AreBytesAt x.byte p (magic f) → ⊥
        at Plain = neither
        at Sealed = nor

-- the item that begins at a place
some_item : (x : Extent) (p : ℕ) → p < x.pointer → (item : Item) × (start_of item ≡ p) × IsItem x item
some_item x p below = by_frame (some_frame x p)
  where
    stop : ℕ
    stop = bound_above x p

    by_frame : ((f : Form) × (u : List ℕ) × (b : List ℕ) × FrameAt x p f u b) ⊎ NoFrameAt x p →
        (item : Item) × (start_of item ≡ p) × IsItem x item
    by_frame (inl k) = (
      Chunk k.0 p (p + length k.2 + frame_overhead k.0) k.1 (length k.2) (sha256 k.2),
      refl,
      record {
        below = below;
        fits = (k.2, k.3, refl, refl, refl);
      },
    )
    by_frame (inr none) = by_page (decided_none (x.byte p))
      where
        by_page : Decided (x.byte p ≡ None) → (item : Item) × (start_of item ≡ p) × IsItem x item
        by_page (inl lost) =
            (Lost p stop, refl, record { below = below; fits = (refl, none, lost) })
        by_page (inr there) = by_zeros (decided_zero x p)
          where
            by_zeros : Decided (IsZero x p) → (item : Item) × (start_of item ≡ p) × IsItem x item
            by_zeros (inl zeros) = (Pad p stop, refl, record { below = below; fits = (refl, none, zeros) })
            by_zeros (inr other) = by_magic (decided_magic x p)
              where
                by_magic : Decided (HasMagic x p) → (item : Item) × (start_of item ≡ p) × IsItem x item
                by_magic (inl m) =
                    (Torn p stop, refl, record { below = below; fits = (refl, none, there, other, m) })
                by_magic (inr m) =
                    (Noise p stop, refl, record { below = below; fits = (refl, none, there, other, m) })

-- ---- tilings

-- items from a place to the pointer
abbrev AreItemsFrom : Extent → ℕ → List Item → Type 0
AreItemsFrom x p items = Joins p x.pointer items × All (IsItem x) items

-- the item at a place, and those behind it, if the pointer isn't reached
one_before : (x : Extent) → 0 < x.page → (m p : ℕ) → p ≤ x.pointer → x.pointer ≤ p + suc m →
    ((q : ℕ) → q ≤ x.pointer → x.pointer ≤ q + m → (items : List Item) × AreItemsFrom x q items) →
    (p < x.pointer) ⊎ (x.pointer ≤ p) → (items : List Item) × AreItemsFrom x p items
one_before x pos m p within reach behind (inr done) =
    ([], ((let e : p ≡ x.pointer = omega (arith, done, within) in e), All-nil (IsItem x)))
one_before x pos m p within reach behind (inl left) =
    let first = some_item x p left in
    let up = advances x first.0 pos first.2 in
    let rest = behind (stop_of first.0) up.1 (omega (arith, up.0, first.1, reach)) in
    (first.0 ∷ rest.0, ((first.1, rest.1.0), All-cons (IsItem x) first.0 rest.0 first.2 rest.1.1))

-- the items from a place to the pointer, which n more bytes reach
items_from : (x : Extent) → 0 < x.page → (n p : ℕ) → p ≤ x.pointer → x.pointer ≤ p + n →
    (items : List Item) × AreItemsFrom x p items
items_from x pos zero p within reach =
    ([], ((let e : p ≡ x.pointer = omega (arith, reach, within) in e), All-nil (IsItem x)))
items_from x pos (suc m) p within reach =
    one_before x pos m p within reach (λ q low high. items_from x pos m q low high) (cases_lt p x.pointer)

-- an extent has a tiling
pub some_tiling : (x : Extent) → 0 < x.page → (items : List Item) × IsTiling x items
some_tiling x pos =
    let all = items_from x pos x.pointer 0 (omega arith) (omega arith) in
    (all.0, record { joined = all.1.0; each = all.1.1 })

-- an extent of an image has findings
pub some_findings : (image : Image) (e w : ℕ) → (found : Findings) × IsFindings image e w found
some_findings image e w =
    let tiled = some_tiling (extent_of image e w) (omega (arith, image.geometry.page_least)) in (
      record {
        items = tiled.0;
        tail_count = length (tail image e w);
        tail_first = slice_get (tail image e w) 0;
        bad_pages = unreadable_pages image e;
      },
      record { tiled = tiled.1; tail_counted = refl; tail_least = refl; bad_pages = refl },
    )

-- ---- all planned extents

-- each planned extent has a pointer
pointer_there : (plan : PlanValue) → IsPlan plan → All (λ e. (w : ℕ) × (pointer_of plan e ≡ Some w)) plan.planned
pointer_there plan is k d here =
    let e = get_or plan.planned k d in
    let low : 1 ≤ e = is.extents.from_one k d here in
    let high : e < plan.geometry.extents = is.extents.below k d here in (
      get_or plan.pointers (e - 1) 0,
      ap (λ b. cond b None (slice_get plan.pointers (e - 1))) (ne_eqb e 0 (λ zero. omega (arith, zero, low)))
          ∙ slice_get-get_or plan.pointers (e - 1) 0 (omega (arith, low, high, is.within.count)),
    )

findings_from : (image : Image) (plan : PlanValue) (es : List ℕ) → All (λ e. (w : ℕ) × (pointer_of plan e ≡ Some w)) es →
    (all : List Scanned) × (map (λ f. f.extent) all ≡ es)
    × All (λ f. pointer_of plan f.extent ≡ Some f.pointer) all
    × All (λ f. IsFindings image f.extent f.pointer f.findings) all
findings_from image plan [] at = (
  [],
  refl,
  All-nil (λ (f : Scanned). pointer_of plan f.extent ≡ Some f.pointer),
  All-nil (λ (f : Scanned). IsFindings image f.extent f.pointer f.findings),
)
findings_from image plan (e ∷ es) at =
    let w = at 0 e (omega arith) in
    let found = some_findings image e w.0 in
    let rest = findings_from image plan es (λ k d here. at (suc k) d (omega (arith, here))) in
    let first : Scanned = record { extent = e; pointer = w.0; findings = found.0 } in (
      first ∷ rest.0,
      ap (λ (ns : List ℕ). e ∷ ns) rest.1,
      All-cons (λ (f : Scanned). pointer_of plan f.extent ≡ Some f.pointer) first rest.0 w.1 rest.2,
      All-cons (λ (f : Scanned). IsFindings image f.extent f.pointer f.findings) first rest.0 found.1 rest.3,
    )

-- and so have all planned ones
pub some_all_findings : (image : Image) (plan : PlanValue) → IsPlan plan → (all : List Scanned) × AreAllFindings image plan all
some_all_findings image plan is =
    let found = findings_from image plan plan.planned (pointer_there plan is) in
    (found.0, record { extents = found.1; pointers = found.2; findings = found.3 })
