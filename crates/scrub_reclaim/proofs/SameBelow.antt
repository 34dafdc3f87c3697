-- What rests on the bytes of an extent below a write pointer alone: its items, and the statuses of the locators into it.
use Rattle.std.proofs.Common.{◌≡◌, ◌<◌, ◌≤◌, ◌+◌, ◌*◌, ◌/◌, ℕ, min, List, get_or, arith, refl, sym, ◌∙◌, subst}
use Rattle.scrub_disk.specs.declared.geometry.Geometry.{Geometry}
use Rattle.scrub_disk.specs.Image.{Image, image_byte}
use Rattle.scrub_frame.specs.declared.form.Form.{Form}
use Rattle.scrub_frame.specs.declared.locator.Locator.{Locator}
use Rattle.scrub_frame.proofs.Frames.{length-magic}
use Rattle.scrub_scan.specs.declared.item.Item.{Item}
use Rattle.scrub_scan.specs.declared.item.Item.TheVariants.{Chunk, Pad, Torn, Noise, Lost}
use Rattle.scrub_scan.specs.Extent.{FrameAt, HasMagic, IsZero, NoFrameAt, bound_above, extent_of}
use Rattle.scrub_scan.specs.Item.{IsItem}
use Rattle.scrub_scan.specs.Tiling.{IsTiling}
use Rattle.scrub_check.specs.declared.statuses.status.Status.{Status}
use Rattle.scrub_check.specs.declared.statuses.status.Status.TheVariants.{OutOfRange, Retired, PastPointer, Unreadable, NoFrame, WrongUuid, WrongLength, WrongDigest, Hidden, Sound}
use Rattle.scrub_check.specs.Status.{BeginsAt, CanStand, FindsFrame, HasStatus, HasStatusInRetired, HasUnreadableByte, InRange, NamesChunk, end_of}
use Rattle.scrub_reclaim.proofs.NextPlaces.{frame_kept}

-- two images have the same sizes, and the same bytes below w in extent e
pub record AreSameBelow (image other : Image) (e w : ℕ) : Type 0 where
  pub sizes : other.geometry ≡ image.geometry
  pub bytes : (p : ℕ) → p < w → image_byte other e p ≡ image_byte image e p

back : {image other : Image} {e w : ℕ} → AreSameBelow image other e w → AreSameBelow other image e w
back a = record { sizes = sym a.sizes; bytes = λ p below. sym (a.bytes p below) }

-- ---- items

module _ {image other : Image} {e w : ℕ} (a : AreSameBelow image other e w) where
  same_bound : (p : ℕ) → bound_above (extent_of other e w) p ≡ bound_above (extent_of image e w) p
  same_bound p = λ i. min w ((p / (a.sizes i).page + 1) * (a.sizes i).page)

  -- a frame below the pointer is there under each pointer that isn't below it
  frame_below : (v p : ℕ) (f : Form) (u b : List ℕ) → w ≤ v → FrameAt (extent_of image e w) p f u b → FrameAt (extent_of other e v) p f u b
  frame_below v p f u b above = frame_kept (extent_of image e w) (extent_of other e v) w a.bytes (omega arith) above p f u b

  zeros_below : (p : ℕ) → IsZero (extent_of image e w) p → IsZero (extent_of other e w) p
  zeros_below p zero i low inside =
      let less : i < bound_above (extent_of image e w) p = omega (arith, inside, same_bound p) in
      a.bytes i (omega (arith, less)) ∙ zero i low less

  magic_below : (p : ℕ) → HasMagic (extent_of image e w) p → HasMagic (extent_of other e w) p
  magic_below p (inside, (f, at)) = (
    omega (arith, inside, same_bound p),
    (f, λ k below. a.bytes (p + k) (omega (arith, below, inside, length-magic f)) ∙ at k below),
  )

module _ {image other : Image} {e w : ℕ} (a : AreSameBelow image other e w) where
  none_below : (p : ℕ) → NoFrameAt (extent_of image e w) p → NoFrameAt (extent_of other e w) p
  none_below p none f u b h = none f u b (frame_below (back a) w p f u b (omega arith) h)

  item_below : (item : Item) → IsItem (extent_of image e w) item → IsItem (extent_of other e w) item
  item_below (Chunk f start stop u n d) h = record {
    below = h.below;
    fits = (h.fits.0, frame_below a w start f u h.fits.0 (omega arith) h.fits.1, h.fits.2, h.fits.3, h.fits.4);
  }
  item_below (Lost start stop) h = record {
    below = h.below;
    fits = (h.fits.0 ∙ sym (same_bound a start), none_below start h.fits.1, a.bytes start h.below ∙ h.fits.2);
  }
  item_below (Pad start stop) h = record {
    below = h.below;
    fits = (h.fits.0 ∙ sym (same_bound a start), none_below start h.fits.1, zeros_below a start h.fits.2);
  }
  item_below (Torn start stop) h = record {
    below = h.below;
    fits = (
      h.fits.0 ∙ sym (same_bound a start),
      none_below start h.fits.1,
      (λ lost. h.fits.2 (sym (a.bytes start h.below) ∙ lost)),
      (λ zero. h.fits.3 (zeros_below (back a) start zero)),
      magic_below a start h.fits.4,
    );
  }
  item_below (Noise start stop) h = record {
    below = h.below;
    fits = (
      h.fits.0 ∙ sym (same_bound a start),
      none_below start h.fits.1,
      (λ lost. h.fits.2 (sym (a.bytes start h.below) ∙ lost)),
      (λ zero. h.fits.3 (zeros_below (back a) start zero)),
      (λ there. h.fits.4 (magic_below (back a) start there)),
    );
  }

  -- An extent with the same bytes below a write pointer has the same items under it.
  pub tiling_below : (items : List Item) → IsTiling (extent_of image e w) items → IsTiling (extent_of other e w) items
  tiling_below items t = record {
    joined = t.joined;
    each = λ i d inside. item_below (get_or items i d) (t.each i d inside);
  }

-- ---- locators

in_range : (g h : Geometry) (l : Locator) → h ≡ g → InRange g l → InRange h l
in_range g h l sizes r = subst (λ (s : Geometry). InRange s l) (sym sizes) r

-- In a retired extent the bytes don't matter.
pub status_in_retired : (image other : Image) (l : Locator) → other.geometry ≡ image.geometry → (s : Status) →
    HasStatusInRetired image l s → HasStatusInRetired other l s
status_in_retired image other l sizes OutOfRange h = λ r. h (in_range other.geometry image.geometry l (sym sizes) r)
status_in_retired image other l sizes Retired h = in_range image.geometry other.geometry l sizes h
status_in_retired image other l sizes _ h = absurd h

unreadable : {image other : Image} {w : ℕ} (l : Locator) → AreSameBelow image other l.extent w → end_of l ≤ w →
    HasUnreadableByte image l → HasUnreadableByte other l
unreadable l a below gap = record {
  place = gap.place;
  low = gap.low;
  high = gap.high;
  unreadable = a.bytes gap.place (omega (arith, gap.high, below)) ∙ gap.unreadable;
}

-- what a locator names is there under each pointer that isn't below the one
module _ {image other : Image} {w : ℕ} (l : Locator) (a : AreSameBelow image other l.extent w) (v : ℕ) (above : w ≤ v) where
  can_stand : CanStand image w l → CanStand other v l
  can_stand c = record {
    in_range = in_range image.geometry other.geometry l a.sizes c.in_range;
    below = omega (arith, c.below, above);
    readable = λ gap. c.readable (unreadable l (back a) c.below gap);
  }

  finds : (u b : List ℕ) → FindsFrame image w l u b → FindsFrame other v l u b
  finds u b f = record {
    can = can_stand f.can;
    form = f.form;
    frame = frame_below a v l.offset f.form u b above f.frame;
  }

  -- A locator that names a chunk still does, with the same payload.
  pub names_below : NamesChunk image w l → NamesChunk other v l
  names_below n = record { payload = n.payload; found = finds l.uuid n.payload n.found; length = n.length; digest = n.digest }

  pub payload_below : (n : NamesChunk image w l) → (names_below n).payload ≡ n.payload
  unfolding names_below
  payload_below n = refl

module _ {image other : Image} {w : ℕ} (l : Locator) (a : AreSameBelow image other l.extent w) where
  begins : BeginsAt (extent_of image l.extent w) l.offset → BeginsAt (extent_of other l.extent w) l.offset
  begins b = record { items = b.items; tiled = tiling_below a b.items b.tiled; begins = b.begins }

module _ {image other : Image} {w : ℕ} (l : Locator) (a : AreSameBelow image other l.extent w) where
  -- With the same bytes below the write pointer a locator has the same status.
  pub status_below : (s : Status) → HasStatus image w l s → HasStatus other w l s
  status_below OutOfRange h = λ r. h (in_range other.geometry image.geometry l (sym a.sizes) r)
  status_below Retired h = h
  status_below PastPointer h = (in_range image.geometry other.geometry l a.sizes h.0, h.1)
  status_below Unreadable h = (in_range image.geometry other.geometry l a.sizes h.0, h.1, unreadable l a h.1 h.2)
  status_below NoFrame h = (can_stand l a w (omega arith) h.0, none_below a l.offset h.1)
  status_below WrongUuid (u, (b, f, differs)) = (u, (b, finds l a w (omega arith) u b f, differs))
  status_below WrongLength (b, f, differs) = (b, finds l a w (omega arith) l.uuid b f, differs)
  status_below WrongDigest (b, f, same, differs) = (b, finds l a w (omega arith) l.uuid b f, same, differs)
  status_below Hidden h = (names_below l a w (omega arith) h.0, λ b. h.1 (begins l (back a) b))
  status_below Sound h = (names_below l a w (omega arith) h.0, begins l a h.1)
