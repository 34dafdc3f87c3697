-- The status of a locator, from what was found at its place.
use Rattle.std.proofs.Common.{◌≡◌, ◌<◌, ℕ, List, map, length, get_or, slice_index, false, Option, Some, None, inl, inr, arith, refl, sym, ◌∙◌, ap, subst}
use Rattle.std.specs.List.{Contains}
use Rattle.std.proofs.lemmas.List.{get_or-map, length-map}
use Rattle.std.proofs.lemmas.List.Elements.{All-get_or}
use Rattle.scrub_disk.specs.Image.{Image}
use Rattle.scrub_frame.specs.declared.locator.Locator.{Locator}
use Rattle.scrub_super.specs.Plan.{PlanValue, pointer_of}
use Rattle.scrub_scan.specs.declared.standing.Standing.{Standing}
use Rattle.scrub_scan.specs.Extent.{extent_of}
use Rattle.scrub_scan.specs.declared.item.Item.{Item}
use Rattle.scrub_scan.specs.declared.item.Item.TheVariants.{Chunk, Pad, Torn, Noise, Lost}
use Rattle.scrub_scan.specs.Item.{start_of, IsItem}
use Rattle.scrub_scan.specs.Standing.{IsStandingAt}
use Rattle.scrub_scan.specs.Tiling.{IsTiling}
use Rattle.scrub_check.specs.declared.statuses.status.Status.{Status}
use Rattle.scrub_check.specs.declared.statuses.status.Status.TheVariants.{OutOfRange, Retired, PastPointer, Unreadable, NoFrame, WrongUuid, WrongLength, WrongDigest, Hidden, Sound}
use Rattle.scrub_check.specs.Status.{CanStand, FindsFrame, NamesChunk, HasStatus, HasStatusIn, is_retired}
use Rattle.scrub_check.specs.Spares.{frame_of_item}
use Rattle.scrub_check.specs.steps.StatusByFrame.{IsOther, IsMismatch, Agrees, IsStatusByFrame}
use Rattle.scrub_check.specs.steps.Places.{IsIndexOf}
use Rattle.scrub_check.specs.steps.Open.{IsFoundAt, IsOpen, IsSeenAt, IsStatusByItems, IsStatusByFindings}
use Rattle.scrub_check.proofs.Starts.{begins, begins_among}

-- the frame that was found is at the locator's place
finds : (image : Image) (w : ℕ) (l : Locator) (s : Standing) (u : List ℕ) → CanStand image w l →
    (h : IsStandingAt image w l.extent l.offset s) → s.uuid ≡ u → FindsFrame image w l u h.payload
finds image w l s u can h uuid = record {
  can = can;
  form = s.form;
  frame = rw (← uuid)
      (rw (← h.at_offset)
      (rw h.in_extent at h.frame.frame));
}

names_chunk : (image : Image) (w : ℕ) (l : Locator) (s : Standing) → CanStand image w l →
    IsStandingAt image w l.extent l.offset s → Agrees l s → NamesChunk image w l
names_chunk image w l s can h a = record {
  payload = h.payload;
  found = finds image w l s l.uuid can h a.uuid;
  length = sym h.frame.length ∙ a.length;
  digest = sym h.frame.digest ∙ a.digest;
}

-- a frame of another UUID or length gives the status of the first reason
pub other_frame : (image : Image) (w : ℕ) (l : Locator) (u b : List ℕ) (n : ℕ) (status : Status) → FindsFrame image w l u b →
    n ≡ length b → IsOther l u n status → HasStatus image w l status
other_frame image w l u b n WrongUuid f long other = (u, (b, f, other))
other_frame image w l u b n WrongLength f long other =
    (b, subst (λ (v : List ℕ). FindsFrame image w l v b) other.0 f, λ e. other.1 (long ∙ e))
other_frame image w l u b n WrongDigest f long other = absurd other
other_frame image w l u b n OutOfRange f long other = absurd other
other_frame image w l u b n Retired f long other = absurd other
other_frame image w l u b n PastPointer f long other = absurd other
other_frame image w l u b n Unreadable f long other = absurd other
other_frame image w l u b n NoFrame f long other = absurd other
other_frame image w l u b n Hidden f long other = absurd other
other_frame image w l u b n Sound f long other = absurd other

-- and so does a frame that isn't the named chunk
mismatched : (image : Image) (w : ℕ) (l : Locator) (s : Standing) (status : Status) → CanStand image w l →
    IsStandingAt image w l.extent l.offset s → IsMismatch l s status → HasStatus image w l status
mismatched image w l s status can h (inl other) =
    other_frame image w l s.uuid h.payload s.length status (finds image w l s s.uuid can h refl) h.frame.length other
mismatched image w l s status can h (inr m) =
    rw m.is
    (h.payload, finds image w l s l.uuid can h m.uuid, sym h.frame.length ∙ m.length, λ e. m.digest (h.frame.digest ∙ e))

-- what was found at the locator's place: the frame there, or that none is there
abbrev pub IsFoundThere : Image → ℕ → Locator → Option Standing → Type 0
IsFoundThere image w l found = IsFoundAt image w l.extent l.offset found

-- it decides the status, if the chunk that the locator names has the status that is given for it
judged_status : (image : Image) (w : ℕ) (l : Locator) (found : Option Standing) (agreeing status : Status) →
    CanStand image w l → IsFoundThere image w l found →
    (NamesChunk image w l → HasStatus image w l agreeing) → IsStatusByFrame l found agreeing status → HasStatus image w l status
judged_status image w l None agreeing status can none chunk judged = rw judged (can, none)
judged_status image w l (Some s) agreeing status can there chunk (inl mismatch) =
    mismatched image w l s status can there mismatch
judged_status image w l (Some s) agreeing status can there chunk (inr judged) =
    rw judged.1 (chunk (names_chunk image w l s can there judged.0))

-- an item that begins there says what is there
item_there : (image : Image) (w : ℕ) (l : Locator) (item : Item) → IsItem (extent_of image l.extent w) item →
    start_of item ≡ l.offset → IsFoundThere image w l (frame_of_item l.extent item)
item_there image w l (Chunk f start stop u n digest) h at =
    record { in_extent = refl; at_offset = at; payload = h.fits.0; frame = record { frame = h.fits.1; length = h.fits.3; digest = h.fits.4 } }
item_there image w l (Pad start stop) h at = rw at at h.fits.1
item_there image w l (Torn start stop) h at = rw at at h.fits.1
item_there image w l (Noise start stop) h at = rw at at h.fits.1
item_there image w l (Lost start stop) h at = rw at at h.fits.1

-- the i-th item begins at p
abbrev pub StartsAt : List Item → ℕ → ℕ → Type 0
StartsAt items p i = (i < length items) × (slice_index (map start_of items) i ≡ p)

-- and that is the one that was found
pub starts_at : (items : List Item) (p i : ℕ) (found : Option ℕ) → found ≡ Some i → IsIndexOf (map start_of items) p found →
    StartsAt items p i
starts_at items p i found is h =
    let at : (i < length (map start_of items)) × (slice_index (map start_of items) i ≡ p) = rw is at h in
    (rw (length-map items start_of) at at.0, at.1)

-- so the i-th item decides the status if it begins there
pub judged_by_item : (image : Image) (w : ℕ) (l : Locator) (items : List Item) (i : ℕ) (item : Item) (status : Status) →
    CanStand image w l → IsTiling (extent_of image l.extent w) items →
    StartsAt items l.offset i → item ≡ get_or items i item → IsStatusByFrame l (frame_of_item l.extent item) Sound status →
    HasStatus image w l status
judged_by_item image w l items i item status can tiled at is judged =
    let x = extent_of image l.extent w in
    let fits : IsItem x item = rw is (All-get_or (IsItem x) items i item at.0 tiled.each) in
    let start : start_of item ≡ l.offset = ap start_of is ∙ sym (get_or-map start_of items i item 0 at.0) ∙ at.1 in
    judged_status image w l (frame_of_item l.extent item) Sound status can (item_there image w l item fits start)
    (λ chunk. (chunk, begins x items i l.offset tiled at.0 at.1)) judged

-- and if none begins there, the place has to be read
pub none_begins : (image : Image) (w : ℕ) (l : Locator) (items : List Item) → IsTiling (extent_of image l.extent w) items →
    ¬ Contains (map start_of items) l.offset → IsStatusByItems image w l None
none_begins image w l items tiled apart b =
    apart (begins_among (extent_of image l.extent w) items l.offset (omega (arith, image.geometry.page_least)) tiled b)

-- by a plan, a status under the pointer of an extent in use
pub status_under : (image : Image) (plan : PlanValue) (w : ℕ) (l : Locator) (s : Status) → is_retired plan l.extent ≡ false →
    pointer_of plan l.extent ≡ Some w → HasStatus image w l s → HasStatusIn image plan l s
status_under image plan w l s in_use at h =
    rw in_use
    (rw at h)

-- what items decide under the pointer of an extent, by a plan
pub status_in_plan : (image : Image) (plan : PlanValue) (w : ℕ) (l : Locator) (known : Option Status) →
    is_retired plan l.extent ≡ false → pointer_of plan l.extent ≡ Some w → CanStand image w l →
    IsStatusByItems image w l known →
    IsStatusByFindings image plan l known
status_in_plan image plan w l None in_use at can h = record {
  in_use = in_use;
  pointer = w;
  is = at;
  can = can;
  apart = h;
}
status_in_plan image plan w l (Some s) in_use at can h = status_under image plan w l s in_use at h

-- the frame that was read decides the status of a locator that was left
pub judged_by_frame : (image : Image) (plan : PlanValue) (l : Locator) (found : Option Standing) (status : Status) →
    IsOpen image plan l → IsSeenAt image plan (record { extent = l.extent; offset = l.offset }) found →
    IsStatusByFrame l found Hidden status → HasStatusIn image plan l status
judged_by_frame image plan l found status left seen judged =
    status_under image plan left.pointer l status left.in_use left.is
    (judged_status image left.pointer l found Hidden status left.can (seen left.pointer left.is) (λ chunk. (chunk, left.apart)) judged)
