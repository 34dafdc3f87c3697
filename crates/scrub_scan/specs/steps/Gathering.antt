-- Chunks whose payloads are in a batch: their digests are put in once it is hashed, and compared with their seals.
use Rattle.std.specs.Prelude.{◌≡◌, ◌<◌, ◌≤◌, ◌+◌, ◌*◌, ◌/◌, ◌++◌, ◌∷◌, [], ℕ, zero, suc, List, All, Bool, true, false, length, map, ⊤, Option, Some, None, MatchOption, IfSome}
use Rattle.std.specs.List.{AllZip}
use Rattle.sha2.specs.Sha256.{sha256}
use Rattle.sha_lanes.specs.declared.batch.Batch.{Batch}
use Rattle.sha_lanes.specs.Gathered.{Gathers}
use Rattle.scrub_disk.specs.Image.{Image}
use Rattle.scrub_frame.specs.declared.form.Form.{Form}
use Rattle.scrub_frame.specs.declared.form.Form.TheVariants.{Plain, Sealed}
use Rattle.scrub_frame.specs.declared.frame.Head.{Head}
use Rattle.scrub_scan.specs.declared.item.Item.{Item}
use Rattle.scrub_scan.specs.declared.item.Item.TheVariants.{Chunk, Pad, Torn, Noise, Lost}
use Rattle.scrub_scan.specs.declared.collected.Collected.{Collected}
use Rattle.scrub_scan.specs.declared.pages.Target.{Target}
use Rattle.scrub_scan.specs.declared.payloads.Payloads.{Payloads}
use Rattle.scrub_scan.specs.declared.pages.TwoPages.{TwoPages}
use Rattle.scrub_scan.specs.declared.scanner.ScannedFrame.{ScannedFrame}
use Rattle.scrub_scan.specs.declared.scanner.ScannedItem.{ScannedItem}
use Rattle.scrub_scan.specs.Extent.{Extent, FrameAt}
use Rattle.scrub_scan.specs.Item.{IsItem, start_of, stop_of}
use Rattle.scrub_scan.specs.steps.Pages.{IsFound, AskedBy, HasRead}
use Rattle.scrub_scan.specs.Tiling.{Joins}

-- the item with this digest, if it is a chunk
abbrev pub with_digest : Item → List ℕ → Item
with_digest (Chunk form start stop uuid n old) digest = Chunk form start stop uuid n digest
with_digest (Pad start stop) digest = Pad start stop
with_digest (Torn start stop) digest = Torn start stop
with_digest (Noise start stop) digest = Noise start stop
with_digest (Lost start stop) digest = Lost start stop

-- the seal of a frame of a form, if this is its digest: none in a plain frame
abbrev pub seal_in : Form → List ℕ → Option (List ℕ)
seal_in Plain digest = None
seal_in Sealed digest = Some digest

-- the seal of an item: the digest of a sealed chunk, or None
abbrev pub seal_of : Item → Option (List ℕ)
seal_of (Chunk form start stop uuid n digest) = seal_in form digest
seal_of (Pad start stop) = None
seal_of (Torn start stop) = None
seal_of (Noise start stop) = None
seal_of (Lost start stop) = None

-- the item has no seal, or its seal is this digest
abbrev pub AgreesWith : Item → List ℕ → Type 0
AgreesWith item digest = seal_of (with_digest item digest) ≡ seal_of item

-- what a batch has after a frame: one more payload, whose digest this is; or the messages that it had, and the digest was
-- known
abbrev pub IsAdded : Bool → Type 0 → List ℕ → List (List ℕ) → Batch → Type 0
IsAdded true known digest messages batch = (payload : List ℕ) × (digest ≡ sha256 payload) × Gathers batch (messages ++ payload ∷ []) []
IsAdded false known digest messages batch = known × Gathers batch messages []

-- the batch has one more payload, of the length that a head at p claims: that of a frame there, if the frame has no seal or
-- this one is its digest
pub record IsGathered (x : Extent) (p : ℕ) (h : Head) (seal : List ℕ) (messages : List (List ℕ)) (batch : Batch) : Type 0 where
  pub payload : List ℕ
  pub size : h.length ≡ length payload
  pub frame : seal_in h.form (sha256 payload) ≡ seal_in h.form seal → FrameAt x p h.form h.uuid payload
  pub gathers : Gathers batch (messages ++ payload ∷ []) []

-- the digest of what was met, and that its frame is at p if its seal is that digest, as it is where seals aren't trusted
pub record IsScannedFrame (x : Extent) (p : ℕ) (trusts : Bool) (m : ScannedFrame) (messages : List (List ℕ)) (batch : Batch) : Type 0 where
  pub digest : List ℕ
  pub found : seal_in m.found.form digest ≡ seal_in m.found.form m.found.digest →
      IsFound x p (record { form = m.found.form; uuid = m.found.uuid; length = m.found.length; digest = digest })
  pub compared : trusts ≡ false → seal_in m.found.form digest ≡ seal_in m.found.form m.found.digest
  pub added : IsAdded m.is_gathered (digest ≡ m.found.digest) digest messages batch

-- the digest of the item that was reached, and that the item with it is one of the extent if it agrees with the item's seal,
-- as it does where seals aren't trusted
pub record IsScannedItem (x : Extent) (trusts : Bool) (r : ScannedItem) (messages : List (List ℕ)) (batch : Batch) : Type 0 where
  pub digest : List ℕ
  pub item : AgreesWith r.item digest → IsItem x (with_digest r.item digest)
  pub compared : trusts ≡ false → AgreesWith r.item digest
  pub added : IsAdded r.is_gathered (with_digest r.item digest ≡ r.item) digest messages batch

-- an item with a digest in the place of another one
abbrev pub settled_one : List Item → ℕ → List ℕ → List Item
settled_one [] i digest = []
settled_one (item ∷ items) zero digest = with_digest item digest ∷ items
settled_one (item ∷ items) (suc i) digest = item ∷ settled_one items i digest

-- the items of these numbers with the digests of these payloads
abbrev pub settled : List Item → List ℕ → List (List ℕ) → List Item
settled items [] payloads = items
settled items (i ∷ pending) [] = items
settled items (i ∷ pending) (payload ∷ payloads) = settled (settled_one items i (sha256 payload)) pending payloads

-- the numbers rise, from `low` on and below `high`
abbrev pub RiseWithin : ℕ → ℕ → List ℕ → Type 0
RiseWithin low high [] = ⊤
RiseWithin low high (i ∷ numbers) = (low ≤ i) × (i < high) × RiseWithin (suc i) high numbers

-- place p isn't below the one from which seals were trusted, and there is such a one
abbrev pub IsTrustedAt : Option ℕ → ℕ → Type 0
IsTrustedAt from p = MatchOption from ⊥ (λ first. first ≤ p)

-- an item, and the same one with its digest: this is one of the extent if it agrees with the item's seal, and it does where
-- seals weren't trusted
pub record IsItemIfSealed (x : Extent) (from : Option ℕ) (item done : Item) : Type 0 where
  pub place : start_of done ≡ start_of item
  pub rises : start_of done ≤ stop_of done
  pub right : seal_of done ≡ seal_of item → IsItem x done
  pub trusted : ¬ (seal_of done ≡ seal_of item) → IsTrustedAt from (start_of item)

-- the items, with the digests of these payloads put into those of these numbers, join from 0 to a place, and each is the one
-- at its start if the digest agrees with its seal
pub record TilesIfSealed (x : Extent) (place : ℕ) (from : Option ℕ) (items : List Item) (pending : List ℕ) (payloads : List (List ℕ)) : Type 0 where
  pub numbers : RiseWithin 0 (length items) pending
  pub count : length pending ≡ length payloads
  pub joined : Joins 0 place (settled items pending payloads)
  pub each : AllZip (IsItemIfSealed x from) items (settled items pending payloads)
  pub within : place ≤ x.pointer

-- the items tile the extent up to a place at or before the pointer
pub record TiledTo (x : Extent) (place : ℕ) (items : List Item) : Type 0 where
  pub joined : Joins 0 place items
  pub each : All (IsItem x) items
  pub within : place ≤ x.pointer

-- these payloads were added, and the first of them were hashed
pub record Has (p : Payloads) (all : List (List ℕ)) : Type 0 where
  pub hashed : List (List ℕ)
  pub rest : List (List ℕ)
  pub all_are : all ≡ hashed ++ rest
  pub digests : p.digests.items ≡ map sha256 hashed
  pub gathers : Gathers p.batch rest []

-- payloads before and after some more may have been added
abbrev pub Grows : Payloads → Payloads → Type 0
Grows old new = (all : List (List ℕ)) → Has old all → (more : List (List ℕ)) × Has new (all ++ more)

-- what was collected tiles the extent up to a place, if the digests of the last payloads agree with the items' seals
pub record IsCollected (x : Extent) (place : ℕ) (p : Payloads) (c : Collected) : Type 0 where
  pub before : List (List ℕ)
  pub payloads : List (List ℕ)
  pub has : Has p (before ++ payloads)
  pub first : c.first ≡ length before
  pub tiles : TilesIfSealed x place c.trusted_from c.items.items c.pending.items payloads
  pub trusted : IfSome c.trusted_from (λ first. first ≤ place)

-- the same, but other payloads may have been added after them
pub record IsLeft (x : Extent) (place : ℕ) (p : Payloads) (c : Collected) : Type 0 where
  pub before : List (List ℕ)
  pub payloads : List (List ℕ)
  pub after : List (List ℕ)
  pub has : Has p (before ++ (payloads ++ after))
  pub first : c.first ≡ length before
  pub tiles : TilesIfSealed x place c.trusted_from c.items.items c.pending.items payloads

-- what was collected tiles the extent up to a place, and nothing is left to be put in or compared
pub record IsSettled (x : Extent) (place : ℕ) (p : Payloads) (c : Collected) : Type 0 where
  pub tiled : TiledTo x place c.items.items
  pub none : c.pending.items ≡ []
  pub before : List (List ℕ)
  pub has : Has p before
  pub first : c.first ≡ length before
  pub untrusted : c.trusted_from ≡ None

-- a place up to which items tile the extent still, once digests were compared: the one that the tiling had come to, or one
-- before it where seals were trusted
abbrev pub IsRightTo : ℕ → Option ℕ → ℕ → Type 0
IsRightTo place from right = (right ≤ place) × (right < place → IsTrustedAt from right)

-- every page below a place was read, in so few calls that the tiling can go on from there
pub record HasReadTo (image : Image) (t : Target) (p : TwoPages) (place : ℕ) : Type 0 where
  pub asked : p.asked ≤ image.geometry.pages * (image.geometry.pages + 5)
  pub read : HasRead p (place / t.page)
  pub next : place < t.pointer → AskedBy p (place / t.page) (place / t.page * (image.geometry.pages + 5))

-- even after one more item the tiling could go back to where seals were first trusted, and not ask for more pages than it may
abbrev pub CanReturn : Image → Target → ℕ → Option ℕ → Type 0
CanReturn image t asked from =
    IfSome from (λ first. asked + 4 + image.geometry.pages ≤ first / t.page * (image.geometry.pages + 5))
