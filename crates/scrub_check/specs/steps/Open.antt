-- What is at places of a disk that have to be read, since no item begins there; and what is claimed there.
use Rattle.std.specs.Prelude.{◌≡◌, ◌<◌, ◌≤◌, ◌+◌, ℕ, List, false, true, Option, Some, None, MatchOption, All, Contains, map, length, slice_index_or}
use Rattle.std.specs.List.{AllZip, AllAdjacentBelow}
use Rattle.std.specs.Borrow.{Bor}
use Rattle.std.specs.declared.vec.Vec.{Vec}
use Rattle.scrub_disk.specs.Image.{Image, extent_bytes}
use Rattle.scrub_frame.specs.declared.locator.Locator.{Locator}
use Rattle.scrub_super.specs.Plan.{PlanValue, pointer_of}
use Rattle.scrub_frame.specs.declared.frame.Head.{Head}
use Rattle.scrub_frame.specs.Frame.{frame_overhead}
use Rattle.scrub_scan.specs.declared.standing.Standing.{Standing}
use Rattle.scrub_scan.specs.Extent.{Extent, extent_of, NoFrameAt, HasGap}
use Rattle.scrub_scan.specs.Standing.{IsStandingAt, IsClaimedAt}
use Rattle.scrub_check.specs.declared.places.chunk_at.ChunkAt.{ChunkAt}
use Rattle.scrub_check.specs.declared.named.Named.{Named}
use Rattle.scrub_check.specs.declared.statuses.by_place.OpenLocator.{OpenLocator}
use Rattle.scrub_check.specs.declared.statuses.open_place.OpenPlace.{OpenPlace}
use Rattle.scrub_check.specs.declared.statuses.status.Status.{Status}
use Rattle.scrub_check.specs.steps.Places.{place_named_by}
use Rattle.scrub_check.specs.Status.{CanStand, BeginsAt, HasStatus, HasStatusIn, is_retired}

-- a place that can be read: in an extent of the disk that is in use
pub record CanBeRead (image : Image) (plan : PlanValue) (s : ChunkAt) : Type 0 where
  pub geometry : plan.geometry ≡ image.geometry
  pub from_one : 1 ≤ s.extent
  pub in_disk : s.extent < image.geometry.extents
  pub in_extent : s.offset ≤ extent_bytes image.geometry
  pub in_use : is_retired plan s.extent ≡ false

-- what was found at p of extent e: the frame there, or that no frame is there
abbrev pub IsFoundAt : Image → ℕ → ℕ → ℕ → Option Standing → Type 0
IsFoundAt image w e p found = MatchOption found (NoFrameAt (extent_of image e w) p) (IsStandingAt image w e p)

-- what was found at a place under the plan's write pointer: the frame there, or that no frame is there
abbrev pub IsSeenAt : Image → PlanValue → ChunkAt → Option Standing → Type 0
IsSeenAt image plan s found = (w : ℕ) → pointer_of plan s.extent ≡ Some w → IsFoundAt image w s.extent s.offset found

-- the frame that a locator names would be in an extent in use, on readable pages, and no item begins at its place
pub record IsOpen (image : Image) (plan : PlanValue) (l : Locator) : Type 0 where
  pub in_use : is_retired plan l.extent ≡ false
  pub pointer : ℕ
  pub is : pointer_of plan l.extent ≡ Some pointer
  pub can : CanStand image pointer l
  pub apart : ¬ BeginsAt (extent_of image l.extent pointer) l.offset

-- what items say of a locator whose frame would be on readable pages: its status, or that no item begins at its place
abbrev pub IsStatusByItems : Image → ℕ → Locator → Option Status → Type 0
IsStatusByItems image w l known = MatchOption known (¬ BeginsAt (extent_of image l.extent w) l.offset) (HasStatus image w l)

-- what the findings say of a locator: its status, or that its place has to be read
abbrev pub IsStatusByFindings : Image → PlanValue → Locator → Option Status → Type 0
IsStatusByFindings image plan l known = MatchOption known (IsOpen image plan l) (HasStatusIn image plan l)

-- what is known of a named locator before its place is read
abbrev pub IsKnownBefore : Image → PlanValue → Named → Option Status → Type 0
IsKnownBefore image plan name known = IsStatusByFindings image plan name.locator known

-- what is known of each of these named locators
abbrev pub AreKnownBefore : Image → PlanValue → List Named → List (Option Status) → Type 0
AreKnownBefore image plan names known = AllZip (IsKnownBefore image plan) names known

-- a frame is claimed at p, and all its bytes can be read
pub record IsReadableClaim (x : Extent) (p : ℕ) (h : Head) : Type 0 where
  pub claimed : IsClaimedAt x p h
  pub readable : ¬ HasGap x.byte p (h.length + frame_overhead h.form)

-- what is claimed at a place under the plan's pointer: a frame whose bytes can all be read, or none, and then no frame
-- is there
abbrev pub IsClaimSeen : Image → PlanValue → ChunkAt → Option Head → Type 0
IsClaimSeen image plan s found = (w : ℕ) → pointer_of plan s.extent ≡ Some w → MatchOption found (NoFrameAt (extent_of image s.extent w) s.offset) (IsReadableClaim (extent_of image s.extent w) s.offset)

-- what was read at a place: what is claimed there, and the frame there, once its payload was hashed
pub record IsReadPlace (image : Image) (plan : PlanValue) (p : OpenPlace) : Type 0 where
  pub claimed : IsClaimSeen image plan p.place p.claimed
  pub frame : p.is_hashed ≡ true → IsSeenAt image plan p.place p.frame

-- the index of a named locator that is open, and its place
pub record IsOpenAt (image : Image) (plan : PlanValue) (named : List Named) (o : OpenLocator) : Type 0 where
  pub below : o.index < length named
  pub left : (d : Named) → IsOpen image plan (slice_index_or named o.index d).locator
  pub place : (d : Named) → o.place ≡ place_named_by (slice_index_or named o.index d).locator

-- each of these is the index of an open locator
abbrev pub AreOpen : Image → PlanValue → List Named → List OpenLocator → Type 0
AreOpen image plan named left = All (IsOpenAt image plan named) left

-- all of these have one place: each has that of the next one
abbrev pub HaveOnePlace : List OpenLocator → Type 0
HaveOnePlace left = AllAdjacentBelow (λ one next. one.place ≡ next.place) left (length left)

-- the index of each status that isn't known is among these
abbrev pub HasEachUnknown : List (Option Status) → List OpenLocator → Type 0
HasEachUnknown known left = (i : ℕ) → i < length known → slice_index_or known i None ≡ None → Contains (map (λ one. one.index) left) i

-- the status of the named locator at an index
abbrev pub IsJudged : Image → PlanValue → List Named → OpenLocator → Status → Type 0
IsJudged image plan named one status = (d : Named) → HasStatusIn image plan (slice_index_or named one.index d).locator status

-- the status of each of these, in their order
abbrev pub AreJudged : Image → PlanValue → List Named → List OpenLocator → List Status → Type 0
AreJudged image plan named left judged = AllZip (IsJudged image plan named) left judged

-- so are those of each place
abbrev pub AreJudgedByPlace : {Z : Type 0} → Image → PlanValue → List Named → List (Bor (List OpenLocator)) → List (Vec Status Z) → Type 0
AreJudgedByPlace image plan named places judged = AllZip (λ left v. AreJudged image plan named left.now v.items) places judged
