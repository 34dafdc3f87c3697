-- Whether a frame is loose, and whether an extent is crowded, rests on the bytes of that extent alone.
use Rattle.std.proofs.Common.{◌≡◌, ◌<◌, ◌*◌, ℕ, List, sym, subst}
use Rattle.std.specs.List.{Contains, sum}
use Rattle.scrub_disk.specs.declared.geometry.Geometry.{Geometry}
use Rattle.scrub_disk.specs.Image.{Image, extent_bytes}
use Rattle.scrub_super.specs.Plan.{PlanValue}
use Rattle.scrub_scan.specs.declared.standing.Standing.{Standing}
use Rattle.scrub_scan.specs.Extent.{Extent, FrameAt}
use Rattle.scrub_scan.specs.Standing.{Stands}
use Rattle.scrub_loose.specs.Anywhere.{AreClaimedLengths, IsCrowded, whole_extent}
use Rattle.scrub_loose.specs.Loose.{AreLoose, IsLooseFrame, IsSearched, LooseValue}
use Rattle.scrub_reclaim.proofs.SameExtents.{AreAlike, alike_back, same_extent}

-- ---- one extent

-- the whole extent is the same
same_whole : {image other : Image} {e : ℕ} → AreAlike image other e → whole_extent image e ≡ whole_extent other e
same_whole {image} {other} {e} a =
    subst (λ (g : Geometry). whole_extent image e ≡ extent_of_size g) (sym a.sizes) (same_extent (extent_bytes image.geometry) a)
  where
    extent_of_size : Geometry → Extent
    extent_of_size g = record { byte = (whole_extent other e).byte; page = (whole_extent other e).page; pointer = extent_bytes g }

-- A crowded extent is crowded on each disk on which it has the same bytes.
pub crowded_alike : {image other : Image} {e : ℕ} → AreAlike image other e → IsCrowded image e → IsCrowded other e
crowded_alike {image} {other} {e} a c = record {
  lengths = c.lengths;
  are =
      subst (λ (x : Extent). AreClaimedLengths x (extent_bytes other.geometry) c.lengths) (same_whole a)
      (subst (λ (g : Geometry). AreClaimedLengths (whole_extent image e) (extent_bytes g) c.lengths) (sym a.sizes) c.are);
  many = subst (λ (g : Geometry). 4 * extent_bytes g < sum c.lengths) (sym a.sizes) c.many;
}

-- A frame stands on each disk on which its extent has the same bytes.
pub stands_alike : {image other : Image} (s : Standing) → AreAlike image other s.extent → Stands image s → Stands other s
stands_alike {image} {other} s a h = record {
  payload = h.payload;
  has = record {
    in_disk = subst (λ (g : Geometry). s.extent < g.extents) (sym a.sizes) h.has.in_disk;
    frame = record {
      frame = subst (λ (x : Extent). FrameAt x s.offset s.form s.uuid h.payload) (same_whole a) h.has.frame.frame;
      length = h.has.frame.length;
      digest = h.has.frame.digest;
    };
  };
}

-- ---- the loose frames of two disks

module _ {image other : Image} (resets others : List ℕ) (old new : PlanValue) (s : Standing) (a : AreAlike image other s.extent) where
  -- a loose frame is one on a disk on which its extent has the same bytes, and is searched
  loose_alike : (IsSearched resets old s.extent → IsSearched others new s.extent) → IsLooseFrame resets image old s →
      IsLooseFrame others other new s
  loose_alike searched h = record {
    searched = searched h.searched;
    sparse = λ crowded. h.sparse (crowded_alike (alike_back a) crowded);
    stands = stands_alike s a h.stands;
  }

  -- So it is among the loose frames of that disk.
  pub carried_over : (v w : LooseValue) → AreLoose resets image old v → AreLoose others other new w →
      (IsSearched resets old s.extent → IsSearched others new s.extent) → Contains v.frames s → Contains w.frames s
  carried_over v w x y searched there = (y.frames s).1 (loose_alike searched ((x.frames s).0 there))
