-- The index runs of a disk, each with the places in extent 0 at which the bytes of its locator are, as in a superblock that
-- lists it.
use Rattle.std.specs.Prelude.{◌↔◌, ℕ, List, All, Contains, map}
use Rattle.std.specs.List.Sorted.{IsStrictlyIncreasing}
use Rattle.scrub_disk.specs.Image.{AreBytesAt, Image, image_byte}
use Rattle.scrub_frame.specs.declared.locator.Locator.{Locator}
use Rattle.scrub_frame.specs.Locator.{locator_bytes}
use Rattle.scrub_loose.specs.declared.outer.FoundRun.{FoundRun}
use Rattle.scrub_loose.specs.Outer.{AreFoundRuns, locator_of}

-- the offsets of extent 0 at which the sixty bytes of a locator are, all of them readable: all of these and no other,
-- ascending
pub record AreLocatorPlaces (image : Image) (l : Locator) (places : List ℕ) : Type 0 where
  pub rise : IsStrictlyIncreasing places
  pub each : (p : ℕ) → Contains places p ↔ AreBytesAt (image_byte image 0) p (locator_bytes l)

-- a found run, and places of its locator
pub record ListedValue : Type 0 where
  pub run : FoundRun
  pub places : List ℕ

-- the found runs of a disk, each with all places of its locator
pub record AreListedRuns (image : Image) (listed : List ListedValue) : Type 0 where
  pub found : AreFoundRuns image (map (λ v. v.run) listed)
  pub places : All (λ v. AreLocatorPlaces image (locator_of v.run.frame) v.places) listed
