-- What builders put on disks.
use Rattle.std.specs.Prelude.{◌≡◌, ◌*◌, ℕ, List, length}
use Rattle.sha2.specs.Sha256.{sha256}
use Rattle.scrub_disk.specs.Image.{Image}
use Rattle.scrub_disk.specs.Faults.{HasSizes}
use Rattle.scrub_disk.specs.Memory.{IsBlank, Puts}
use Rattle.scrub_frame.specs.declared.locator.Locator.{Locator}
use Rattle.scrub_super.specs.Contents.{Contents}
use Rattle.scrub_super.specs.Record.{record_bytes}
use Rattle.scrub_super.specs.Chosen.{Choice, IsChoice}
use Rattle.scrub_super.specs.Plan.{PlanValue, plan_of}

-- a blank disk of three extents, each of four pages of 64 bytes
pub record IsSmall (image : Image) : Type 0 where
  pub sizes : HasSizes image.geometry 64 4 3
  pub blank : IsBlank image image.geometry

-- the locator of the frame of a UUID and a payload at a place
pub record IsLocatorOf (extent offset : ℕ) (uuid payload : List ℕ) (l : Locator) : Type 0 where
  pub extent_is : l.extent ≡ extent
  pub offset_is : l.offset ≡ offset
  pub length_is : l.length ≡ length payload
  pub uuid_is : l.uuid ≡ uuid
  pub digest : l.digest ≡ sha256 payload

-- the record of these contents is put on a page of extent 0, and has this many bytes
pub record PutsRecord (old new : Image) (page : ℕ) (c : Contents) (size : ℕ) : Type 0 where
  pub put : Puts old new 0 (page * old.geometry.page) (record_bytes old.geometry c)
  pub size_is : size ≡ length (record_bytes old.geometry c)

-- the plan of a disk, by the superblock that counts there
pub record IsPlanOfDisk (image : Image) (plan : PlanValue) : Type 0 where
  pub choice : Choice
  pub chosen : IsChoice image choice
  pub by : plan ≡ plan_of choice
