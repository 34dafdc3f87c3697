-- What the command `manifest` answers for an image file, and why it doesn't.
use Rattle.std.specs.Prelude.{◌≡◌, ◌⊎◌, ◌&&◌, ℕ, List, Bool, false, true, Option, nat_lt}
use Rattle.std.specs.List.{list_all}
use Rattle.scrub_disk.specs.declared.geometry.Geometry.{Geometry as Sizes}
use Rattle.scrub_disk.specs.Image.{Image}
use Rattle.scrub_frame.specs.declared.locator.Locator.{Locator}
use Rattle.scrub_pool.specs.Takings.{TakingsValue}
use Rattle.scrub_found.specs.GivenRuns.{AreTakingsFrom}
use Rattle.scrub_listings.specs.declared.remarks.SuperblockRemark.{SuperblockRemark}
use Rattle.scrub_listings.specs.Manifest.{IsRemarkedManifest}
use Rattle.scrub_cli.specs.declared.process.fault.Fault.{Fault}
use Rattle.scrub_cli.specs.declared.process.fault.Fault.TheVariants.{Extent}
use Rattle.scrub_cli.specs.declared.process.outcome.Outcome.{Outcome}
use Rattle.scrub_args.specs.declared.args.ManifestArgs.{ManifestArgs}
use Rattle.scrub_cli.specs.DiskGeometry.{IsGeometryOf, IsSizedFault}
use Rattle.scrub_cli.specs.GivenRuns.{IsLoadedWithRuns, IsRunsFault}
use Rattle.scrub_cli.specs.KnownFiles.{KnownMaps, KnownRaw}
use Rattle.scrub_cli.specs.Outcome.{IsWarnedOutcome}
use Rattle.scrub_cli.specs.Remarks.{superblock_remark_lines}

-- the manifest of an image by the index runs that are given, or else by the superblock that counts, as if these extents had been
-- reset; the outcome says whether it is clean, and has the lines of what is said of the superblocks. The arguments give runs or
-- extents, never both
pub record IsManifestListed (given : Option (List Locator)) (resets : List ℕ) (image : Image) (text : List ℕ) (outcome : Outcome) : Type 0 where
  pub remarks : List SuperblockRemark
  pub clean : Bool
  pub manifest : IsRemarkedManifest given resets image text remarks clean
  pub ended : IsWarnedOutcome clean (superblock_remark_lines remarks) outcome

-- an extent that can be reset: any but extent 0, which has the superblocks
abbrev pub may_be_reset : Sizes → ℕ → Bool
may_be_reset g extent = nat_lt 0 extent && nat_lt extent g.extents

-- each of these extents of a disk of these sizes can be reset
abbrev pub may_all_be_reset : Sizes → List ℕ → Bool
may_all_be_reset g extents = list_all (may_be_reset g) extents

-- the disk has these sizes, and the extents to be taken as reset can be
pub record MayBeReset (known : KnownRaw) (maps : KnownMaps) (args : ManifestArgs) (g : Sizes) : Type 0 where
  pub sizes : IsGeometryOf known maps args.scan.image g
  pub in_disk : may_all_be_reset g args.resets.items ≡ true

-- an image in which these extents can be reset, loaded from this raw image, and what is given by arguments for index runs
pub record IsManifestDisk (known : KnownRaw) (maps : KnownMaps) (args : ManifestArgs) (image : Image) (given : Option (List Locator)) : Type 0 where
  pub geometry : Sizes
  pub places : MayBeReset known maps args geometry
  pub loaded : IsLoadedWithRuns known maps args.scan.image args.runs.items geometry image given

-- the text is the manifest of this image, which was loaded so, by the index runs that are given, or as if these extents had been
-- reset, with its outcome
pub record IsManifestFor (known : KnownRaw) (maps : KnownMaps) (args : ManifestArgs) (text : List ℕ) (outcome : Outcome) (image : Image)
    (given : Option (List Locator)) : Type 0 where
  pub disk : IsManifestDisk known maps args image given
  pub listed : IsManifestListed given args.resets.items image text outcome

-- the answer of `manifest`: that of some such image
abbrev pub IsManifestAnswer : KnownRaw → KnownMaps → ManifestArgs → List ℕ → Outcome → Type 0
IsManifestAnswer known maps args text outcome =
    (image : Image) × (given : Option (List Locator)) × IsManifestFor known maps args text outcome image given

-- that answer, and what the workers that were asked for took of the image
abbrev pub AreManifestTakings : KnownRaw → KnownMaps → ManifestArgs → List ℕ → Outcome → TakingsValue → Type 0
AreManifestTakings known maps args text outcome takings =
    (image : Image) × (given : Option (List Locator)) × IsManifestFor known maps args text outcome image given
    × AreTakingsFrom given image args.scan.workers takings

-- one of these extents of a disk of these sizes can't be reset
abbrev pub IsResetFault : List ℕ → Sizes → Fault → Type 0
IsResetFault extents g Extent = may_all_be_reset g extents ≡ false
IsResetFault extents g fault = ⊥

-- why there is no manifest: each fault only if none before it applies, or memory ran out, anywhere
abbrev pub IsManifestFault : KnownRaw → KnownMaps → ManifestArgs → Fault → Type 0
IsManifestFault known maps args fault =
    IsSizedFault known maps args.scan.image
    (λ g why. IsResetFault args.resets.items g why
    ⊎ (MayBeReset known maps args g × IsRunsFault known maps args.scan.image args.runs.items g why)) fault
