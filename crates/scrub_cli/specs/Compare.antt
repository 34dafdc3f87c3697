-- What the command `compare` answers for two image files, and why it doesn't.
use Rattle.std.specs.Prelude.{◌≡◌, ◌⊎◌, ℕ, List, Bool, Option}
use Rattle.scrub_disk.specs.declared.geometry.Geometry.{Geometry as Sizes}
use Rattle.scrub_disk.specs.Image.{Image}
use Rattle.scrub_map.specs.declared.block.MapBlock.{MapBlock}
use Rattle.scrub_pool.specs.Takings.{TakingsValue}
use Rattle.scrub_found.specs.Takings.{AreTakingsBy}
use Rattle.scrub_compare.specs.Compare.{IsComparison}
use Rattle.scrub_args.specs.declared.args.CompareArgs.{CompareArgs}
use Rattle.scrub_args.specs.declared.args.ImageArgs.{ImageArgs}
use Rattle.scrub_args.specs.declared.args.ManifestArgs.{ManifestArgs}
use Rattle.scrub_cli.specs.declared.process.fault.Fault.{Fault}
use Rattle.scrub_cli.specs.declared.process.outcome.Outcome.{Outcome}
use Rattle.scrub_cli.specs.DiskImage.{IsLoadedBy, IsRawFault, NamePages}
use Rattle.scrub_cli.specs.KnownFiles.{KnownMaps, KnownRaw}
use Rattle.scrub_cli.specs.Manifest.{IsManifestFault, MayBeReset}
use Rattle.scrub_cli.specs.Opened.{IsUnopened}
use Rattle.scrub_cli.specs.Outcome.{outcome_of}
use Rattle.scrub_cli.specs.Rescue.{AreBlocksOf}

-- the pages that the arguments name as unreadable, and the blocks of the map that is named
pub record AreLosses (maps : KnownMaps) (args : ImageArgs) (g : Sizes) (pages : List (ℕ × ℕ)) (blocks : Option (List MapBlock)) : Type 0 where
  pub named : NamePages g args.bad_pages.items pages
  pub mapped : AreBlocksOf maps args.map blocks

-- an image of a disk of these sizes in which these extents can be reset, loaded from this raw image without what is lost
pub record IsEarlierImage (known : KnownRaw) (maps : KnownMaps) (args : ManifestArgs) (g : Sizes) (image : Image) : Type 0 where
  pub places : MayBeReset known maps args g
  pub pages : List (ℕ × ℕ)
  pub blocks : Option (List MapBlock)
  pub losses : AreLosses maps args.scan.image g pages blocks
  pub loaded : IsLoadedBy known g pages blocks image

-- two images of a disk: such a one, and one from the later raw image, with the same pages lost
pub record AreImagesOf (known : List ℕ → KnownRaw) (maps : KnownMaps) (args : CompareArgs) (before after : Image) : Type 0 where
  pub geometry : Sizes
  pub earlier : IsEarlierImage (known args.before.scan.image.name.now) maps args.before geometry before
  pub later : IsLoadedBy (known args.after.now) geometry earlier.pages earlier.blocks after

-- the text is the comparison of two images, and the outcome says whether it is safe
pub record IsCompared (resets : List ℕ) (before after : Image) (text : List ℕ) (outcome : Outcome) : Type 0 where
  pub safe : Bool
  pub comparison : IsComparison resets before after text safe
  pub ended : outcome ≡ outcome_of safe

-- the text is the comparison of these two images, which were loaded so, with its outcome
pub record IsComparisonFor (known : List ℕ → KnownRaw) (maps : KnownMaps) (args : CompareArgs) (text : List ℕ) (outcome : Outcome)
    (before after : Image) : Type 0 where
  pub images : AreImagesOf known maps args before after
  pub compared : IsCompared args.before.resets.items before after text outcome

-- the answer of `compare`: that of two such images
abbrev pub IsCompareAnswer : (List ℕ → KnownRaw) → KnownMaps → CompareArgs → List ℕ → Outcome → Type 0
IsCompareAnswer known maps args text outcome = (before : Image) × (after : Image) × IsComparisonFor known maps args text outcome before after

-- that answer, and what the workers that were asked for took of each image
abbrev pub AreCompareTakings : (List ℕ → KnownRaw) → KnownMaps → CompareArgs → List ℕ → Outcome → TakingsValue → TakingsValue → Type 0
AreCompareTakings known maps args text outcome taken taken_after =
    (before : Image) × (after : Image) × IsComparisonFor known maps args text outcome before after
    × AreTakingsBy before args.before.scan.workers taken × AreTakingsBy after args.before.scan.workers taken_after

-- why there is no comparison: a fault of `manifest` on the earlier image; or, if that was loaded, the later one can't be opened, or
-- isn't loaded
abbrev pub IsCompareFault : (List ℕ → KnownRaw) → KnownMaps → CompareArgs → Fault → Type 0
IsCompareFault known maps args fault =
    IsManifestFault (known args.before.scan.image.name.now) maps args.before fault
    ⊎ ((g : Sizes) × (image : Image) × IsEarlierImage (known args.before.scan.image.name.now) maps args.before g image
    × (IsUnopened (known args.after.now) args.after fault ⊎ IsRawFault (known args.after.now) g fault))
