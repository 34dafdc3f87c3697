-- What the commands `scan`, `index`, `locators`, `runs`, `summary` and `reclaimable` answer for an image file, and why they don't.
use Rattle.std.specs.Prelude.{◌≡◌, ℕ, List, Bool, true, false, Option}
use Rattle.scrub_disk.specs.declared.geometry.Geometry.{Geometry as Sizes}
use Rattle.scrub_disk.specs.Image.{Image}
use Rattle.scrub_disk.specs.Raw.{every_extent}
use Rattle.scrub_pool.specs.Takings.{TakingsValue}
use Rattle.scrub_report.specs.Answer.{AnswerValue, IsScrubAnswer}
use Rattle.scrub_found.specs.Takings.{AreTakingsBy}
use Rattle.scrub_listings.specs.FoundRuns.{IsRunsListing}
use Rattle.scrub_listings.specs.Locators.{IsLocatorListing}
use Rattle.scrub_listings.specs.Summary.{IsSummary}
use Rattle.scrub_reclaim.specs.Doubts.{Acceptance}
use Rattle.scrub_reclaim.specs.Reclaimable.{AreReclaimLines}
use Rattle.scrub_args.specs.declared.args.ScanOutput.{ScanOutput}
use Rattle.scrub_args.specs.declared.args.ScanOutput.TheVariants.{Report, Index, Locators, Runs, Summary, Reclaimable}
use Rattle.scrub_cli.specs.declared.process.fault.Fault.{Fault}
use Rattle.scrub_cli.specs.declared.process.outcome.Outcome.{Outcome}
use Rattle.scrub_args.specs.declared.args.ImageArgs.{ImageArgs}
use Rattle.scrub_args.specs.declared.args.ScanArgs.{ScanArgs}
use Rattle.scrub_cli.specs.DiskImage.{IsLoadedDiskIn, IsDiskFault}
use Rattle.scrub_cli.specs.KnownFiles.{KnownMaps, KnownRaw}
use Rattle.scrub_cli.specs.DiskGeometry.{IsGeometryOf, IsSizedFault}
use Rattle.scrub_cli.specs.Outcome.{outcome_of}

-- the lines of doubts that are accepted, and the generation of the last superblock, if it is given
abbrev pub acceptance : List (List ℕ) → Option ℕ → Acceptance
acceptance lines last = record { lines = lines; last = last }

-- the text is what is wanted of the image, with the outcome: its report or its index, and whether it is clean; the lines of its
-- named locators; those of the index runs that are found, and whether each page can be read; its summary; or the lines of what may
-- be reclaimed
abbrev pub IsDiskAnswer : ScanOutput → Image → List ℕ → Outcome → Type 0
IsDiskAnswer Report image text outcome =
    (a : AnswerValue) × IsScrubAnswer image a × (text ≡ a.report) × (outcome ≡ outcome_of a.is_clean)
IsDiskAnswer Index image text outcome =
    (a : AnswerValue) × IsScrubAnswer image a × (text ≡ a.index) × (outcome ≡ outcome_of a.is_clean)
IsDiskAnswer Locators image text outcome = (clean : Bool) × IsLocatorListing image text clean × (outcome ≡ outcome_of clean)
IsDiskAnswer Runs image text outcome = (clean : Bool) × IsRunsListing image text clean × (outcome ≡ outcome_of clean)
IsDiskAnswer (Summary last) image text outcome = (sound : Bool) × IsSummary last image text sound × (outcome ≡ outcome_of sound)
IsDiskAnswer (Reclaimable lines last) image text outcome =
    (clear : Bool) × AreReclaimLines image (acceptance lines last) text clear × (outcome ≡ outcome_of clear)

-- whether workers scan the disk for what is wanted: index runs are found without a scan
abbrev pub is_scanned : ScanOutput → Bool
is_scanned Runs = false
is_scanned wanted = true

-- an image of the sizes that are given or found, whose wanted extents were loaded from this raw image
pub record IsDiskIn (wanted : ℕ → Type 0) (known : KnownRaw) (maps : KnownMaps) (args : ImageArgs) (image : Image) : Type 0 where
  pub geometry : Sizes
  pub sizes : IsGeometryOf known maps args geometry
  pub loaded : IsLoadedDiskIn wanted known maps args geometry image

-- an image that was loaded so, with all its extents
abbrev pub IsDiskOf : KnownRaw → KnownMaps → ImageArgs → Image → Type 0
IsDiskOf = IsDiskIn every_extent

-- the text is what is wanted of this image, which was loaded so, with its outcome
pub record IsScanOf (wanted : ScanOutput) (known : KnownRaw) (maps : KnownMaps) (args : ImageArgs) (text : List ℕ)
    (outcome : Outcome) (image : Image) : Type 0 where
  pub disk : IsDiskOf known maps args image
  pub answered : IsDiskAnswer wanted image text outcome

-- it is that of some such image
abbrev pub IsScanAnswer : ScanOutput → KnownRaw → KnownMaps → ImageArgs → List ℕ → Outcome → Type 0
IsScanAnswer wanted known maps args text outcome = (image : Image) × IsScanOf wanted known maps args text outcome image

-- it is, and this is what the workers that were asked for took of it
abbrev pub AreTakingsOf : ScanOutput → KnownRaw → KnownMaps → ScanArgs → List ℕ → Outcome → TakingsValue → Type 0
AreTakingsOf wanted known maps args text outcome takings =
    (image : Image) × IsScanOf wanted known maps args.image text outcome image × AreTakingsBy image args.workers takings

-- why there is no answer: each fault only if none before it applies, or memory ran out, anywhere
abbrev pub IsScanFault : KnownRaw → KnownMaps → ImageArgs → Fault → Type 0
IsScanFault known maps args fault = IsSizedFault known maps args (IsDiskFault known maps args) fault
