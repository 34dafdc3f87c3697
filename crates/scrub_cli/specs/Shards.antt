-- What the command `shards` answers for an image file, and why it doesn't.
use Rattle.std.specs.Prelude.{ℕ, Bool, List, Option}
use Rattle.scrub_disk.specs.declared.geometry.Geometry.{Geometry as Sizes}
use Rattle.scrub_disk.specs.Image.{Image}
use Rattle.scrub_frame.specs.declared.locator.Locator.{Locator}
use Rattle.scrub_pool.specs.Takings.{TakingsValue}
use Rattle.scrub_found.specs.GivenRuns.{AreTakingsFrom}
use Rattle.scrub_shard.specs.PartialArchive.{IsArchiveFrom}
use Rattle.scrub_shard.specs.declared.archiving.Remark.{Remark}
use Rattle.scrub_args.specs.declared.args.ShardsArgs.{ShardsArgs}
use Rattle.scrub_cli.specs.declared.process.fault.Fault.{Fault}
use Rattle.scrub_cli.specs.declared.process.outcome.Outcome.{Outcome}
use Rattle.scrub_cli.specs.DiskGeometry.{IsGeometryOf, IsSizedFault}
use Rattle.scrub_cli.specs.GivenRuns.{IsLoadedWithRuns, IsRunsFault}
use Rattle.scrub_cli.specs.KnownFiles.{KnownMaps, KnownRaw}
use Rattle.scrub_cli.specs.Outcome.{IsOutcomeWith}
use Rattle.scrub_cli.specs.Remarks.{remark_lines}

-- the text is the archive of all shards of an image, by these index runs, if they are given, or else by the superblock that counts;
-- with the payloads of broken shards or without. The outcome has the lines of what is said beside it
pub record IsArchived (given : Option (List Locator)) (partial : Bool) (image : Image) (text : List ℕ) (outcome : Outcome) : Type 0 where
  pub remarks : List Remark
  pub archive : IsArchiveFrom given partial image text remarks
  pub ended : IsOutcomeWith (remark_lines remarks) outcome

-- an image of the sizes that are given or found, loaded from this raw image, and what is given by arguments for index runs
pub record IsShardsDisk (known : KnownRaw) (maps : KnownMaps) (args : ShardsArgs) (image : Image) (given : Option (List Locator)) : Type 0 where
  pub geometry : Sizes
  pub sizes : IsGeometryOf known maps args.scan.image geometry
  pub loaded : IsLoadedWithRuns known maps args.scan.image args.runs.items geometry image given

-- the text is the archive of all shards of this image, which was loaded so, by the index runs that are given
pub record IsShardsOf (known : KnownRaw) (maps : KnownMaps) (args : ShardsArgs) (text : List ℕ) (outcome : Outcome) (image : Image)
    (given : Option (List Locator)) : Type 0 where
  pub disk : IsShardsDisk known maps args image given
  pub archived : IsArchived given args.is_partial image text outcome

-- the answer of `shards`: that of some such image
abbrev pub IsShardsAnswer : KnownRaw → KnownMaps → ShardsArgs → List ℕ → Outcome → Type 0
IsShardsAnswer known maps args text outcome =
    (image : Image) × (given : Option (List Locator)) × IsShardsOf known maps args text outcome image given

-- that answer, and what the workers that were asked for took of the image
abbrev pub AreShardsTakings : KnownRaw → KnownMaps → ShardsArgs → List ℕ → Outcome → TakingsValue → Type 0
AreShardsTakings known maps args text outcome takings =
    (image : Image) × (given : Option (List Locator)) × IsShardsOf known maps args text outcome image given
    × AreTakingsFrom given image args.scan.workers takings

-- why there is no archive: each fault only if none before it applies, or memory ran out, anywhere
abbrev pub IsShardsFault : KnownRaw → KnownMaps → ShardsArgs → Fault → Type 0
IsShardsFault known maps args fault =
    IsSizedFault known maps args.scan.image (IsRunsFault known maps args.scan.image args.runs.items) fault
