-- What the command `shard` answers for an image file, and why it doesn't.
use Rattle.std.specs.Prelude.{◌≡◌, ◌⊎◌, ℕ, true, List, Option}
use Rattle.std.specs.Borrow.{Bor}
use Rattle.scrub_disk.specs.declared.geometry.Geometry.{Geometry as Sizes}
use Rattle.scrub_disk.specs.Image.{Image}
use Rattle.scrub_frame.specs.declared.locator.Locator.{Locator}
use Rattle.scrub_pool.specs.Takings.{TakingsValue}
use Rattle.scrub_found.specs.GivenRuns.{AreTakingsFrom}
use Rattle.scrub_run.specs.declared.shard_id.ShardId.{ShardId}
use Rattle.scrub_listings.specs.declared.remarks.SuperblockRemark.{SuperblockRemark}
use Rattle.scrub_listings.specs.Remarks.{AreSaidFrom}
use Rattle.scrub_shard.specs.Shard.{IsShardAnswerFrom}
use Rattle.scrub_shard.specs.declared.shard.ShardAnswer.{ShardAnswer}
use Rattle.scrub_shard.specs.declared.shard.ShardAnswer.TheVariants.{NoSuchShard, PayloadLost as payload_is_lost, Found}
use Rattle.scrub_cli.specs.declared.process.fault.Fault.{Fault}
use Rattle.scrub_cli.specs.declared.process.fault.Fault.TheVariants.{BadShard, NoShard, PayloadLost}
use Rattle.scrub_cli.specs.declared.process.outcome.Outcome.{Outcome}
use Rattle.scrub_args.specs.declared.args.ShardArgs.{ShardArgs}
use Rattle.scrub_cli.specs.DiskGeometry.{IsGeometryOf, IsSizedFault}
use Rattle.scrub_cli.specs.GivenRuns.{IsLoadedWithRuns, IsRunsFault}
use Rattle.scrub_cli.specs.KnownFiles.{KnownMaps, KnownRaw}
use Rattle.scrub_cli.specs.Outcome.{IsWarnedOutcome}
use Rattle.scrub_cli.specs.Remarks.{shard_remark_lines}
use Rattle.scrub_args.specs.ShardId.{IsIdText, IsNoIdText}

-- the text is the bytes that were found, and the outcome has these lines for the error stream
abbrev pub IsWrittenFor : ShardAnswer → List ℕ → List ℕ → Outcome → Type 0
IsWrittenFor (Found found) lines text outcome = (text ≡ found.bytes) × IsWarnedOutcome true lines outcome
IsWrittenFor answer lines text outcome = ⊥

-- the fault for a shard that isn't there, or that has a lost payload
abbrev pub IsFaultFor : ShardAnswer → Fault → Type 0
IsFaultFor NoSuchShard fault = fault ≡ NoShard
IsFaultFor (payload_is_lost number) fault = fault ≡ PayloadLost number
IsFaultFor (Found found) fault = ⊥

-- the disk has these sizes, and the argument is this identifier
pub record IsNamed (known : KnownRaw) (maps : KnownMaps) (args : ShardArgs) (g : Sizes) (id : ShardId) : Type 0 where
  pub sizes : IsGeometryOf known maps args.scan.image g
  pub id_is : IsIdText args.id.now id

-- the answer for this shard, in an image of these sizes that was loaded from this raw image: by the index runs that are given, or
-- else by the superblock that counts
pub record IsShardRead (known : KnownRaw) (maps : KnownMaps) (args : ShardArgs) (g : Sizes) (id : ShardId) (image : Image)
    (given : Option (List Locator)) (answer : ShardAnswer) : Type 0 where
  pub loaded : IsLoadedWithRuns known maps args.scan.image args.runs.items g image given
  pub answered : IsShardAnswerFrom given image id answer

-- what is written for the shard that is named in this image: its bytes, and the lines for the error stream
pub record IsShardOf (known : KnownRaw) (maps : KnownMaps) (args : ShardArgs) (text : List ℕ) (outcome : Outcome) (image : Image)
    (given : Option (List Locator)) : Type 0 where
  pub geometry : Sizes
  pub id : ShardId
  pub named : IsNamed known maps args geometry id
  pub answer : ShardAnswer
  pub is_read : IsShardRead known maps args geometry id image given answer
  pub remarks : List SuperblockRemark
  pub are_remarks : AreSaidFrom given image remarks
  pub written : IsWrittenFor answer (shard_remark_lines remarks answer) text outcome

-- the answer of `shard`: that of some such image
abbrev pub IsShardWritten : KnownRaw → KnownMaps → ShardArgs → List ℕ → Outcome → Type 0
IsShardWritten known maps args text outcome =
    (image : Image) × (given : Option (List Locator)) × IsShardOf known maps args text outcome image given

-- that answer, and what the workers that were asked for took of the image
abbrev pub AreShardTakings : KnownRaw → KnownMaps → ShardArgs → List ℕ → Outcome → TakingsValue → Type 0
AreShardTakings known maps args text outcome takings =
    (image : Image) × (given : Option (List Locator)) × IsShardOf known maps args text outcome image given
    × AreTakingsFrom given image args.scan.workers takings

-- this shard isn't there, or has a lost payload, and this is the fault for that
pub record IsShardLost (known : KnownRaw) (maps : KnownMaps) (args : ShardArgs) (g : Sizes) (id : ShardId) (fault : Fault) : Type 0 where
  pub image : Image
  pub given : Option (List Locator)
  pub answer : ShardAnswer
  pub is_read : IsShardRead known maps args g id image given answer
  pub why : IsFaultFor answer fault

-- the argument is no identifier
abbrev pub IsIdFault : Bor (List ℕ) → Fault → Type 0
IsIdFault arg (BadShard text) = (text ≡ arg) × IsNoIdText arg.now
IsIdFault arg fault = ⊥

-- why no bytes are written: each fault only if none before it applies, or memory ran out, anywhere
abbrev pub IsShardFault : KnownRaw → KnownMaps → ShardArgs → Fault → Type 0
IsShardFault known maps args fault =
    IsSizedFault known maps args.scan.image
    (λ g why. IsIdFault args.id why
    ⊎ ((id : ShardId) × IsNamed known maps args g id
    × (IsRunsFault known maps args.scan.image args.runs.items g why ⊎ IsShardLost known maps args g id why))) fault
