-- What the command `sizes` answers for an image file, and why it doesn't.
use Rattle.std.specs.Prelude.{◌≤◌, ℕ, List, [], ◌∷◌, Bool, Option, codes}
use Rattle.scrub_map.specs.declared.block.MapBlock.{MapBlock}
use Rattle.scrub_listings.specs.Sizes.{IsSizesListingOf}
use Rattle.scrub_cli.specs.declared.process.fault.Fault.{Fault}
use Rattle.scrub_cli.specs.declared.process.outcome.Outcome.{Outcome}
use Rattle.scrub_args.specs.declared.args.SizesArgs.{SizesArgs}
use Rattle.scrub_cli.specs.KnownFiles.{KnownMaps, KnownRaw}
use Rattle.scrub_cli.specs.Opened.{IsOpeningFault}
use Rattle.scrub_cli.specs.Fault.{line}
use Rattle.scrub_cli.specs.Outcome.{IsWarnedOutcome}
use Rattle.scrub_cli.specs.Rescue.{AreBlocksOf, AreLackingBy}

-- the line of the error stream for a listing without lines, so without a record; none for another one
abbrev pub no_record_line : List ℕ → List ℕ
no_record_line [] = line (codes "no superblock record in the first 64 MiB")
no_record_line (b ∷ text) = []

-- the listing of a raw image of which this is known, with the blocks lost that have a byte before its end which a map of these
-- blocks lacks; the outcome says whether it is clean, and has the line for a listing without lines. Of a file that is the
-- listing of some bytes
pub record AreSizesListed (known : KnownRaw) (blocks : Option (List MapBlock)) (text : List ℕ) (outcome : Outcome) : Type 0 where
  pub failures : ℕ
  pub few : failures ≤ known.most_failures
  pub lacking : ℕ → Bool
  pub lacks : AreLackingBy blocks lacking
  pub is_clean : Bool
  pub listed : IsSizesListingOf known.bytes lacking known.fails failures text is_clean
  pub ended : IsWarnedOutcome is_clean (no_record_line text) outcome

-- the answer of `sizes`: the listing of the image that is named, with the blocks lost that its map lacks
pub record IsSizesAnswer (known : KnownRaw) (maps : KnownMaps) (args : SizesArgs) (text : List ℕ) (outcome : Outcome) : Type 0 where
  pub blocks : Option (List MapBlock)
  pub mapped : AreBlocksOf maps args.map blocks
  pub listed : AreSizesListed known blocks text outcome

-- why `sizes` gives no listing: the map and the image aren't opened, or memory ran out; no image is too long
abbrev pub IsSizesFault : KnownRaw → KnownMaps → SizesArgs → Fault → Type 0
IsSizesFault known maps args fault = IsOpeningFault known maps args.map args.name fault
