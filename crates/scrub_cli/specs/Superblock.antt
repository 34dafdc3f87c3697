-- What the command `superblocks` answers for an image file.
use Rattle.std.specs.Prelude.{◌≡◌, ℕ, List, Bool}
use Rattle.scrub_disk.specs.Image.{Image}
use Rattle.scrub_listings.specs.Superblocks.{IsSuperblockListing}
use Rattle.scrub_cli.specs.declared.process.outcome.Outcome.{Outcome}
use Rattle.scrub_args.specs.declared.args.ImageArgs.{ImageArgs}
use Rattle.scrub_cli.specs.KnownFiles.{KnownMaps, KnownRaw}
use Rattle.scrub_cli.specs.Outcome.{outcome_of}
use Rattle.scrub_cli.specs.Scan.{IsDiskIn}

-- the lines of the superblocks of an image, and whether they are in good order
pub record AreSuperblocksListed (image : Image) (text : List ℕ) (outcome : Outcome) : Type 0 where
  pub clean : Bool
  pub listing : IsSuperblockListing image text clean
  pub ended : outcome ≡ outcome_of clean

-- the lines of an image of the sizes that are given or found, whose wanted extents were loaded from this raw image
pub record IsSuperblocksAnswerIn (wanted : ℕ → Type 0) (known : KnownRaw) (maps : KnownMaps) (args : ImageArgs) (text : List ℕ)
    (outcome : Outcome) : Type 0 where
  pub image : Image
  pub disk : IsDiskIn wanted known maps args image
  pub answered : AreSuperblocksListed image text outcome

-- the answer of `superblocks`, which loads extent 0 alone
abbrev pub IsSuperblocksAnswer : KnownRaw → KnownMaps → ImageArgs → List ℕ → Outcome → Type 0
IsSuperblocksAnswer = IsSuperblocksAnswerIn (λ e. e ≡ 0)
