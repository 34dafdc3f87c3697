-- The sizes of a disk: those that the arguments give, or else those that its superblock records have.
use Rattle.std.specs.Prelude.{◌≡◌, ◌≤◌, ◌⊎◌, ℕ, List, Bool, Option, MatchOption}
use Rattle.std.specs.Borrow.{Bor}
use Rattle.scrub_disk.specs.declared.geometry.Geometry.{Geometry as Sizes}
use Rattle.scrub_disk.specs.Faults.{HasSizes, IsFirstBroken}
use Rattle.scrub_map.specs.declared.block.MapBlock.{MapBlock}
use Rattle.scrub_map.specs.declared.map.RescueMap.{RescueMap}
use Rattle.scrub_listings.specs.Sizes.{AreSizesOf}
use Rattle.scrub_listings.specs.declared.sizes_listing.SizesFound.{SizesFound}
use Rattle.scrub_listings.specs.declared.sizes_listing.SizesFound.TheVariants.{Certain, Uncertain, NotFound}
use Rattle.scrub_cli.specs.declared.process.fault.Fault.{Fault}
use Rattle.scrub_cli.specs.declared.process.fault.Fault.TheVariants.{Geometry, NoSizes, UncertainSizes, OutOfMemory}
use Rattle.scrub_args.specs.declared.args.GivenSizes.{GivenSizes}
use Rattle.scrub_args.specs.declared.args.ImageArgs.{ImageArgs}
use Rattle.scrub_cli.specs.KnownFiles.{KnownMaps, KnownRaw}
use Rattle.scrub_cli.specs.Opened.{IsOpeningFault}
use Rattle.scrub_cli.specs.Rescue.{AreBlocksOf, AreLackingBy, KeepsMap}

-- what the records in a raw image of which this is known say of the sizes, with the blocks lost that have a byte before its end
-- which a map of these blocks lacks, and those of as many reads as may have failed
pub record AreSizesWithout (known : KnownRaw) (blocks : Option (List MapBlock)) (found : SizesFound) : Type 0 where
  pub failures : ℕ
  pub few : failures ≤ known.most_failures
  pub lacking : ℕ → Bool
  pub lacks : AreLackingBy blocks lacking
  pub sizes : AreSizesOf known.bytes lacking known.fails failures found

-- what is found so of the sizes in a raw image, with the blocks lost that the map lacks
pub record AreSizesFound (known : KnownRaw) (maps : KnownMaps) (named : Option (Bor (List ℕ))) (found : SizesFound) : Type 0 where
  pub blocks : Option (List MapBlock)
  pub mapped : AreBlocksOf maps named blocks
  pub sizes : AreSizesWithout known blocks found

-- these sizes are found so in a raw image, with the blocks lost that this map lacks
abbrev pub AreSizesFoundBy : KnownRaw → Option RescueMap → Sizes → Type 0
AreSizesFoundBy known map g = (blocks : Option (List MapBlock)) → KeepsMap map blocks → AreSizesWithout known blocks (Certain g)

-- no sizes are found, or none for certain
abbrev pub IsUnfound : KnownRaw → KnownMaps → Option (Bor (List ℕ)) → Fault → Type 0
IsUnfound known maps named NoSizes = AreSizesFound known maps named NotFound
IsUnfound known maps named UncertainSizes = AreSizesFound known maps named Uncertain
IsUnfound known maps named fault = ⊥

-- why no sizes are found: the map and the image aren't opened, or memory ran out; or else their records don't tell
abbrev pub IsFoundFault : KnownRaw → KnownMaps → Option (Bor (List ℕ)) → Bor (List ℕ) → Fault → Type 0
IsFoundFault known maps named name fault = IsOpeningFault known maps named name fault ⊎ IsUnfound known maps named fault

-- why sizes that are given are refused: the first limit that they break
abbrev pub IsGivenFault : GivenSizes → Fault → Type 0
IsGivenFault s (Geometry fault) = IsFirstBroken s.page s.pages s.extents fault
IsGivenFault s OutOfMemory = Unit {0}
IsGivenFault s fault = ⊥

-- the sizes of the disk that the arguments name: those that they give, or else those that its records have
abbrev pub IsGeometryOf : KnownRaw → KnownMaps → ImageArgs → Sizes → Type 0
IsGeometryOf known maps args g =
    MatchOption args.sizes (AreSizesFound known maps args.map (Certain g)) (λ s. HasSizes g s.page s.pages s.extents)

-- why there are no such sizes
abbrev pub IsGeometryFault : KnownRaw → KnownMaps → ImageArgs → Fault → Type 0
IsGeometryFault known maps args fault =
    MatchOption args.sizes (IsFoundFault known maps args.map args.name fault) (λ s. IsGivenFault s fault)

-- why there is no answer for the disk that the arguments name: memory ran out, it has no sizes, or it has these, and this is why
abbrev pub IsSizedFault : KnownRaw → KnownMaps → ImageArgs → (Sizes → Fault → Type 0) → Fault → Type 0
IsSizedFault known maps args Why fault =
    (fault ≡ OutOfMemory)
    ⊎ (IsGeometryFault known maps args fault ⊎ ((g : Sizes) × IsGeometryOf known maps args g × Why g fault))
