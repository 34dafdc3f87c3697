-- Why the map and the image that the arguments name aren't opened.
use Rattle.std.specs.Prelude.{◌≡◌, ◌⊎◌, ℕ, List, Option, IsTrue}
use Rattle.std.specs.Borrow.{Bor}
use Rattle.scrub_map.specs.declared.block.MapBlock.{MapBlock}
use Rattle.scrub_cli.specs.declared.process.fault.Fault.{Fault}
use Rattle.scrub_cli.specs.declared.process.fault.Fault.TheVariants.{NoImage}
use Rattle.scrub_cli.specs.KnownFiles.{KnownMaps, KnownRaw}
use Rattle.scrub_cli.specs.Rescue.{AreBlocksOf, IsMapFault}

-- the image of this name can't be opened, which it may fail to be
abbrev pub IsUnopened : KnownRaw → Bor (List ℕ) → Fault → Type 0
IsUnopened known name (NoImage image) = (image ≡ name) × IsTrue known.fails_to_open
IsUnopened known name fault = ⊥

-- why the map and the image of these names aren't opened: a fault of the map; or, if that was read, the image can't be opened
abbrev pub IsOpeningFault : KnownRaw → KnownMaps → Option (Bor (List ℕ)) → Bor (List ℕ) → Fault → Type 0
IsOpeningFault known maps named name fault =
    IsMapFault maps named fault ⊎ ((blocks : Option (List MapBlock)) × AreBlocksOf maps named blocks × IsUnopened known name fault)
