-- The disk that the arguments name: the pages that they give as unreadable, the image that is loaded, without what its map
-- lacks, and why none is.
use Rattle.std.specs.Prelude.{◌≡◌, ◌<◌, ◌⊎◌, ℕ, List, length, take, slice_index_or, Option, None, IfSome}
use Rattle.std.specs.Borrow.{Bor}
use Rattle.std.specs.List.{AllZip}
use Rattle.scrub_disk.specs.declared.geometry.Geometry.{Geometry as Sizes}
use Rattle.scrub_disk.specs.Image.{Image, disk_bytes}
use Rattle.scrub_disk.specs.Raw.{IsLoadedIn, every_extent}
use Rattle.scrub_listings.specs.declared.sizes_listing.SizesFound.TheVariants.{Certain}
use Rattle.scrub_map.specs.declared.block.MapBlock.{MapBlock}
use Rattle.scrub_cli.specs.declared.process.fault.Fault.{Fault}
use Rattle.scrub_cli.specs.declared.process.fault.Fault.TheVariants.{BadPage, TooLong, OutOfMemory}
use Rattle.scrub_args.specs.declared.args.ImageArgs.{ImageArgs}
use Rattle.scrub_cli.specs.DiskGeometry.{AreSizesWithout}
use Rattle.scrub_cli.specs.KnownFiles.{KnownMaps, KnownRaw}
use Rattle.scrub_args.specs.Pair.{IsPair}
use Rattle.scrub_cli.specs.Opened.{IsOpeningFault}
use Rattle.scrub_cli.specs.Rescue.{AreBlocksOf, IsMapNamed, LosesByMap}
use Rattle.scrub_cli.specs.declared.commands.disk_image.Losses.{Losses}

-- the argument is a pair of an extent of a disk of these sizes and a page of that extent
pub record NamesPage (g : Sizes) (arg : List ℕ) (at : ℕ × ℕ) : Type 0 where
  pub pair : IsPair arg at.0 at.1
  pub in_extents : at.0 < g.extents
  pub in_pages : at.1 < g.pages

-- the arguments name these pages, in order
abbrev pub NamePages : Sizes → List (Bor (List ℕ)) → List (ℕ × ℕ) → Type 0
NamePages g args pages = AllZip (λ arg at. NamesPage g arg.now at) args pages

-- each of the arguments names a page
abbrev pub EachNamesPage : Sizes → List (Bor (List ℕ)) → Type 0
EachNamesPage g args = (pages : List (ℕ × ℕ)) × NamePages g args pages

-- the first of the arguments that names no page
pub record IsFirstBadPage (g : Sizes) (args : List (Bor (List ℕ))) (arg : Bor (List ℕ)) : Type 0 where
  pub place : ℕ
  pub within : place < length args
  pub stands : arg ≡ slice_index_or args place arg
  pub pages : List (ℕ × ℕ)
  pub before : NamePages g (take place args) pages
  pub names_none : (at : ℕ × ℕ) → ¬ NamesPage g arg.now at

-- why arguments name no pages: this is the first that doesn't
abbrev pub IsBadPageFault : Sizes → List (Bor (List ℕ)) → Fault → Type 0
IsBadPageFault g args (BadPage arg) = IsFirstBadPage g args arg
IsBadPageFault g args OutOfMemory = Unit {0}
IsBadPageFault g args fault = ⊥

-- an image of these sizes whose wanted extents were loaded from this raw image, with the pages unreadable that the arguments name
-- and, if a map is named, those with a byte that it lacks; which reads and how many of them may have failed is known, not which
-- did. Sizes that are left out are found in this raw image, with the same map
pub record IsLoadedDiskIn (wanted : ℕ → Type 0) (known : KnownRaw) (maps : KnownMaps) (args : ImageArgs) (g : Sizes) (image : Image) : Type 0 where
  pub unreadable : List (ℕ × ℕ)
  pub named : NamePages g args.bad_pages.items unreadable
  pub blocks : Option (List MapBlock)
  pub mapped : AreBlocksOf maps args.map blocks
  pub before : Image
  pub loaded : IsLoadedIn wanted known.bytes known.fails known.most_failures g unreadable before
  pub rescued : LosesByMap blocks before image
  pub sizes : args.sizes ≡ None → AreSizesWithout known blocks (Certain g)

-- an image that was loaded so, with all its extents
abbrev pub IsLoadedDisk : KnownRaw → KnownMaps → ImageArgs → Sizes → Image → Type 0
IsLoadedDisk = IsLoadedDiskIn every_extent

-- the arguments name pages, and their map was read, if one is named
pub record AreReadBefore (maps : KnownMaps) (args : ImageArgs) (g : Sizes) : Type 0 where
  pub pages : List (ℕ × ℕ)
  pub named : NamePages g args.bad_pages.items pages
  pub blocks : Option (List MapBlock)
  pub mapped : AreBlocksOf maps args.map blocks

-- why what is lost isn't known, or the image isn't opened: an argument that names no page, or else the map or the image. If the sizes
-- are left out, both are open by then
abbrev pub IsLossesFault : KnownRaw → KnownMaps → ImageArgs → Sizes → Fault → Type 0
IsLossesFault known maps args g fault =
    IsBadPageFault g args.bad_pages.items fault
    ⊎ (¬ (args.sizes ≡ None) × EachNamesPage g args.bad_pages.items × IsOpeningFault known maps args.map args.name fault)

-- why a raw image of which this is known isn't loaded: it is too long, or memory ran out
abbrev pub IsRawFault : KnownRaw → Sizes → Fault → Type 0
IsRawFault known g TooLong = IfSome known.bytes (λ bytes. disk_bytes g < length bytes)
IsRawFault known g OutOfMemory = Unit {0}
IsRawFault known g fault = ⊥

-- why no disk of these sizes is loaded: what is lost isn't known, the image isn't opened, or else it isn't loaded
abbrev pub IsDiskFault : KnownRaw → KnownMaps → ImageArgs → Sizes → Fault → Type 0
IsDiskFault known maps args g fault = IsLossesFault known maps args g fault ⊎ (AreReadBefore maps args g × IsRawFault known g fault)

-- ---- in two steps

-- what is kept of the pages that the arguments name, and of the map, if one is named
pub record AreLossesKept (maps : KnownMaps) (args : ImageArgs) (g : Sizes) (losses : Losses) : Type 0 where
  pub named : NamePages g args.bad_pages.items losses.pages.items
  pub map : IsMapNamed maps args.map losses.map

-- an image of these sizes whose wanted extents were loaded from this raw image, with these pages unreadable, and those with a
-- byte that the map lacks
pub record IsLoadedInBy (wanted : ℕ → Type 0) (known : KnownRaw) (g : Sizes) (pages : List (ℕ × ℕ)) (blocks : Option (List MapBlock)) (image : Image) : Type 0 where
  pub before : Image
  pub loaded : IsLoadedIn wanted known.bytes known.fails known.most_failures g pages before
  pub rescued : LosesByMap blocks before image

-- an image that was loaded so, with all its extents
abbrev pub IsLoadedBy : KnownRaw → Sizes → List (ℕ × ℕ) → Option (List MapBlock) → Image → Type 0
IsLoadedBy = IsLoadedInBy every_extent
