-- What the command `items` answers, and why it doesn't.
use Rattle.std.specs.Prelude.{◌≡◌, ◌<◌, ◌≤◌, ◌⊎◌, ℕ, List, unwrap_or}
use Rattle.scrub_disk.specs.declared.geometry.Geometry.{Geometry as Sizes}
use Rattle.scrub_disk.specs.Image.{Image, extent_bytes}
use Rattle.scrub_scan.specs.Extent.{extent_of}
use Rattle.scrub_cli.specs.declared.process.fault.Fault.{Fault}
use Rattle.scrub_cli.specs.declared.process.fault.Fault.TheVariants.{Extent, Pointer}
use Rattle.scrub_cli.specs.declared.process.outcome.Outcome.{Outcome}
use Rattle.scrub_args.specs.declared.args.ItemsArgs.{ItemsArgs}
use Rattle.scrub_cli.specs.DiskImage.{IsLoadedDiskIn, IsDiskFault}
use Rattle.scrub_cli.specs.DiskGeometry.{IsGeometryOf, IsSizedFault}
use Rattle.scrub_cli.specs.KnownFiles.{KnownMaps, KnownRaw}
use Rattle.scrub_cli.specs.Lines.{IsListing}

-- the write pointer that is given, or else the extent's size
abbrev pub given_pointer : ItemsArgs → Sizes → ℕ
given_pointer args g = unwrap_or args.pointer (extent_bytes g)

-- the disk has these sizes, and the extent and the pointer lie in it
pub record AreInDisk (known : KnownRaw) (maps : KnownMaps) (args : ItemsArgs) (g : Sizes) : Type 0 where
  pub sizes : IsGeometryOf known maps args.image g
  pub in_disk : args.extent < g.extents
  pub in_extent : given_pointer args g ≤ extent_bytes g

-- the listing of the extent under the pointer, in an image whose wanted extents were loaded from this raw image
pub record IsItemsAnswerIn (wanted : ℕ → Type 0) (known : KnownRaw) (maps : KnownMaps) (args : ItemsArgs) (text : List ℕ)
    (outcome : Outcome) : Type 0 where
  pub geometry : Sizes
  pub places : AreInDisk known maps args geometry
  pub image : Image
  pub loaded : IsLoadedDiskIn wanted known maps args.image geometry image
  pub listed : IsListing (extent_of image args.extent (given_pointer args geometry)) text outcome

-- the answer of `items`, which loads that extent alone
abbrev pub IsItemsAnswer : KnownRaw → KnownMaps → ItemsArgs → List ℕ → Outcome → Type 0
IsItemsAnswer known maps args = IsItemsAnswerIn (λ e. e ≡ args.extent) known maps args

-- the extent isn't in a disk of these sizes, or else the pointer isn't in the extent
abbrev pub IsPlaceFault : ℕ → ℕ → Sizes → Fault → Type 0
IsPlaceFault extent pointer g Extent = g.extents ≤ extent
IsPlaceFault extent pointer g Pointer = (extent < g.extents) × (extent_bytes g < pointer)
IsPlaceFault extent pointer g fault = ⊥

-- why `items` gives no listing: each fault only if none before it applies, or memory ran out, anywhere
abbrev pub IsItemsFault : KnownRaw → KnownMaps → ItemsArgs → Fault → Type 0
IsItemsFault known maps args fault =
    IsSizedFault known maps args.image
    (λ g why. IsPlaceFault args.extent (given_pointer args g) g why
    ⊎ (AreInDisk known maps args g × IsDiskFault known maps args.image g why)) fault
