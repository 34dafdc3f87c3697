-- What `items` answers, and why it doesn't, from what its parts give.
use Rattle.std.proofs.Common.{◌≡◌, ◌<◌, ◌≤◌, ◌∙◌, ap, inl, inr, ℕ, List, unwrap_or}
use Rattle.scrub_disk.specs.declared.geometry.Geometry.{Geometry as Sizes}
use Rattle.scrub_disk.specs.Image.{Image, extent_bytes}
use Rattle.scrub_scan.specs.Extent.{extent_of}
use Rattle.scrub_cli.specs.declared.process.fault.Fault.TheVariants.{Pointer}
use Rattle.scrub_cli.specs.declared.process.outcome.Outcome.{Outcome}
use Rattle.scrub_args.specs.declared.args.ItemsArgs.{ItemsArgs}
use Rattle.scrub_cli.specs.DiskImage.{IsLoadedDiskIn}
use Rattle.scrub_cli.specs.Items.{given_pointer, AreInDisk, IsItemsAnswer, IsItemsFault}
use Rattle.scrub_cli.specs.DiskGeometry.{IsGeometryOf}
use Rattle.scrub_cli.specs.KnownFiles.{KnownMaps, KnownRaw}
use Rattle.scrub_cli.specs.Lines.{IsListing}

-- what is known if the sizes, the extent and the pointer aren't refused; an extent has `size` bytes
pub placed : (known : KnownRaw) (maps : KnownMaps) (args : ItemsArgs) (g : Sizes) (pointer size limit : ℕ) →
    IsGeometryOf known maps args.image g →
    args.extent < g.extents → pointer ≡ unwrap_or args.pointer size → size ≡ extent_bytes g → limit ≡ extent_bytes g →
    pointer ≤ limit →
    AreInDisk known maps args g × (pointer ≡ given_pointer args g)
placed known maps args g pointer size limit sizes in_disk is size_is limit_is within =
    let pointer_is : pointer ≡ given_pointer args g = is ∙ ap (unwrap_or args.pointer) size_is in (
      record { sizes = sizes; in_disk = in_disk; in_extent = rw (← pointer_is) (rw limit_is at within) },
      pointer_is,
    )

-- A pointer past the end of its extent is the fault `Pointer` of `items`.
pub pointer_fault : (known : KnownRaw) (maps : KnownMaps) (args : ItemsArgs) (g : Sizes) (pointer size limit : ℕ) →
    IsGeometryOf known maps args.image g → args.extent < g.extents →
    pointer ≡ unwrap_or args.pointer size → size ≡ extent_bytes g → limit ≡ extent_bytes g → limit < pointer →
    IsItemsFault known maps args Pointer
pointer_fault known maps args g pointer size limit sizes in_disk is size_is limit_is past =
    let pointer_is : pointer ≡ given_pointer args g = is ∙ ap (unwrap_or args.pointer) size_is in
    inr (inr (g, sizes, inl (in_disk, rw (← pointer_is) (rw limit_is at past))))

-- The listing of the extent under the pointer, in the image that was loaded, is the answer of `items`.
pub items_answer : (known : KnownRaw) (maps : KnownMaps) (args : ItemsArgs) (g : Sizes) (image : Image) (pointer : ℕ)
    (text : List ℕ) (outcome : Outcome) →
    AreInDisk known maps args g → IsLoadedDiskIn (λ e. e ≡ args.extent) known maps args.image g image → pointer ≡ given_pointer args g →
    IsListing (extent_of image args.extent pointer) text outcome → IsItemsAnswer known maps args text outcome
items_answer known maps args g image pointer text outcome places loaded is listed = record {
  geometry = g;
  places = places;
  image = image;
  loaded = loaded;
  listed = rw is at listed;
}
