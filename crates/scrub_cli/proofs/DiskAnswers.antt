-- What is loaded from an image file, or why nothing is, from what the parts of `load_disk` give.
use Rattle.std.proofs.Common.{◌≡◌, arith, ◌<◌, ◌≤◌, ℕ, Bool, List, length, Option, None, IfSome, MatchResult, Result, Ok, Err}
use Rattle.scrub_disk.specs.declared.geometry.Geometry.{Geometry as Sizes}
use Rattle.scrub_disk.specs.declared.loading.LoadFault.{LoadFault}
use Rattle.scrub_disk.specs.declared.loading.LoadFault.TheVariants.{TooLong as too_long, OutOfMemory as no_memory_to_load}
use Rattle.scrub_disk.specs.Image.{Image, disk_bytes}
use Rattle.scrub_disk.specs.Raw.{IsLoadedIn}
use Rattle.scrub_disk.proofs.LostPages.{loaded_with_more}
use Rattle.scrub_map.specs.declared.block.MapBlock.{MapBlock}
use Rattle.scrub_args.specs.declared.args.ImageArgs.{ImageArgs}
use Rattle.scrub_cli.specs.DiskGeometry.{AreSizesFoundBy}
use Rattle.scrub_cli.specs.DiskImage.{AreLossesKept, IsLoadedDiskIn, IsLoadedInBy, IsRawFault}
use Rattle.scrub_cli.specs.declared.commands.disk_image.Losses.{Losses}
use Rattle.scrub_cli.specs.Fault.{fault_of_load}
use Rattle.scrub_cli.specs.KnownFiles.{KnownMaps, KnownRaw}
use Rattle.scrub_cli.specs.Rescue.{KeepsMap}

-- a fault of loading the bytes is one of the raw image
pub load_fault : (known : KnownRaw) (was : Option (List ℕ)) (g : Sizes) (fault : LoadFault) →
    was ≡ known.bytes → (fault ≡ too_long → IfSome was (λ bytes. disk_bytes g < length bytes)) →
    IsRawFault known g (fault_of_load fault)
load_fault known was g no_memory_to_load same longer = tt
load_fault known was g too_long same longer = rw same at (longer (λ i. too_long))

-- no more reads of all readers fail than may fail of the image
pub loaded_as_known : (wanted : ℕ → Type 0) (known : KnownRaw) (was : Option (List ℕ)) (fails : ℕ → ℕ → Bool) (g : Sizes) (pages : List (ℕ × ℕ)) (image : Image)
    (most most_before : ℕ) →
    was ≡ known.bytes → fails ≡ known.fails → most_before ≡ known.most_failures → most ≤ most_before →
    IsLoadedIn wanted was fails most g pages image → IsLoadedIn wanted known.bytes known.fails known.most_failures g pages image
loaded_as_known wanted known was fails g pages image most most_before same may bound within loaded =
    let few : most ≤ known.most_failures = omega (arith, bound, within) in
    rw (same, may) at (loaded_with_more wanted was fails most known.most_failures g pages image few loaded)

-- an image that was loaded without what is lost is loaded as the arguments say
pub loaded_disk : (wanted : ℕ → Type 0) (known : KnownRaw) (maps : KnownMaps) (args : ImageArgs) (g : Sizes) (losses : Losses) (image : Image) →
    (kept : AreLossesKept maps args g losses) → (args.sizes ≡ None → AreSizesFoundBy known losses.map g) →
    ((blocks : Option (List MapBlock)) → KeepsMap losses.map blocks → IsLoadedInBy wanted known g losses.pages.items blocks image) →
    IsLoadedDiskIn wanted known maps args g image
loaded_disk wanted known maps args g losses image kept found loaded =
    let l = loaded kept.map.blocks kept.map.keeps in
    record {
      unreadable = losses.pages.items;
      named = kept.named;
      blocks = kept.map.blocks;
      mapped = kept.map.are;
      before = l.before;
      loaded = l.loaded;
      rescued = l.rescued;
      sizes = λ left. found left kept.map.blocks kept.map.keeps;
    }

-- what holds of each result holds of the one that there is
pub matched : {T E : Type 0} (r : Result T E) (P P' : T → Type 0) (Q Q' : E → Type 0) → MatchResult r P Q → ((t : T) → P t → P' t) →
    ((e : E) → Q e → Q' e) → MatchResult r P' Q'
matched (Ok t) P P' Q Q' m f h = f t m
matched (Err e) P P' Q Q' m f h = h e m
