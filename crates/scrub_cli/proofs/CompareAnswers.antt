-- What `compare` is asked for and loads, from what its parts give.
use Rattle.std.proofs.Common.{◌≡◌, ◌∙◌, [], ℕ, List, Option, subst, sym}
use Rattle.std.specs.Borrow.{Bor}
use Rattle.scrub_disk.specs.declared.geometry.Geometry.{Geometry as Sizes}
use Rattle.scrub_disk.specs.Image.{Image}
use Rattle.scrub_map.specs.declared.block.MapBlock.{MapBlock}
use Rattle.scrub_cli.specs.DiskImage.{IsLoadedBy}
use Rattle.scrub_cli.specs.GivenRuns.{EachNamesRun}
use Rattle.scrub_cli.specs.KnownFiles.{KnownRaw}
use Rattle.scrub_cli.proofs.Rescues.{lost_geometry}

-- an image that was loaded for a disk of some sizes has them
pub loaded_sizes : {known : KnownRaw} {g : Sizes} {pages : List (ℕ × ℕ)} {blocks : Option (List MapBlock)} {image : Image} →
    IsLoadedBy known g pages blocks image → image.geometry ≡ g
loaded_sizes {blocks = blocks} {image} l = lost_geometry blocks l.before image l.rescued ∙ l.loaded.geometry

-- if no index runs are given, each argument for one names a place
pub each_names : (words : List (Bor (List ℕ))) (g : Sizes) → words ≡ [] → EachNamesRun g words
each_names words g none = subst (λ (all : List (Bor (List ℕ))). EachNamesRun g all) (sym none) ([], tt)
