-- Sizes that a request leaves out: those that are found in its image.
use Rattle.std.specs.Prelude.{◌≡◌, ℕ, List, Option, None, Some, MatchOption}
use Rattle.scrub_disk.specs.declared.geometry.Geometry.{Geometry as Sizes}
use Rattle.scrub_disk.specs.Faults.{HasSizes}
use Rattle.scrub_listings.specs.declared.sizes_listing.SizesFound.TheVariants.{Certain}
use Rattle.scrub_args.specs.declared.args.GivenSizes.{GivenSizes}
use Rattle.scrub_args.specs.declared.args.ImageArgs.{ImageArgs}
use Rattle.scrub_args.specs.declared.args.Request.{Request}
use Rattle.scrub_args.specs.declared.args.Request.TheVariants.{Items, Scan, Shard, Shards, Superblocks}
use Rattle.scrub_cli.specs.declared.process.fault.Fault.{Fault}
use Rattle.scrub_cli.specs.DiskGeometry.{AreSizesFound, IsGeometryFault}
use Rattle.scrub_cli.specs.KnownFiles.{KnownMaps, KnownRaw}

-- the arguments on the disk and its image of a request whose sizes may be left out
abbrev pub image_args : Request → Option ImageArgs
image_args (Items args) = Some args.image
image_args (Scan wanted args) = Some args.image
image_args (Shard args) = Some args.scan.image
image_args (Shards args) = Some args.scan.image
image_args (Superblocks args) = Some args
image_args request = None

-- the same arguments on a disk and its image, with these sizes
abbrev pub with_sizes : ImageArgs → GivenSizes → ImageArgs
with_sizes args s = record args { sizes = Some s }

-- the same request with these sizes
abbrev pub request_with : Request → GivenSizes → Request
request_with (Items args) s = Items (record args { image = with_sizes args.image s })
request_with (Scan wanted args) s = Scan wanted (record args { image = with_sizes args.image s })
request_with (Shard args) s = Shard (record args { scan = record args.scan { image = with_sizes args.scan.image s } })
request_with (Shards args) s = Shards (record args { scan = record args.scan { image = with_sizes args.scan.image s } })
request_with (Superblocks args) s = Superblocks (with_sizes args s)
request_with request s = request

-- the request leaves the sizes out
abbrev pub LeavesOut : Request → Type 0
LeavesOut request = MatchOption (image_args request) ⊥ (λ args. args.sizes ≡ None)

-- these are sizes that are found in the image of the arguments
pub record AreFoundFor (known : List ℕ → KnownRaw) (maps : KnownMaps) (args : ImageArgs) (s : GivenSizes) : Type 0 where
  pub geometry : Sizes
  pub given : HasSizes geometry s.page s.pages s.extents
  pub found : AreSizesFound (known args.name.now) maps args.map (Certain geometry)

-- these are sizes that are found in the image of a request
abbrev pub FindsSizes : (List ℕ → KnownRaw) → KnownMaps → Request → GivenSizes → Type 0
FindsSizes known maps request s = MatchOption (image_args request) ⊥ (λ args. AreFoundFor known maps args s)

-- why no sizes are found in the image of a request
abbrev pub IsFindingFault : (List ℕ → KnownRaw) → KnownMaps → Request → Fault → Type 0
IsFindingFault known maps request fault =
    MatchOption (image_args request) ⊥ (λ args. IsGeometryFault (known args.name.now) maps args fault)
