-- What is answered without sizes is answered with those that are found.
use Rattle.std.proofs.Common.{◌≡◌, ◌⊎◌, inl, inr, refl, sym, subst, ℕ, List, Option, None, Some, MatchOption}
use Rattle.std.specs.Borrow.{Bor}
use Rattle.std.proofs.lemmas.Option.{none-some}
use Rattle.scrub_disk.specs.declared.geometry.Geometry.{Geometry as Sizes}
use Rattle.scrub_disk.specs.Faults.{HasSizes}
use Rattle.scrub_disk.specs.Image.{Image}
use Rattle.scrub_frame.specs.declared.locator.Locator.{Locator}
use Rattle.scrub_listings.specs.declared.sizes_listing.SizesFound.TheVariants.{Certain}
use Rattle.scrub_run.specs.declared.shard_id.ShardId.{ShardId}
use Rattle.scrub_args.specs.declared.args.GivenSizes.{GivenSizes}
use Rattle.scrub_args.specs.declared.args.ImageArgs.{ImageArgs}
use Rattle.scrub_args.specs.declared.args.ItemsArgs.{ItemsArgs}
use Rattle.scrub_args.specs.declared.args.Request.{Request}
use Rattle.scrub_args.specs.declared.args.Request.TheVariants.{Demo, Items, Scan, Manifest, Compare, Shard, Shards, Superblocks, Sizes as sizes_of_image}
use Rattle.scrub_args.specs.declared.args.ShardArgs.{ShardArgs}
use Rattle.scrub_args.specs.declared.args.ShardsArgs.{ShardsArgs}
use Rattle.scrub_shard.specs.declared.shard.ShardAnswer.{ShardAnswer}
use Rattle.scrub_cli.specs.declared.process.fault.Fault.{Fault}
use Rattle.scrub_cli.specs.declared.process.fault.Fault.TheVariants.{OutOfMemory}
use Rattle.scrub_cli.specs.declared.process.outcome.Outcome.{Outcome}
use Rattle.scrub_cli.specs.Answer.{IsAnswerOf, IsFaultOf}
use Rattle.scrub_cli.specs.DiskGeometry.{AreSizesFound, IsFoundFault, IsGeometryFault, IsGeometryOf, IsSizedFault}
use Rattle.scrub_cli.specs.DiskImage.{AreReadBefore, IsDiskFault, IsLoadedDiskIn}
use Rattle.scrub_cli.specs.GivenRuns.{IsLoadedWithRuns, IsRunsFault}
use Rattle.scrub_cli.specs.Items.{AreInDisk, IsPlaceFault, given_pointer}
use Rattle.scrub_cli.specs.KnownFiles.{KnownMaps, KnownRaw}
use Rattle.scrub_cli.specs.LeftOut.{AreFoundFor, FindsSizes, IsFindingFault, LeavesOut, request_with, with_sizes}
use Rattle.scrub_cli.specs.Scan.{IsDiskIn, IsScanFault}
use Rattle.scrub_cli.specs.Shard.{IsIdFault, IsNamed, IsShardLost, IsShardRead}
use Rattle.scrub_cli.specs.Shards.{IsShardsDisk}

-- ---- the sizes, and the disk

abbrev given : Sizes → GivenSizes
given g = record { page = g.page; pages = g.pages; extents = g.extents }

has_given : (g : Sizes) → HasSizes g g.page g.pages g.extents
has_given g = record { page = refl; pages = refl; extents = refl }

-- the sizes of arguments that leave them out are found
found_for : (known : List ℕ → KnownRaw) (maps : KnownMaps) (args : ImageArgs) (g : Sizes) → args.sizes ≡ None →
    IsGeometryOf (known args.name.now) maps args g → AreFoundFor known maps args (given g)
found_for known maps args g out sizes = record {
  geometry = g;
  given = has_given g;
  found =
      subst
      (λ (o : Option GivenSizes). MatchOption o (AreSizesFound (known args.name.now) maps args.map (Certain g)) (λ t. HasSizes g t.page t.pages t.extents))
      out sizes;
}

-- memory may run out while sizes are found
memory_fault : (known : KnownRaw) (maps : KnownMaps) (args : ImageArgs) → IsGeometryFault known maps args OutOfMemory
memory_fault known maps args = by args.sizes
  where
    by : (o : Option GivenSizes) → MatchOption o (IsFoundFault known maps args.map args.name OutOfMemory) (λ s. Unit {0})
    by None = inl (inl tt)
    by (Some s) = tt

-- the disk is loaded by the other arguments alone
loaded_with : {wanted : ℕ → Type 0} (known : KnownRaw) (maps : KnownMaps) (args : ImageArgs) (s : GivenSizes) (g : Sizes) (image : Image) →
    IsLoadedDiskIn wanted known maps args g image → IsLoadedDiskIn wanted known maps (with_sizes args s) g image
loaded_with known maps args s g image x = record {
  unreadable = x.unreadable;
  named = x.named;
  blocks = x.blocks;
  mapped = x.mapped;
  before = x.before;
  loaded = x.loaded;
  rescued = x.rescued;
  sizes = λ left. absurd (none-some s (sym left));
}

before_with : (maps : KnownMaps) (args : ImageArgs) (s : GivenSizes) (g : Sizes) → AreReadBefore maps args g → AreReadBefore maps (with_sizes args s) g
before_with maps args s g x = record { pages = x.pages; named = x.named; blocks = x.blocks; mapped = x.mapped }

disk_fault_with : (known : KnownRaw) (maps : KnownMaps) (args : ImageArgs) (s : GivenSizes) (g : Sizes) (fault : Fault) →
    IsDiskFault known maps args g fault → IsDiskFault known maps (with_sizes args s) g fault
disk_fault_with known maps args s g fault (inl (inl bad)) = inl (inl bad)
disk_fault_with known maps args s g fault (inl (inr is)) = inl (inr ((λ e. none-some s (sym e)), is.1, is.2))
disk_fault_with known maps args s g fault (inr is) = inr (before_with maps args s g is.0, is.1)

-- the same with index runs that are given
with_runs : {known : KnownRaw} {maps : KnownMaps} {args : ImageArgs} {words : List (Bor (List ℕ))} {g : Sizes} {image : Image} {given_runs : Option (List Locator)}
    (s : GivenSizes) →
    IsLoadedWithRuns known maps args words g image given_runs → IsLoadedWithRuns known maps (with_sizes args s) words g image given_runs
with_runs {known} {maps} {args} {words} {g} {image} s x = record { loaded = loaded_with known maps args s g image x.loaded; gives = x.gives }

runs_fault_with : (known : KnownRaw) (maps : KnownMaps) (args : ImageArgs) (words : List (Bor (List ℕ))) (s : GivenSizes) (g : Sizes) (fault : Fault) →
    IsRunsFault known maps args words g fault → IsRunsFault known maps (with_sizes args s) words g fault
runs_fault_with known maps args words s g fault (inl bad) = inl bad
runs_fault_with known maps args words s g fault (inr (inl is)) = inr (inl (is.0, disk_fault_with known maps args s g fault is.1))
runs_fault_with known maps args words s g fault (inr (inr is)) = inr (inr (is.0, loaded_with known maps args s g is.0 is.1, is.2))

-- a fault of a command without sizes is one of finding them, or one with sizes that are found
module _ (known : List ℕ → KnownRaw) (maps : KnownMaps) (args : ImageArgs) (out : args.sizes ≡ None) (Why : Sizes → Fault → Type 0)
    (WhyWith : GivenSizes → Sizes → Fault → Type 0) (why_with : (g : Sizes) (fault : Fault) → Why g fault → WhyWith (given g) g fault) where
  sized_fault_with : (fault : Fault) → IsSizedFault (known args.name.now) maps args Why fault →
      IsGeometryFault (known args.name.now) maps args fault
      ⊎ ((s : GivenSizes) × AreFoundFor known maps args s × IsSizedFault (known args.name.now) maps (with_sizes args s) (WhyWith s) fault)
  sized_fault_with fault (inl memory) =
      inl (subst (IsGeometryFault (known args.name.now) maps args) (sym memory) (memory_fault (known args.name.now) maps args))
  sized_fault_with fault (inr (inl is)) = inl is
  sized_fault_with fault (inr (inr is)) =
      inr (given is.0, found_for known maps args is.0 out is.1, inr (inr (is.0, has_given is.0, why_with is.0 fault is.2)))

-- ---- a whole disk

module _ (known : List ℕ → KnownRaw) (maps : KnownMaps) (args : ImageArgs) (out : args.sizes ≡ None) where
  disk_with : {wanted : ℕ → Type 0} (image : Image) (x : IsDiskIn wanted (known args.name.now) maps args image) →
      IsDiskIn wanted (known args.name.now) maps (with_sizes args (given x.geometry)) image
  disk_with image x = record {
    geometry = x.geometry;
    sizes = has_given x.geometry;
    loaded = loaded_with (known args.name.now) maps args (given x.geometry) x.geometry image x.loaded;
  }

-- a fault of loading it
disk_fault_left_out : (known : List ℕ → KnownRaw) (maps : KnownMaps) (args : ImageArgs) → args.sizes ≡ None → (fault : Fault) →
    IsScanFault (known args.name.now) maps args fault →
    IsGeometryFault (known args.name.now) maps args fault
    ⊎ ((s : GivenSizes) × AreFoundFor known maps args s × IsScanFault (known args.name.now) maps (with_sizes args s) fault)
disk_fault_left_out known maps args out =
    sized_fault_with known maps args out _ (λ s. IsDiskFault (known args.name.now) maps (with_sizes args s))
    (λ g. disk_fault_with (known args.name.now) maps args (given g) g)

-- ---- one extent

module _ (known : List ℕ → KnownRaw) (maps : KnownMaps) (args : ItemsArgs) (out : args.image.sizes ≡ None) where
  abbrev items_with : GivenSizes → ItemsArgs
  items_with s = record args { image = with_sizes args.image s }

  places_with : (h : Sizes) → AreInDisk (known args.image.name.now) maps args h →
      AreInDisk (known args.image.name.now) maps (items_with (given h)) h
  places_with h x = record { sizes = has_given h; in_disk = x.in_disk; in_extent = x.in_extent }

  items_why_with : (g : Sizes) (fault : Fault) →
      IsPlaceFault args.extent (given_pointer args g) g fault
      ⊎ (AreInDisk (known args.image.name.now) maps args g × IsDiskFault (known args.image.name.now) maps args.image g fault) →
      IsPlaceFault args.extent (given_pointer args g) g fault
      ⊎ (AreInDisk (known args.image.name.now) maps (items_with (given g)) g
      × IsDiskFault (known args.image.name.now) maps (with_sizes args.image (given g)) g fault)
  items_why_with g fault (inl is) = inl is
  items_why_with g fault (inr is) =
      inr (places_with g is.0, disk_fault_with (known args.image.name.now) maps args.image (given g) g fault is.1)

-- ---- one shard

module _ (known : List ℕ → KnownRaw) (maps : KnownMaps) (args : ShardArgs) (out : args.scan.image.sizes ≡ None) where
  abbrev shard_with : GivenSizes → ShardArgs
  shard_with s = record args { scan = record args.scan { image = with_sizes args.scan.image s } }

  named_with : (g : Sizes) (id : ShardId) → IsNamed (known args.scan.image.name.now) maps args g id →
      IsNamed (known args.scan.image.name.now) maps (shard_with (given g)) g id
  named_with g id x = record { sizes = has_given g; id_is = x.id_is }

  read_with : {id : ShardId} {image : Image} {by : Option (List Locator)} {answer : ShardAnswer} (g : Sizes) →
      IsShardRead (known args.scan.image.name.now) maps args g id image by answer →
      IsShardRead (known args.scan.image.name.now) maps (shard_with (given g)) g id image by answer
  read_with g x = record { loaded = with_runs (given g) x.loaded; answered = x.answered }

  shard_read_with : (g : Sizes) (id : ShardId) (fault : Fault) →
      IsRunsFault (known args.scan.image.name.now) maps args.scan.image args.runs.items g fault
      ⊎ IsShardLost (known args.scan.image.name.now) maps args g id fault →
      IsRunsFault (known args.scan.image.name.now) maps (with_sizes args.scan.image (given g)) args.runs.items g fault
      ⊎ IsShardLost (known args.scan.image.name.now) maps (shard_with (given g)) g id fault
  shard_read_with g id fault (inl is) =
      inl (runs_fault_with (known args.scan.image.name.now) maps args.scan.image args.runs.items (given g) g fault is)
  shard_read_with g id fault (inr x) =
      inr (record { image = x.image; given = x.given; answer = x.answer; is_read = read_with g x.is_read; why = x.why })

  shard_why_with : (g : Sizes) (fault : Fault) →
      IsIdFault args.id fault
      ⊎ ((id : ShardId) × IsNamed (known args.scan.image.name.now) maps args g id
      × (IsRunsFault (known args.scan.image.name.now) maps args.scan.image args.runs.items g fault
      ⊎ IsShardLost (known args.scan.image.name.now) maps args g id fault)) →
      IsIdFault args.id fault
      ⊎ ((id : ShardId) × IsNamed (known args.scan.image.name.now) maps (shard_with (given g)) g id
      × (IsRunsFault (known args.scan.image.name.now) maps (with_sizes args.scan.image (given g)) args.runs.items g fault
      ⊎ IsShardLost (known args.scan.image.name.now) maps (shard_with (given g)) g id fault))
  shard_why_with g fault (inl is) = inl is
  shard_why_with g fault (inr is) = inr (is.0, named_with g is.0 is.1, shard_read_with g is.0 fault is.2)

-- ---- all shards

module _ (known : List ℕ → KnownRaw) (maps : KnownMaps) (args : ShardsArgs) (out : args.scan.image.sizes ≡ None) where
  abbrev shards_with : GivenSizes → ShardsArgs
  shards_with s = record args { scan = record args.scan { image = with_sizes args.scan.image s } }

  shards_disk_with : {image : Image} {by : Option (List Locator)} (x : IsShardsDisk (known args.scan.image.name.now) maps args image by) →
      IsShardsDisk (known args.scan.image.name.now) maps (shards_with (given x.geometry)) image by
  shards_disk_with x = record { geometry = x.geometry; sizes = has_given x.geometry; loaded = with_runs (given x.geometry) x.loaded }

-- ---- each request

-- an answer without sizes is one with sizes that are found
pub answer_left_out : (known : List ℕ → KnownRaw) (maps : KnownMaps) (request : Request) (text : List ℕ) (outcome : Outcome) →
    IsAnswerOf known maps request text outcome → LeavesOut request →
    (s : GivenSizes) × FindsSizes known maps request s × IsAnswerOf known maps (request_with request s) text outcome
answer_left_out known maps Demo text outcome x out = absurd out
answer_left_out known maps (Items args) text outcome x out = (
  given x.geometry,
  found_for known maps args.image x.geometry out x.places.sizes,
  record {
    geometry = x.geometry;
    places = places_with known maps args out x.geometry x.places;
    image = x.image;
    loaded = loaded_with (known args.image.name.now) maps args.image (given x.geometry) x.geometry x.image x.loaded;
    listed = x.listed;
  },
)
answer_left_out known maps (Scan wanted args) text outcome x out = (
  given x.1.disk.geometry,
  found_for known maps args.image x.1.disk.geometry out x.1.disk.sizes,
  (x.0, record { disk = disk_with known maps args.image out x.0 x.1.disk; answered = x.1.answered }),
)
answer_left_out known maps (Manifest args) text outcome x out = absurd out
answer_left_out known maps (Compare args) text outcome x out = absurd out
answer_left_out known maps (Shard args) text outcome x out = (
  given x.2.geometry,
  found_for known maps args.scan.image x.2.geometry out x.2.named.sizes,
  (
    x.0,
    x.1,
    record {
      geometry = x.2.geometry;
      id = x.2.id;
      named = named_with known maps args out x.2.geometry x.2.id x.2.named;
      answer = x.2.answer;
      is_read = read_with known maps args out x.2.geometry x.2.is_read;
      remarks = x.2.remarks;
      are_remarks = x.2.are_remarks;
      written = x.2.written;
    },
  ),
)
answer_left_out known maps (Shards args) text outcome x out = (
  given x.2.disk.geometry,
  found_for known maps args.scan.image x.2.disk.geometry out x.2.disk.sizes,
  (x.0, x.1, record { disk = shards_disk_with known maps args out x.2.disk; archived = x.2.archived }),
)
answer_left_out known maps (Superblocks args) text outcome x out = (
  given x.disk.geometry,
  found_for known maps args x.disk.geometry out x.disk.sizes,
  record { image = x.image; disk = disk_with known maps args out x.image x.disk; answered = x.answered },
)
answer_left_out known maps (sizes_of_image args) text outcome x out = absurd out

-- a fault without sizes is one of finding them, or one with sizes that are found
pub fault_left_out : (known : List ℕ → KnownRaw) (maps : KnownMaps) (request : Request) (fault : Fault) →
    IsFaultOf known maps request fault → LeavesOut request →
    IsFindingFault known maps request fault
    ⊎ ((s : GivenSizes) × FindsSizes known maps request s × IsFaultOf known maps (request_with request s) fault)
fault_left_out known maps Demo fault is out = absurd out
fault_left_out known maps (Items args) fault is out =
    sized_fault_with known maps args.image out _ (λ s g why. IsPlaceFault args.extent (given_pointer args g) g why
    ⊎ (AreInDisk (known args.image.name.now) maps (items_with known maps args out s) g
    × IsDiskFault (known args.image.name.now) maps (with_sizes args.image s) g why))
    (items_why_with known maps args out) fault is
fault_left_out known maps (Scan wanted args) fault is out = disk_fault_left_out known maps args.image out fault is
fault_left_out known maps (Manifest args) fault is out = absurd out
fault_left_out known maps (Compare args) fault is out = absurd out
fault_left_out known maps (Shard args) fault is out =
    sized_fault_with known maps args.scan.image out _ (λ s g why. IsIdFault args.id why
    ⊎ ((id : ShardId) × IsNamed (known args.scan.image.name.now) maps (shard_with known maps args out s) g id
    × (IsRunsFault (known args.scan.image.name.now) maps (with_sizes args.scan.image s) args.runs.items g why
    ⊎ IsShardLost (known args.scan.image.name.now) maps (shard_with known maps args out s) g id why)))
    (shard_why_with known maps args out) fault is
fault_left_out known maps (Shards args) fault is out =
    sized_fault_with known maps args.scan.image out _
    (λ s. IsRunsFault (known args.scan.image.name.now) maps (with_sizes args.scan.image s) args.runs.items)
    (λ g. runs_fault_with (known args.scan.image.name.now) maps args.scan.image args.runs.items (given g) g) fault is
fault_left_out known maps (Superblocks args) fault is out = disk_fault_left_out known maps args out fault is
fault_left_out known maps (sizes_of_image args) fault is out = absurd out
