-- The index runs that arguments give, to go by in place of a superblock: the places that they name, and the locators of the runs
-- at these places.
use Rattle.std.specs.Prelude.{◌≡◌, ◌<◌, ◌≤◌, ◌⊎◌, ◌&&◌, ◌==◌, ◌++◌, ◌∷◌, [], ℕ, Bool, List, Option, None, Some, length, take, fold, slice_index_or, if◌then◌else◌}
use Rattle.std.specs.Borrow.{Bor}
use Rattle.std.specs.List.{AllZip, list_any}
use Rattle.scrub_disk.specs.declared.geometry.Geometry.{Geometry as Sizes}
use Rattle.scrub_disk.specs.Image.{Image, extent_bytes}
use Rattle.scrub_frame.specs.declared.locator.Locator.{Locator}
use Rattle.scrub_loose.specs.Outer.{IsRunThere}
use Rattle.scrub_args.specs.Pair.{IsPair}
use Rattle.scrub_args.specs.declared.args.ImageArgs.{ImageArgs}
use Rattle.scrub_cli.specs.declared.process.fault.Fault.{Fault}
use Rattle.scrub_cli.specs.declared.process.fault.Fault.TheVariants.{BadRun, NoRun, OutOfMemory}
use Rattle.scrub_cli.specs.DiskImage.{IsDiskFault, IsLoadedDisk}
use Rattle.scrub_cli.specs.KnownFiles.{KnownMaps, KnownRaw}

-- ---- places

-- the argument is a pair of an extent of a disk of these sizes, which isn't extent 0, and an offset in that extent
pub record NamesRunPlace (g : Sizes) (arg : List ℕ) (at : ℕ × ℕ) : Type 0 where
  pub pair : IsPair arg at.0 at.1
  pub past_first : 1 ≤ at.0
  pub in_extents : at.0 < g.extents
  pub in_extent : at.1 < extent_bytes g

-- the arguments name these places, in order
abbrev pub NameRuns : Sizes → List (Bor (List ℕ)) → List (ℕ × ℕ) → Type 0
NameRuns g args places = AllZip (λ arg at. NamesRunPlace g arg.now at) args places

-- each of the arguments names a place
abbrev pub EachNamesRun : Sizes → List (Bor (List ℕ)) → Type 0
EachNamesRun g args = (places : List (ℕ × ℕ)) × NameRuns g args places

-- the first of the arguments that names no place
pub record IsFirstBadRun (g : Sizes) (args : List (Bor (List ℕ))) (arg : Bor (List ℕ)) : Type 0 where
  pub place : ℕ
  pub within : place < length args
  pub stands : arg ≡ slice_index_or args place arg
  pub places : List (ℕ × ℕ)
  pub before : NameRuns g (take place args) places
  pub names_none : (at : ℕ × ℕ) → ¬ NamesRunPlace g arg.now at

-- why arguments name no places: this is the first that doesn't
abbrev pub IsBadRunFault : Sizes → List (Bor (List ℕ)) → Fault → Type 0
IsBadRunFault g args (BadRun arg) = IsFirstBadRun g args arg
IsBadRunFault g args OutOfMemory = Unit {0}
IsBadRunFault g args fault = ⊥

-- ---- runs

-- index runs with these locators are at these places, in order
abbrev pub AreRunsAt : Image → List (ℕ × ℕ) → List Locator → Type 0
AreRunsAt image places runs = AllZip (λ at l. IsRunThere image at.0 at.1 l) places runs

-- the locator is of this place
abbrev pub is_of_place : ℕ → ℕ → Locator → Bool
is_of_place extent offset l = l.extent == extent && l.offset == offset

-- the locators with one more behind them, unless one of its place is among them
abbrev pub with_one : List Locator → Locator → List Locator
with_one runs l = if list_any (is_of_place l.extent l.offset) runs then runs else runs ++ l ∷ []

-- the locators, without those of a place that an earlier one has
abbrev pub once : List Locator → List Locator
once runs = fold with_one [] runs

-- the arguments give these index runs of an image: there is one at each place that they name, and a place that is named more than
-- once counts where it is named first
pub record GiveRuns (image : Image) (args : List (Bor (List ℕ))) (runs : List Locator) : Type 0 where
  pub places : List (ℕ × ℕ)
  pub named : NameRuns image.geometry args places
  pub all : List Locator
  pub there : AreRunsAt image places all
  pub runs_are : runs ≡ once all

-- what is given by arguments: these index runs, or nothing if there are none
abbrev pub IsGivenBy : Image → List (Bor (List ℕ)) → Option (List Locator) → Type 0
IsGivenBy image args None = args ≡ []
IsGivenBy image args (Some runs) = (0 < length args) × GiveRuns image args runs

-- the first of the arguments at whose place there is no index run; each of them names a place
pub record IsFirstNoRun (image : Image) (args : List (Bor (List ℕ))) (arg : Bor (List ℕ)) : Type 0 where
  pub place : ℕ
  pub within : place < length args
  pub stands : arg ≡ slice_index_or args place arg
  pub places : List (ℕ × ℕ)
  pub named : NameRuns image.geometry args places
  pub runs : List Locator
  pub before : AreRunsAt image (take place places) runs
  pub at : ℕ × ℕ
  pub names : NamesRunPlace image.geometry arg.now at
  pub none : (l : Locator) → ¬ IsRunThere image at.0 at.1 l

-- why arguments that name places give no runs: there is none at the place of this one, which is the first such; or memory ran out
abbrev pub IsNoRunFault : Image → List (Bor (List ℕ)) → Fault → Type 0
IsNoRunFault image args (NoRun arg) = IsFirstNoRun image args arg
IsNoRunFault image args OutOfMemory = Unit {0}
IsNoRunFault image args fault = ⊥

-- ---- with the disk

-- an image of these sizes, loaded from this raw image, and what is given by arguments for index runs
pub record IsLoadedWithRuns (known : KnownRaw) (maps : KnownMaps) (args : ImageArgs) (words : List (Bor (List ℕ))) (g : Sizes)
    (image : Image) (given : Option (List Locator)) : Type 0 where
  pub loaded : IsLoadedDisk known maps args g image
  pub gives : IsGivenBy image words given

-- why no disk of these sizes is loaded that has the index runs which arguments give: an argument that names no place, then the disk,
-- then a place without a run, each only if nothing before it failed; or memory ran out, anywhere
abbrev pub IsRunsFault : KnownRaw → KnownMaps → ImageArgs → List (Bor (List ℕ)) → Sizes → Fault → Type 0
IsRunsFault known maps args words g fault =
    IsBadRunFault g words fault
    ⊎ (EachNamesRun g words × IsDiskFault known maps args g fault
    ⊎ ((image : Image) × IsLoadedDisk known maps args g image × IsNoRunFault image words fault))
