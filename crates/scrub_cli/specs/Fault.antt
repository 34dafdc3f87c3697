-- The program's fault for the fault of a call; the status and the text of each.
use Rattle.std.specs.Prelude.{◌≡◌, ◌++◌, ◌∷◌, [], ℕ, Bool, List, codes}
use Rattle.std.specs.Fmt.{decimal}
use Rattle.scrub_listings.specs.Manifest.{two_digits}
use Rattle.scrub_disk.specs.declared.geometry.GeometryFault.TheVariants.{PageSize, Pages, Extents, ExtentBytes, TotalBytes}
use Rattle.scrub_disk.specs.declared.loading.LoadFault.{LoadFault}
use Rattle.scrub_disk.specs.declared.loading.LoadFault.TheVariants.{TooLong as too_long, OutOfMemory as no_memory_to_load}
use Rattle.scrub_map.specs.declared.reading.MapFault.{MapFault}
use Rattle.scrub_map.specs.declared.reading.MapFault.TheVariants.{Line, OutOfMemory as no_memory_for_map}
use Rattle.scrub_args.specs.declared.args.ArgsFault.{ArgsFault}
use Rattle.scrub_args.specs.declared.args.ArgsFault.TheVariants.{Refused, Help as help, OutOfMemory as no_memory_to_read}
use Rattle.scrub_cli.specs.declared.process.fault.Fault.{Fault}
use Rattle.scrub_cli.specs.declared.process.fault.Fault.TheVariants.{NotUtf8, Help, Args, Geometry, NoSizes, UncertainSizes, Extent, BadShard, Pointer, BadRun, BadPage, NoMap, MapLine, NoImage, TooLong, NoRun, NoShard, PayloadLost, Output, OutOfMemory}
use Rattle.scrub_cli.specs.Streams.{Gets, Held}

-- the fault of the program for a fault of loading
abbrev pub fault_of_load : LoadFault → Fault
fault_of_load no_memory_to_load = OutOfMemory
fault_of_load too_long = TooLong

-- the fault of the program for a fault of a map
abbrev pub fault_of_map : MapFault → Fault
fault_of_map no_memory_for_map = OutOfMemory
fault_of_map (Line k) = MapLine k

-- the fault of the program for a fault of the arguments
abbrev pub fault_of_args : ArgsFault → Fault
fault_of_args (help text) = Help text
fault_of_args (Refused text) = Args text
fault_of_args no_memory_to_read = OutOfMemory

-- the status of a fault: 0 for help, 1 for a shard that can't be had, 2 for arguments, the text of a map and index runs that aren't
-- there, 3 for files and the output, 4 if memory ran out
abbrev pub status_of : Fault → ℕ
status_of NotUtf8 = 2
status_of (Help text) = 0
status_of (Args text) = 2
status_of (Geometry fault) = 2
status_of NoSizes = 2
status_of UncertainSizes = 2
status_of Extent = 2
status_of (BadShard text) = 2
status_of Pointer = 2
status_of (BadRun arg) = 2
status_of (BadPage arg) = 2
status_of (NoMap name) = 3
status_of (MapLine k) = 2
status_of (NoImage name) = 3
status_of TooLong = 3
status_of (NoRun arg) = 2
status_of NoShard = 1
status_of (PayloadLost number) = 1
status_of (Output written) = 3
status_of OutOfMemory = 4

-- a line of the program's own, with its line feed
abbrev pub line : List ℕ → List ℕ
line text = codes "shardscrub: " ++ text ++ 10 ∷ []

-- the text of a fault on the error stream, with its line feed; a text of `clap` has its own
abbrev pub text_of : Fault → List ℕ
text_of NotUtf8 = line (codes "a word is not UTF-8")
text_of (Help text) = text.bytes.items
text_of (Args text) = text.bytes.items
text_of (Geometry PageSize) = line (codes "geometry refused: PageSize")
text_of (Geometry Pages) = line (codes "geometry refused: Pages")
text_of (Geometry Extents) = line (codes "geometry refused: Extents")
text_of (Geometry ExtentBytes) = line (codes "geometry refused: ExtentBytes")
text_of (Geometry TotalBytes) = line (codes "geometry refused: TotalBytes")
text_of NoSizes = line (codes "sizes not found: run shardscrub sizes")
text_of UncertainSizes =
    line
    (codes "sizes not certain: records were found, but bytes of the first 64 MiB can't be read; give --page, --pages and --extents (shardscrub sizes lists them)")
text_of Extent = line (codes "extent out of range")
text_of (BadShard text) = line (codes "shard refused: " ++ text.now)
text_of Pointer = line (codes "pointer out of range")
text_of (BadRun arg) = line (codes "run refused: " ++ arg.now)
text_of (BadPage arg) = line (codes "bad page refused: " ++ arg.now)
text_of (NoMap name) = line (codes "map cannot be opened: " ++ name.now)
text_of (MapLine k) = line (codes "map refused: line " ++ decimal k)
text_of (NoImage name) = line (codes "image cannot be opened: " ++ name.now)
text_of TooLong = line (codes "image too long")
text_of (NoRun arg) = line (codes "run not found: " ++ arg.now)
text_of NoShard = line (codes "no such shard")
text_of (PayloadLost number) = line (codes "payload lost: " ++ two_digits number)
text_of (Output written) = line (codes "output failed after " ++ decimal written ++ codes " bytes")
text_of OutOfMemory = line (codes "out of memory")

-- the run ended with the fault's status, and its error stream got the fault's text, or the beginning of it if it isn't said
-- that all was told
pub record IsReported (fault : Fault) (ended : ℕ) (told : Bool) (err : Held) : Type 0 where
  pub status : ended ≡ status_of fault
  pub text : Gets told err (text_of fault)
