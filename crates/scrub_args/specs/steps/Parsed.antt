-- What `clap` finds in valid arguments, and what an error of `clap` comes to.
use Rattle.std.specs.Prelude.{◌≡◌, ◌≢◌, ◌⊎◌, ◌||◌, All, Bool, true, false, List, [], Option, None, Some, codes, IfSome, pos, unwrap_or}
use Rattle.std.specs.Str.{bytes_eq}
use Rattle.clap.specs.Words.{IsSignedIn, Row, Text, first_of, many_of, one_of, without_minus}
use Rattle.clap.specs.Values.{IsUnsignedIn}
use Rattle.clap.specs.declared.error.kind.ErrorKind.{ErrorKind}
use Rattle.clap.specs.declared.error.kind.ErrorKind.TheVariants.{DisplayHelp, DisplayVersion, OutOfMemory as no_memory}
use Rattle.clap_walk.specs.Rows.{HasNumberTo}
use Rattle.scrub_args.specs.Args.{IsFlagOf, IsWantedWith, command_of}
use Rattle.scrub_args.specs.declared.args.ScanOutput.{ScanOutput}
use Rattle.scrub_args.specs.declared.args.ArgsFault.{ArgsFault}
use Rattle.scrub_args.specs.declared.args.ArgsFault.TheVariants.{Refused, Help, OutOfMemory}

-- help comes only of a request for help; a refusal only of an error that is no request for help or the version and no
-- lack of memory; and `OutOfMemory` of any error, as its text takes memory
abbrev pub ComesOf : ArgsFault → ErrorKind → Type 0
ComesOf (Refused text) kind = (kind ≢ DisplayHelp) × (kind ≢ DisplayVersion) × (kind ≢ no_memory)
ComesOf (Help text) kind = kind ≡ DisplayHelp
ComesOf OutOfMemory kind = Unit {0}

-- a value was found for the option, and it is a whole number of 32 bits
abbrev pub HasNumber : List Row → Text → Type 0
HasNumber found name = HasNumberTo 4294967295 found name

-- a value was found for the option, and it is such a number; or none was
abbrev pub MayHaveNumber : List Row → Text → Type 0
MayHaveNumber found name = (one_of name found ≡ None) ⊎ HasNumber found name

-- a value was found for the option, and it is a whole number of 64 bits
abbrev pub HasLongNumber : List Row → Text → Type 0
HasLongNumber found name = (text : Text) × (one_of name found ≡ Some text) × IsUnsignedIn 0 18446744073709551615 text

-- a value was found for the option, and it is such a number; or none was
abbrev pub MayHaveLongNumber : List Row → Text → Type 0
MayHaveLongNumber found name = (one_of name found ≡ None) ⊎ HasLongNumber found name

-- the text is read of a value that is a whole number of 32 bits
abbrev pub IsReadNumber : Text → Type 0
IsReadNumber text = (value : Text) × (text ≡ without_minus value) × IsSignedIn (pos 0) (pos 4294967295) value

-- each value that was found for an option that may be repeated is such a number
abbrev pub HasNumbers : List Row → Text → Type 0
HasNumbers found name = All IsReadNumber (unwrap_or (many_of name found) [])

-- a text was found for the option or the argument
abbrev pub HasText : List Row → Text → Type 0
HasText found name = (text : Text) × (first_of name found ≡ Some text)

-- a flag was given or not
abbrev pub HasFlag : List Row → Text → Type 0
HasFlag found name = (is_given : Bool) × IsFlagOf found name is_given

-- the name of an image was found
abbrev pub HasImageName : List Row → Type 0
HasImageName found = HasText found (codes "image")

-- what `clap` found has all that a command on an image file needs
pub record HasImage (found : List Row) : Type 0 where
  pub page : MayHaveNumber found (codes "page")
  pub pages : MayHaveNumber found (codes "pages")
  pub extents : MayHaveNumber found (codes "extents")
  pub image : HasImageName found

-- what `clap` found has all that each command on the whole disk needs
pub record HasScan (found : List Row) : Type 0 where
  pub disk : HasImage found
  pub workers : (one_of (codes "workers") found ≡ None) ⊎ HasNumberTo 64 found (codes "workers")

-- what `clap` found has all that `summary` and `reclaimable` need
pub record HasDated (found : List Row) : Type 0 where
  pub scan : HasScan found
  pub last : MayHaveLongNumber found (codes "last")

-- what `clap` found has all that `manifest` needs
pub record HasManifest (found : List Row) : Type 0 where
  pub scan : HasScan found
  pub resets : HasNumbers found (codes "reset")

-- what `clap` found has all that `compare` needs
pub record HasCompare (found : List Row) : Type 0 where
  pub before : HasManifest found
  pub after : HasText found (codes "after")

-- what `clap` found has all that `shard` needs
pub record HasShard (found : List Row) : Type 0 where
  pub scan : HasScan found
  pub id : HasText found (codes "id")

-- what `clap` found has all that `shards` needs
pub record HasShards (found : List Row) : Type 0 where
  pub scan : HasScan found
  pub partial : HasFlag found (codes "partial")

-- what `clap` found has all that `items` needs
pub record HasItems (found : List Row) : Type 0 where
  pub disk : HasImage found
  pub extent : HasNumber found (codes "extent")
  pub pointer : (one_of (codes "pointer") found ≡ None) ⊎ HasNumber found (codes "pointer")

-- whether the command is one on the whole disk, other than `manifest`, `compare`, `shard` and `shards`
abbrev pub is_disk_command : Text → Bool
is_disk_command name =
    bytes_eq name (codes "scan") || (bytes_eq name (codes "index")
    || (bytes_eq name (codes "locators")
    || (bytes_eq name (codes "runs")
    || (bytes_eq name (codes "summary") || bytes_eq name (codes "reclaimable")))))

-- whether the command is one of them to which the generation of the last superblock can be given
abbrev pub is_dated_command : Text → Bool
is_dated_command name = bytes_eq name (codes "summary") || bytes_eq name (codes "reclaimable")

-- this is wanted by the command of this name, with the values that were found
abbrev pub IsWantedBy : Text → List Row → ScanOutput → Type 0
IsWantedBy name found wanted = (name ≡ command_of wanted) × IsWantedWith found wanted

-- what a command needs, by the first of these that it is: one to which the generation of the last superblock can be given, another one on
-- the whole disk, `manifest`, `compare`, `shard`, `shards`, `superblocks`, `sizes`, `items`, `demo`
abbrev pub HasNeeds : (dated disk manifest compare shard shards superblocks sizes items demo : Bool) → List Row → Type 0
HasNeeds true disk manifest compare shard shards superblocks sizes items demo found = HasDated found
HasNeeds false true manifest compare shard shards superblocks sizes items demo found = HasScan found
HasNeeds false false true compare shard shards superblocks sizes items demo found = HasManifest found
HasNeeds false false false true shard shards superblocks sizes items demo found = HasCompare found
HasNeeds false false false false true shards superblocks sizes items demo found = HasShard found
HasNeeds false false false false false true superblocks sizes items demo found = HasShards found
HasNeeds false false false false false false true sizes items demo found = HasImage found
HasNeeds false false false false false false false true items demo found = HasImageName found
HasNeeds false false false false false false false false true demo found = HasItems found
HasNeeds false false false false false false false false false true found = Unit {0}
HasNeeds false false false false false false false false false false found = ⊥

-- the command is one of the program's, and has all that it needs
abbrev pub IsWholeCommand : Text → List Row → Type 0
IsWholeCommand name found =
    HasNeeds (is_dated_command name) (is_disk_command name) (bytes_eq name (codes "manifest")) (bytes_eq name (codes "compare"))
    (bytes_eq name (codes "shard")) (bytes_eq name (codes "shards")) (bytes_eq name (codes "superblocks")) (bytes_eq name (codes "sizes"))
    (bytes_eq name (codes "items")) (bytes_eq name (codes "demo")) found

-- if a command was found, it is one of the program's, and has all that it needs
abbrev pub IsWholeParse : Option (Text × List Row) → Type 0
IsWholeParse command = IfSome command (λ met. IsWholeCommand met.0 met.1)
