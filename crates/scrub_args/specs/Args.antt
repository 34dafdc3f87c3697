-- What the given arguments ask for, by what `clap` finds in them.
use Rattle.std.specs.Prelude.{◌≡◌, ◌≢◌, ◌<◌, ◌≤◌, ◌^◌, ◌⊎◌, ◌&&◌, ◌||◌, ◌↔◌, ◌++◌, ◌∷◌, ℕ, Bool, List, [], Option, None, Some, map, codes, is_some, unwrap_or, option_map, MatchOption, false, true}
use Rattle.std.specs.List.{AllZip, Contains}
use Rattle.std.specs.List.Sorted.{IsStrictlyIncreasing}
use Rattle.std.specs.Borrow.{Bor}
use Rattle.std.specs.Str.Parse.{without_leading_plus}
use Rattle.clap.specs.Words.{IsAmong, Row, Text, all_of, fault_of, first_of, many_of, one_of, subcommand_of}
use Rattle.clap.specs.Values.{bool_text}
use Rattle.clap.specs.declared.error.kind.ErrorKind.{ErrorKind}
use Rattle.clap.specs.declared.error.kind.ErrorKind.TheVariants.{DisplayHelp, DisplayVersion}
use Rattle.scrub_args.specs.declared.args.GivenSizes.{GivenSizes}
use Rattle.scrub_args.specs.declared.args.ImageArgs.{ImageArgs}
use Rattle.scrub_args.specs.declared.args.ItemsArgs.{ItemsArgs}
use Rattle.scrub_args.specs.declared.args.ScanArgs.{ScanArgs}
use Rattle.scrub_args.specs.declared.args.ManifestArgs.{ManifestArgs}
use Rattle.scrub_args.specs.declared.args.CompareArgs.{CompareArgs}
use Rattle.scrub_args.specs.declared.args.ShardArgs.{ShardArgs}
use Rattle.scrub_args.specs.declared.args.ShardsArgs.{ShardsArgs}
use Rattle.scrub_args.specs.declared.args.SizesArgs.{SizesArgs}
use Rattle.scrub_args.specs.declared.args.Request.{Request}
use Rattle.scrub_args.specs.declared.args.Request.TheVariants.{Demo, Items, Scan, Manifest, Compare, Shard, Shards, Superblocks, Sizes}
use Rattle.scrub_args.specs.declared.args.ScanOutput.{ScanOutput}
use Rattle.scrub_args.specs.declared.args.ScanOutput.TheVariants.{Report, Index, Locators, Runs, Summary, Reclaimable}
use Rattle.scrub_args.specs.declared.args.ArgsFault.{ArgsFault}
use Rattle.scrub_args.specs.declared.args.ArgsFault.TheVariants.{Refused, Help, OutOfMemory}
use Rattle.scrub_args.specs.Accepting.{first_unacceptable, refusal_of}
use Rattle.scrub_args.specs.CommandLine.{shardscrub_app}
use Rattle.scrub_args.specs.Pair.{IsDecimal}

-- the texts of some arguments
abbrev pub texts : List (Bor Text) → List Text
texts args = map (λ arg. arg.now) args

-- the text is this number below 2^32 in decimal digits; a plus before them counts for nothing
abbrev pub IsNumeralOf : Text → ℕ → Type 0
IsNumeralOf text n = IsDecimal (without_leading_plus text) n × (n < 2 ^ 32)

-- the number that was found for an option; -0 is read as 0
abbrev pub IsNumberOf : List Row → Text → ℕ → Type 0
IsNumberOf found name n = (text : Text) × (one_of name found ≡ Some text) × IsNumeralOf text n

-- the text is this number below 2^64 in decimal digits; a plus before them counts for nothing
abbrev pub IsLongNumeralOf : Text → ℕ → Type 0
IsLongNumeralOf text n = IsDecimal (without_leading_plus text) n × (n < 2 ^ 64)

-- the number of 64 bits that was found for an option
abbrev pub IsLongNumberOf : List Row → Text → ℕ → Type 0
IsLongNumberOf found name n = (text : Text) × (one_of name found ≡ Some text) × IsLongNumeralOf text n

-- the numbers that were found for an option that may be repeated, in order; -0 is read as 0
abbrev pub AreNumbersOf : List Row → Text → List ℕ → Type 0
AreNumbersOf found name numbers = AllZip IsNumeralOf (unwrap_or (many_of name found) []) numbers

-- the texts that were found for an option or an argument that may be repeated, in order
abbrev pub AreTextsOf : List Row → Text → List (Bor Text) → Type 0
AreTextsOf found name given = texts given ≡ unwrap_or (all_of name found) []

-- whether a flag was given: the text that was found for it is true or false
abbrev pub IsFlagOf : List Row → Text → Bool → Type 0
IsFlagOf found name is_given = one_of name found ≡ Some (bool_text is_given)

-- the sizes that were found, or none of them
abbrev pub AreSizesGiven : List Row → Option GivenSizes → Type 0
AreSizesGiven found None =
    (one_of (codes "page") found ≡ None) × (one_of (codes "pages") found ≡ None) × (one_of (codes "extents") found ≡ None)
AreSizesGiven found (Some s) =
    IsNumberOf found (codes "page") s.page × IsNumberOf found (codes "pages") s.pages × IsNumberOf found (codes "extents") s.extents

-- some of the sizes were found, but not all
pub record HasPartOfSizes (found : List Row) : Type 0 where
  pub some : (is_some (one_of (codes "page") found) || is_some (one_of (codes "pages") found) || is_some (one_of (codes "extents") found)) ≡ true
  pub not_all : (is_some (one_of (codes "page") found) && is_some (one_of (codes "pages") found) && is_some (one_of (codes "extents") found)) ≡ false

-- the values found for a disk and its image: sizes, name, unreadable pages, and the map
pub record AreImageArgs (found : List Row) (args : ImageArgs) : Type 0 where
  pub sizes : AreSizesGiven found args.sizes
  pub name : first_of (codes "image") found ≡ Some args.name.now
  pub bad_pages : AreTextsOf found (codes "bad-pages") args.bad_pages.items
  pub map_name : option_map (λ arg. arg.now) args.map ≡ first_of (codes "map") found

-- the number of workers: 1 if none was found, else the number that was, up to 64
abbrev pub IsWorkersOf : List Row → ℕ → Type 0
IsWorkersOf found n = ((one_of (codes "workers") found ≡ None) × (n ≡ 1)) ⊎ (IsNumberOf found (codes "workers") n × (n ≤ 64))

-- the values found for each command that scans the whole disk
pub record AreScanArgs (found : List Row) (args : ScanArgs) : Type 0 where
  pub image : AreImageArgs found args.image
  pub workers : IsWorkersOf found args.workers

-- the extents to be taken as reset: each number that was found, once, ascending
pub record AreResetsOf (found : List Row) (resets : List ℕ) : Type 0 where
  pub numbers : List ℕ
  pub given : AreNumbersOf found (codes "reset") numbers
  pub rising : IsStrictlyIncreasing resets
  pub same : (n : ℕ) → Contains numbers n ↔ Contains resets n

-- the values found for a disk some of whose extents may be taken as reset
pub record AreResetArgs (found : List Row) (args : ManifestArgs) : Type 0 where
  pub scan : AreScanArgs found args.scan
  pub resets : AreResetsOf found args.resets.items

-- index runs were found, and extents to be taken as reset as well
abbrev pub has_runs_and_resets : List Row → Bool
has_runs_and_resets found = is_some (all_of (codes "run") found) && is_some (all_of (codes "reset") found)

-- the values found for `manifest`: index runs or extents to be taken as reset, but not both
pub record AreManifestArgs (found : List Row) (args : ManifestArgs) : Type 0 where
  pub disk : AreResetArgs found args
  pub runs : AreTextsOf found (codes "run") args.runs.items
  pub one : has_runs_and_resets found ≡ false

-- the values found for `compare`: those for the earlier image, no index runs, and the later image
pub record AreCompareArgs (found : List Row) (args : CompareArgs) : Type 0 where
  pub before : AreResetArgs found args.before
  pub no_runs : args.before.runs.items ≡ []
  pub after : first_of (codes "after") found ≡ Some args.after.now

-- the values found for `shard`
pub record AreShardArgs (found : List Row) (args : ShardArgs) : Type 0 where
  pub scan : AreScanArgs found args.scan
  pub id : first_of (codes "id") found ≡ Some args.id.now
  pub runs : AreTextsOf found (codes "run") args.runs.items

-- the values found for `shards`
pub record AreShardsArgs (found : List Row) (args : ShardsArgs) : Type 0 where
  pub scan : AreScanArgs found args.scan
  pub runs : AreTextsOf found (codes "run") args.runs.items
  pub is_partial : IsFlagOf found (codes "partial") args.is_partial

-- the lines of doubts that were found to accept
abbrev pub accepted_of : List Row → List Text
accepted_of found = unwrap_or (all_of (codes "accept") found) []

-- the lines of doubts that are accepted: those that were found, if each can be
pub record AreAccepted (found : List Row) (accepted : List (List ℕ)) : Type 0 where
  pub given : accepted ≡ accepted_of found
  pub acceptable : first_unacceptable (accepted_of found) ≡ None

-- the command by which this is wanted of a disk
abbrev pub command_of : ScanOutput → Text
command_of Report = codes "scan"
command_of Index = codes "index"
command_of Locators = codes "locators"
command_of Runs = codes "runs"
command_of (Summary last) = codes "summary"
command_of (Reclaimable accepted last) = codes "reclaimable"

-- the generation of the last superblock that was written: the number that was found, or None if none was
abbrev pub IsLastOf : List Row → Option ℕ → Type 0
IsLastOf found last = MatchOption last (one_of (codes "last") found ≡ None) (IsLongNumberOf found (codes "last"))

-- what is wanted has the values that were found: the generation of the last superblock, and the doubts that are accepted
abbrev pub IsWantedWith : List Row → ScanOutput → Type 0
IsWantedWith found (Summary last) = IsLastOf found last
IsWantedWith found (Reclaimable accepted last) = AreAccepted found accepted × IsLastOf found last
IsWantedWith found wanted = Unit {0}

-- the values found for `sizes`
pub record AreSizesArgs (found : List Row) (args : SizesArgs) : Type 0 where
  pub name : first_of (codes "image") found ≡ Some args.name.now
  pub map_name : option_map (λ arg. arg.now) args.map ≡ first_of (codes "map") found

-- the values found for `items`
pub record AreItemsArgs (found : List Row) (args : ItemsArgs) : Type 0 where
  pub image : AreImageArgs found args.image
  pub extent : IsNumberOf found (codes "extent") args.extent
  pub pointer : MatchOption args.pointer (one_of (codes "pointer") found ≡ None) (IsNumberOf found (codes "pointer"))

-- what a command asks for, with the values found for it; without a command that is the demo
abbrev pub IsAskedBy : Option (Text × List Row) → Request → Type 0
IsAskedBy command Demo = (command ≡ None) ⊎ ((found : List Row) × (command ≡ Some (codes "demo", found)))
IsAskedBy command (Items args) = (found : List Row) × (command ≡ Some (codes "items", found)) × AreItemsArgs found args
IsAskedBy command (Scan wanted args) =
    (found : List Row) × (command ≡ Some (command_of wanted, found)) × IsWantedWith found wanted × AreScanArgs found args
IsAskedBy command (Manifest args) =
    (found : List Row) × (command ≡ Some (codes "manifest", found)) × AreManifestArgs found args
IsAskedBy command (Compare args) = (found : List Row) × (command ≡ Some (codes "compare", found)) × AreCompareArgs found args
IsAskedBy command (Shard args) = (found : List Row) × (command ≡ Some (codes "shard", found)) × AreShardArgs found args
IsAskedBy command (Shards args) = (found : List Row) × (command ≡ Some (codes "shards", found)) × AreShardsArgs found args
IsAskedBy command (Superblocks args) =
    (found : List Row) × (command ≡ Some (codes "superblocks", found)) × AreImageArgs found args
IsAskedBy command (Sizes args) = (found : List Row) × (command ≡ Some (codes "sizes", found)) × AreSizesArgs found args

-- the arguments name a command: `clap` finds no fault in them, and finds this one with its values
abbrev pub NameCommand : List Text → Request → Type 0
NameCommand args request = (fault_of shardscrub_app args ≡ []) × IsAskedBy (subcommand_of shardscrub_app args) request

-- the arguments ask for the version, as `clap` finds
abbrev pub AskForVersion : List Text → Type 0
AskForVersion args = IsAmong DisplayVersion (fault_of shardscrub_app args)

-- the arguments ask for help, or may: `help` with a command that doesn't exist is refused
abbrev pub AskForHelp : List Text → Type 0
AskForHelp args = IsAmong DisplayHelp (fault_of shardscrub_app args)

-- this is the refusal of the first text that was found to accept, and can't be
abbrev pub IsTextRefusal : List Row → List ℕ → Type 0
IsTextRefusal found refusal =
    (text : Text) × (first_unacceptable (accepted_of found) ≡ Some text) × (refusal ≡ refusal_of text)

-- the command is `reclaimable`, and this is the refusal of one of its texts
abbrev pub RefusesText : Option (Text × List Row) → List ℕ → Type 0
RefusesText command refusal = (found : List Row) × (command ≡ Some (codes "reclaimable", found)) × IsTextRefusal found refusal

-- the refusal of some of the sizes without the others
abbrev pub part_text : List ℕ
part_text =
    codes "error: the following arguments are given together or not at all:"
    ++ (10 ∷ codes "  --page <BYTES>") ++ (10 ∷ codes "  --pages <COUNT>") ++ (10 ∷ codes "  --extents <COUNT>")
    ++ (10 ∷ 10 ∷ codes "For more information, try '--help'.") ++ 10 ∷ []

-- some of the sizes were found, but not all, and this is the refusal of that
abbrev pub IsPartRefusal : List Row → List ℕ → Type 0
IsPartRefusal found refusal = HasPartOfSizes found × (refusal ≡ part_text)

-- the command has some of the sizes, but not all, and this is the refusal of that
abbrev pub RefusesPart : Option (Text × List Row) → List ℕ → Type 0
RefusesPart command refusal =
    (name : Text) × (found : List Row) × (command ≡ Some (name, found)) × IsPartRefusal found refusal

-- the refusal of index runs beside extents to be taken as reset
abbrev pub both_text : List ℕ
both_text =
    codes "error: the argument '--run <EXTENT:OFFSET>' cannot be used with '--reset <EXTENT>'"
    ++ (10 ∷ 10 ∷ codes "For more information, try '--help'.") ++ 10 ∷ []

-- both were found, and this is the refusal of that
abbrev pub IsBothRefusal : List Row → List ℕ → Type 0
IsBothRefusal found refusal = (has_runs_and_resets found ≡ true) × (refusal ≡ both_text)

-- the command is `manifest`, both were found, and this is the refusal of that
abbrev pub RefusesBoth : Option (Text × List Row) → List ℕ → Type 0
RefusesBoth command refusal = (found : List Row) × (command ≡ Some (codes "manifest", found)) × IsBothRefusal found refusal

-- the values found for a command are no request, and this is their refusal: a text can't be accepted, some of the sizes are
-- missing, or there are index runs beside extents to be taken as reset
abbrev pub RefusesRows : Option (Text × List Row) → List ℕ → Type 0
RefusesRows command refusal = RefusesText command refusal ⊎ (RefusesPart command refusal ⊎ RefusesBoth command refusal)

-- `clap` refuses the arguments, and not for help or the version, and this is what it says; or it finds no fault in them, and
-- this is the refusal of a text that can't be accepted, of some of the sizes without the others, or of index runs beside
-- extents to be taken as reset
abbrev pub AreRefused : List Text → List ℕ → Type 0
AreRefused args refusal =
    ((kind : ErrorKind) × (kind ≢ DisplayHelp) × (kind ≢ DisplayVersion) × IsAmong kind (fault_of shardscrub_app args))
    ⊎ ((fault_of shardscrub_app args ≡ []) × RefusesRows (subcommand_of shardscrub_app args) refusal)

-- why arguments ask for nothing: they ask for help, they are refused, or memory ran out
abbrev pub IsArgsFault : List Text → ArgsFault → Type 0
IsArgsFault args (Help text) = AskForHelp args
IsArgsFault args (Refused text) = AreRefused args text.bytes.items
IsArgsFault args OutOfMemory = Unit {0}

-- the refusal with this text, or memory ran out for it
abbrev pub IsRefusal : List ℕ → ArgsFault → Type 0
IsRefusal refusal (Help text) = ⊥
IsRefusal refusal (Refused text) = text.bytes.items ≡ refusal
IsRefusal refusal OutOfMemory = Unit {0}

-- why the values found for a command on an image are no request: some of the sizes are missing, or memory ran out
abbrev pub IsPartFault : List Row → ArgsFault → Type 0
IsPartFault found (Help text) = ⊥
IsPartFault found (Refused text) = IsPartRefusal found text.bytes.items
IsPartFault found OutOfMemory = Unit {0}

-- why the values found for `manifest` are no request: some of the sizes are missing, there are index runs beside extents to be
-- taken as reset, or memory ran out
abbrev pub IsManifestArgsFault : List Row → ArgsFault → Type 0
IsManifestArgsFault found (Help text) = ⊥
IsManifestArgsFault found (Refused text) = IsPartRefusal found text.bytes.items ⊎ IsBothRefusal found text.bytes.items
IsManifestArgsFault found OutOfMemory = Unit {0}

-- why the texts that were found to accept aren't: one can't be accepted, or memory ran out
abbrev pub IsTextFault : List Row → ArgsFault → Type 0
IsTextFault found (Help text) = ⊥
IsTextFault found (Refused text) = IsTextRefusal found text.bytes.items
IsTextFault found OutOfMemory = Unit {0}

-- why the values found for a command are no request
abbrev pub IsRowsFault : Option (Text × List Row) → ArgsFault → Type 0
IsRowsFault command (Help text) = ⊥
IsRowsFault command (Refused text) = RefusesRows command text.bytes.items
IsRowsFault command OutOfMemory = Unit {0}
