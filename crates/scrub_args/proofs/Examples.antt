-- What the definitions find in worked arguments: the example of the help of `items`, refusals, help and version.
use Rattle.std.proofs.Common.{◌≡◌, List, [], ◌∷◌, ◌++◌, None, Some, refl, codes, Option, inl, true}
use Rattle.std.specs.Prelude.{option_map}
use Rattle.clap.specs.Words.{Row, Text, all_of, fault_of, first_of, many_of, one_of, subcommand_of, without_minus}
use Rattle.clap.proofs.OnLiterals.{clap_on_literals}
use Rattle.clap.specs.declared.error.kind.ErrorKind.TheVariants.{ArgumentConflict, DisplayHelp, DisplayVersion, InvalidSubcommand, MissingRequiredArgument, TooManyValues, UnknownArgument, ValueValidation}
use Rattle.scrub_args.specs.declared.args.Request.TheVariants.{Demo}
use Rattle.scrub_args.specs.Args.{NameCommand, has_runs_and_resets}
use Rattle.scrub_args.specs.CommandLine.{shardscrub_app}

abbrev example : List Text
example =
    codes "items" ∷ codes "--page" ∷ codes "64" ∷ codes "--pages" ∷ codes "4" ∷ codes "--extents" ∷ codes "3"
    ∷ codes "--extent" ∷ codes "1" ∷ codes "--pointer" ∷ codes "41" ∷ codes "examples/one-chunk.img" ∷ []

pub example_is_clean : fault_of shardscrub_app example ≡ []
unfolding clap_on_literals
example_is_clean = refl

pub example_has_page :
    option_map (λ p. one_of (codes "page") p.1) (subcommand_of shardscrub_app example) ≡ Some (Some (codes "64"))
unfolding clap_on_literals
example_has_page = refl

-- the arguments of `items` in the order of its help, with any values, each number joined to its option
abbrev spelled : (page pages extents extent image : Text) → List Text
spelled page pages extents extent image =
    codes "items" ∷ (codes "--page=" ++ page) ∷ (codes "--pages=" ++ pages) ∷ (codes "--extents=" ++ extents)
    ∷ (codes "--extent=" ++ extent) ∷ codes "--" ∷ image ∷ []

-- the rows of what `items` was given
abbrev rows_in : Option (Text × List Row) → List Row
rows_in None = []
rows_in (Some met) = met.1

pub spelled_is_found : (page pages extents extent image : Text) →
    let rows = rows_in (subcommand_of shardscrub_app (spelled page pages extents extent image)) in
    (one_of (codes "page") rows ≡ Some (without_minus page)) × (one_of (codes "pages") rows ≡ Some (without_minus pages))
    × (one_of (codes "extents") rows ≡ Some (without_minus extents))
    × (one_of (codes "extent") rows ≡ Some (without_minus extent)) × (one_of (codes "pointer") rows ≡ None)
    × (first_of (codes "image") rows ≡ Some image) × (all_of (codes "bad-pages") rows ≡ None)
unfolding clap_on_literals
spelled_is_found page pages extents extent image = (refl, refl, refl, refl, refl, refl, refl)

-- and `clap` finds no fault in them, whatever the image's name
pub spelled_is_clean : (image : Text) →
    fault_of shardscrub_app (spelled (codes "64") (codes "4") (codes "3") (codes "1") image) ≡ []
unfolding clap_on_literals
spelled_is_clean image = refl

-- no command of this name, a missing option, no number, and help
pub no_command : fault_of shardscrub_app (codes "repair" ∷ []) ≡ UnknownArgument ∷ InvalidSubcommand ∷ []
unfolding clap_on_literals
no_command = refl

pub no_extents :
    fault_of shardscrub_app (codes "index" ∷ codes "--page=64" ∷ codes "--pages=4" ∷ codes "x" ∷ [])
    ≡ MissingRequiredArgument ∷ []
unfolding clap_on_literals
no_extents = refl

pub no_number : fault_of shardscrub_app (codes "items" ∷ codes "--page=0x40" ∷ []) ≡ ValueValidation ∷ []
unfolding clap_on_literals
no_number = refl

pub help : fault_of shardscrub_app (codes "items" ∷ codes "--help" ∷ []) ≡ DisplayHelp ∷ []
unfolding clap_on_literals
help = refl

-- the version, by either name, but only before a command
pub version : fault_of shardscrub_app (codes "--version" ∷ []) ≡ DisplayVersion ∷ []
unfolding clap_on_literals
version = refl

pub version_in_short : fault_of shardscrub_app (codes "-V" ∷ []) ≡ DisplayVersion ∷ []
unfolding clap_on_literals
version_in_short = refl

pub no_version_of_a_command : fault_of shardscrub_app (codes "demo" ∷ codes "--version" ∷ []) ≡ UnknownArgument ∷ []
unfolding clap_on_literals
no_version_of_a_command = refl

-- no arguments ask for the demo
pub no_args : NameCommand [] Demo
unfolding clap_on_literals
no_args = (refl, inl refl)

-- the signs that `clap` takes before a number: a plus, and the minus of -0
pub signs :
    fault_of shardscrub_app (codes "items" ∷ codes "--page=+64" ∷ codes "--pages=4" ∷ codes "--extents=3" ∷ codes "--extent=1"
    ∷ codes "--pointer=-0" ∷ codes "x" ∷ []) ≡ []
unfolding clap_on_literals
signs = refl

-- the command `help`: help or a refusal
pub help_word : fault_of shardscrub_app (codes "help" ∷ []) ≡ DisplayHelp ∷ InvalidSubcommand ∷ []
unfolding clap_on_literals
help_word = refl

-- extents to be taken as reset, one before the image and one after it; and one that is no number
abbrev manifest_with : Text → List Text
manifest_with reset =
    codes "manifest" ∷ codes "--page=64" ∷ codes "--pages=4" ∷ codes "--extents=3" ∷ codes "--reset" ∷ reset ∷ codes "x"
    ∷ codes "--reset=1" ∷ []

pub resets_are_found :
    option_map (λ p. many_of (codes "reset") p.1) (subcommand_of shardscrub_app (manifest_with (codes "2")))
    ≡ Some (Some (codes "2" ∷ codes "1" ∷ []))
unfolding clap_on_literals
resets_are_found = refl

pub no_number_to_reset : fault_of shardscrub_app (manifest_with (codes "x")) ≡ ValueValidation ∷ []
unfolding clap_on_literals
no_number_to_reset = refl

-- a flag that is given, and one that isn't, with places of index runs before the image and after it
abbrev shards_with : List Text → List Text
shards_with flags = codes "shards" ∷ codes "--run=2:41" ∷ (flags ++ codes "x" ∷ codes "--run" ∷ codes "3:0" ∷ [])

pub runs_are_found :
    option_map (λ p. all_of (codes "run") p.1) (subcommand_of shardscrub_app (shards_with []))
    ≡ Some (Some (codes "2:41" ∷ codes "3:0" ∷ []))
unfolding clap_on_literals
runs_are_found = refl

pub no_flag_is_found :
    option_map (λ p. one_of (codes "partial") p.1) (subcommand_of shardscrub_app (shards_with [])) ≡ Some (Some (codes "false"))
unfolding clap_on_literals
no_flag_is_found = refl

pub flag_is_found :
    option_map (λ p. one_of (codes "partial") p.1) (subcommand_of shardscrub_app (shards_with (codes "--partial" ∷ [])))
    ≡ Some (Some (codes "true"))
unfolding clap_on_literals
flag_is_found = refl

-- no fault, a flag that is given twice, and one with a value
pub flag_is_clean : fault_of shardscrub_app (shards_with (codes "--partial" ∷ [])) ≡ []
unfolding clap_on_literals
flag_is_clean = refl

pub flag_twice : fault_of shardscrub_app (shards_with (codes "--partial" ∷ codes "--partial" ∷ [])) ≡ ArgumentConflict ∷ []
unfolding clap_on_literals
flag_twice = refl

pub flag_with_value : fault_of shardscrub_app (shards_with (codes "--partial=1" ∷ [])) ≡ TooManyValues ∷ []
unfolding clap_on_literals
flag_with_value = refl

-- index runs beside extents to be taken as reset: no fault for `clap`, but the values show both
pub both_are_found :
    option_map (λ p. has_runs_and_resets p.1) (subcommand_of shardscrub_app (codes "manifest" ∷ codes "--page=64" ∷ codes "--pages=4"
    ∷ codes "--extents=3" ∷ codes "--reset=1" ∷ codes "--run=2:41" ∷ codes "x" ∷ [])) ≡ Some true
unfolding clap_on_literals
both_are_found = refl
