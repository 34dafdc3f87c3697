-- What is computed of the command line as `clap` gets it.
use Rattle.std.proofs.Common.{◌≡◌, ◌&&◌, ◌∙◌, ap, ap₂, Bool, true, false, not, refl}
use Rattle.clap.specs.Words.{AddsSubcommand, App, Shape, app_of, is_simple, is_simple_and_free, shape_of, with_subcommand}
use Rattle.clap.specs.declared.builder.command.Command.{Command}
use Rattle.clap.proofs.OnLiterals.{clap_on_literals}
use Rattle.scrub_args.specs.CommandLine.{shardscrub_app}

-- a plain command has no argument that its subcommands inherit
no_globals : (first second globals rest : Bool) → (first && (second && (not globals && rest))) ≡ true → globals ≡ false
no_globals true true false rest plain = refl
no_globals true true true rest plain = cc
no_globals true false globals rest plain = cc
no_globals false second globals rest plain = cc

-- so an application that gets a plain command has its shape, the last
pub one_more : (old command new : Command) (app : App) (shape : Shape) → AddsSubcommand old command new → app_of old ≡ app →
    shape_of command ≡ shape → shape.is_plain ≡ true → app_of new ≡ with_subcommand app shape
one_more old command new app shape adds before is plain =
    adds.shape (no_globals _ _ _ _ (ap (λ (s : Shape). s.is_plain) is ∙ plain)) ∙ ap₂ with_subcommand before is

-- this command line is simple, so the contracts of `clap` say all that a parse by it finds
pub simple : is_simple_and_free shardscrub_app ≡ true
unfolding clap_on_literals
simple = refl

-- The command line is simple, which is all that some contracts of `clap` ask for.
pub simple_alone : is_simple shardscrub_app ≡ true
unfolding clap_on_literals
simple_alone = refl
