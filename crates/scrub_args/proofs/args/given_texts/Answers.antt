-- The texts that were found are taken.
use Rattle.std.proofs.Common.{◌∙◌, ap}
use Rattle.std.proofs.lemmas.Result.{IfOk-weaker}
use Rattle.clap.specs.Words.{found_of}
use Rattle.clap.proofs.WalkLemmas.{raw_values-rows}
use Rattle.scrub_args.specs.Args.{texts}
use Rattle.scrub_args.proofs.ArgsFound.{texts_or_none}
use Rattle.scrub_args.proofs.args.given_texts.Goals as goal

pub returns : goal.returns
returns c =
    let given = c.unwrap_or_default-given in
    let taken =
    texts_or_none c.get_strs.result given.result _ (c.get_strs.ensures ∙ raw_values-rows (found_of c.args.matches.now) c.args.name.now)
    given.ensures in
    IfOk-weaker c.from_slice.result _ _ (λ copied items. ap texts items ∙ taken) c.from_slice.ensures.items
