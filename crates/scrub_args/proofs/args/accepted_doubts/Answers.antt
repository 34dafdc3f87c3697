-- The texts that are accepted are those that were found.
use Rattle.std.proofs.Common.{◌≡◌, ◌∙◌, codes}
use Rattle.clap.specs.Words.{found_of, rows_of}
use Rattle.clap.proofs.WalkLemmas.{raw_values-rows}
use Rattle.scrub_args.specs.Args.{accepted_of, texts}
use Rattle.scrub_args.proofs.Acceptable.{first_of_texts}
use Rattle.scrub_args.proofs.ArgsFound.{refusal_fault, texts_or_none}
use Rattle.scrub_args.proofs.args.accepted_doubts.Goals as goal

pub returns-in-Some : goal.returns-in-Some
returns-in-Some c =
    let f = found_of c.args.matches.now in
    let given = c.unwrap_or_default-texts in
    let are : texts given.result.now ≡ accepted_of (rows_of f) =
    texts_or_none c.get_strs.result given.result _ (c.get_strs.ensures ∙ raw_values-rows f (codes "accept")) given.ensures in
    refusal_fault (rows_of f) c.refused_text.result c.in-Some.text.now
    (first_of_texts given.result.now (accepted_of (rows_of f)) _ are c.in-Some.ensures) c.refused_text.ensures

pub returns : goal.returns
returns c =
    let f = found_of c.args.matches.now in
    let given = c.unwrap_or_default-texts in
    let are : texts given.result.now ≡ accepted_of (rows_of f) =
    texts_or_none c.get_strs.result given.result _ (c.get_strs.ensures ∙ raw_values-rows f (codes "accept")) given.ensures in
    record {
      given = c.new.ensures ∙ (rw c.in_ok-from_slice.ensures.items are);
      acceptable = first_of_texts given.result.now (accepted_of (rows_of f)) _ are c.in_default.ensures;
    }
