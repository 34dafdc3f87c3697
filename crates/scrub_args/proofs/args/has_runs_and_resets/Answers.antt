-- That values were found for an option is that it has values.
use Rattle.std.proofs.Common.{◌≡◌, ◌∙◌, ◌&&◌, Bool, ap, codes, false, sym, true}
use Rattle.std.specs.Prelude.{is_some}
use Rattle.clap.specs.Words.{all_of, found_of, rows_of}
use Rattle.scrub_args.proofs.ArgsFound.{found_is}
use Rattle.scrub_args.proofs.args.has_runs_and_resets.Goals as goal

pub returns-then-contains_id : goal.returns-then-contains_id
returns-then-contains_id c =
    let f = found_of c.args.matches.now in
    let run : is_some (all_of (codes "run") (rows_of f)) ≡ true =
    sym (found_is f (codes "run")) ∙ (sym c.contains_id.ensures ∙ c.if-contains_id.true) in
    (c.contains_id-then-contains_id.ensures ∙ found_is f (codes "reset"))
    ∙ sym (ap (λ (b : Bool). b && is_some (all_of (codes "reset") (rows_of f))) run)

pub returns-else-contains_id : goal.returns-else-contains_id
returns-else-contains_id c =
    let f = found_of c.args.matches.now in
    let run : is_some (all_of (codes "run") (rows_of f)) ≡ false =
    sym (found_is f (codes "run")) ∙ (sym c.contains_id.ensures ∙ c.if-contains_id.false) in
    c.if-contains_id.false ∙ sym (ap (λ (b : Bool). b && is_some (all_of (codes "reset") (rows_of f))) run)
