-- The last 32 bytes are the digest of those before them, or aren't.
use Rattle.std.proofs.Common.{◌++◌, ◌-◌, sym, ◌∙◌, ap, length, drop, take-append-drop}
use Rattle.sha2.specs.Sha256.{sha256}
use Rattle.list_facts.proofs.Slices.{ne_false, ne_true}
use Rattle.scrub_run.proofs.Runs.{no_body, body_cut}
use Rattle.scrub_run.proofs.reading.checked_body.Goals as goal

pub returns-in_err-body-clause-none : goal.returns-in_err-body-clause-none
returns-in_err-body-clause-none c = rw c.from_residual.ensures (λ s e. no_body c.args.payload.now s c.in_err-body.ensures.cases e)

pub returns-then-ne-clause-none : goal.returns-then-ne-clause-none
returns-then-ne-clause-none c = λ s e.
    let cut = body_cut c.args.payload.now s c.in_ok-body.body.now c.in_ok-body.digest.now c.in_ok-body.ensures.cases.0 c.in_ok-body.ensures.cases.1 e in
    ne_true c.digest_of.result c.in_ok-body.digest.now c.ne.result c.ne.ensures c.if-ne.true (c.digest_of.ensures ∙ ap sha256 cut.0 ∙ sym cut.1)

pub returns-clause-found : goal.returns-clause-found
returns-clause-found c =
    sym (take-append-drop (length c.args.payload.now - 32) c.args.payload.now)
    ∙ ap (λ t. t ++ drop (length c.args.payload.now - 32) c.args.payload.now) (sym c.in_ok-body.ensures.cases.0)
    ∙ ap (λ t. c.in_ok-body.body.now ++ t) (sym c.in_ok-body.ensures.cases.1 ∙ sym (ne_false c.digest_of.result c.in_ok-body.digest.now c.ne.result c.ne.ensures c.if-ne.false) ∙ c.digest_of.ensures)
