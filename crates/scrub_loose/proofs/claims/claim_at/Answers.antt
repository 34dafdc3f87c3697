-- A claim begins with the first byte of a frame.
use Rattle.std.proofs.Common.{◌∙◌}
use Rattle.std.proofs.lemmas.List.{get_or_default}
use Rattle.scrub_loose.proofs.ClaimedBytes.{claim_first}
use Rattle.scrub_loose.proofs.claims.claim_at.Goals as goal

pub returns-then-index-clause-none : goal.returns-then-index-clause-none
returns-then-index-clause-none c =
    let x = c.args.extent.now in
    λ h k.
    c.if-index.true
    (c.index.ensures ∙ get_or_default x.bytes.items c.args.place c.index.result.now 0 c.requires.place
    ∙ claim_first x.page x.bytes.items x.readable.items c.args.place h k)
