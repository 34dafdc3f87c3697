-- An argument is at most one pair, and that pair may be of no place of the disk.
use Rattle.std.proofs.Common.{arith, sym, ◌∙◌}
use Rattle.std.proofs.lemmas.Bool.{false≢true}
use Rattle.scrub_cli.proofs.commands.given_runs.named_run.Goals as goal

-- no pair, and so no place
pub returns-in_err-extent : goal.returns-in_err-extent
returns-in_err-extent c =
    let extents = c.args.geometry.extents_most in
    let bytes = c.args.geometry.extent_fits in
    rw c.from_residual.ensures (λ at named.
    let in_extents = named.in_extents in
    let in_extent = named.in_extent in
    c.in_err-extent.ensures.pair at.0 at.1 (omega (arith, in_extents, extents)) (omega (arith, in_extent, bytes)) named.pair)

pub returns-then-may_have_run : goal.returns-then-may_have_run
returns-then-may_have_run c =
    let there = c.may_have_run.ensures.0 c.if-may_have_run.true in
    record { pair = c.in_ok-extent.ensures.pair; past_first = there.0; in_extents = there.1; in_extent = there.2 }

-- the pair is of no place of the disk
pub returns-else-may_have_run : goal.returns-else-may_have_run
returns-else-may_have_run c at named =
    let one = c.in_ok-extent.ensures.only at.0 at.1 named.pair in
    let past_first = named.past_first in
    let in_extents = named.in_extents in
    let in_extent = named.in_extent in
    let is = c.may_have_run.ensures.1
    (omega (arith, one.0, past_first), omega (arith, one.0, in_extents), omega (arith, one.1, in_extent)) in
    false≢true (sym c.if-may_have_run.false ∙ is)
