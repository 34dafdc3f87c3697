-- A pair has a colon, and a number on both sides of the first one.
use Rattle.std.proofs.Common.{None, Some, sym, ◌∙◌}
use Rattle.scrub_args.proofs.Pairs.{pair_parts}
use Rattle.scrub_args.proofs.pair.bad_page.Goals as goal

-- no colon, so no pair
pub returns-in_err-extent : goal.returns-in_err-extent
returns-in_err-extent c =
    let arg = c.args.arg.now in
    rw c.from_residual.ensures (record {
      pair = λ m n _ _ is_pair. pair_parts arg None m n c.in_err-extent.ensures.cases is_pair;
      only = tt;
    })

-- before the first colon there is no number
pub returns-in_err-decimal : goal.returns-in_err-decimal
returns-in_err-decimal c =
    let arg = c.args.arg.now in
    let parts = Some (c.in_ok-extent.extent, c.in_ok-extent.page) in
    rw c.from_residual-in_err-decimal.ensures (record {
      pair = λ m n small _ is_pair.
          c.in_err-decimal.ensures m small (pair_parts arg parts m n c.in_ok-extent.ensures.cases is_pair).0;
      only = tt;
    })

-- after it there is none
pub returns-in_err-decimal-2 : goal.returns-in_err-decimal-2
returns-in_err-decimal-2 c =
    let arg = c.args.arg.now in
    let parts = Some (c.in_ok-extent.extent, c.in_ok-extent.page) in
    rw c.from_residual-in_err-decimal-2.ensures (record {
      pair = λ m n _ small is_pair.
          c.in_err-decimal-2.ensures n small (pair_parts arg parts m n c.in_ok-extent.ensures.cases is_pair).1;
      only = tt;
    })

-- the numbers around the first colon are those that were read
pub returns-clause-only : goal.returns-clause-only
returns-clause-only c extent page is_pair =
    let parts = Some (c.in_ok-extent.extent, c.in_ok-extent.page) in
    let sides = pair_parts c.args.arg.now parts extent page c.in_ok-extent.ensures.cases is_pair in
    (sym sides.0.1 ∙ c.in_ok-decimal.ensures.1, sym sides.1.1 ∙ c.in_ok-decimal-2.ensures.1)
