-- One more place.
use Rattle.std.proofs.Common.{◌∙◌, ◌+◌, ◌++◌, ◌∷◌, [], ap, arith, sym}
use Rattle.std.proofs.lemmas.List.Sums.{sum_by_push}
use Rattle.scrub_loose.specs.steps.Held.{extent_held}
use Rattle.scrub_loose.proofs.Crowds.{lengths_more}
use Rattle.scrub_loose.proofs.claims.claimed_bytes.Goals as goal

pub loop-place-preserved : goal.loop-place-preserved
loop-place-preserved c =
    let n = c.claimed_length.result in
    let so_far = c.loop-place.invariant.0 in (
      (
        so_far.0 ++ n ∷ [],
        lengths_more (extent_held c.args.extent.now) c.loop-place.place n so_far.0 so_far.1 c.claimed_length.ensures.length,
        ap (λ m. m + n) so_far.2 ∙ sym (sum_by_push (λ m. m) so_far.0 n),
      ),
      omega arith,
    )
