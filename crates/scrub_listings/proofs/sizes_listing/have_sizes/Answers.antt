-- All of them have these sizes.
use Rattle.std.proofs.Common.{arith, refl}
use Rattle.scrub_listings.proofs.sizes_listing.have_sizes.Goals as goal

pub returns : goal.returns
returns c = ((λ _ k d hk. c.loop-found.invariant k d (omega (arith, hk, c.loop-found-test.false))), λ _. refl)
