-- The records so far have these sizes.
use Rattle.std.proofs.Common.{◌≡◌, ◌<◌, ℕ, get_or}
use Rattle.scrub_super.specs.declared.unknown_sizes.FoundRecord.{FoundRecord}
use Rattle.scrub_listings.proofs.sizes_listing.have_sizes.Given as goal

abbrev pub invariant-loop-found : goal.invariant-loop-found
invariant-loop-found l = (k : ℕ) (d : FoundRecord) → k < l.found-index → (get_or l.records k d).geometry ≡ l.geometry
