-- What was scanned is that of the image, and so is what is said of its superblocks.
use Rattle.std.proofs.Common.{◌==◌, ◌&&◌, length, ◌∙◌}
use Rattle.scrub_found.specs.GivenRuns.{given_in}
use Rattle.scrub_listings.proofs.manifest.list_manifest.Goals as goal

pub manifest_of-requires-after_bounds : goal.manifest_of-requires-after_bounds
manifest_of-requires-after_bounds g c κs within = (given_in c.args.given, c.in_ok-scan.ensures.scan)

pub returns-clause-manifest : goal.returns-clause-manifest
returns-clause-manifest g c = record {
  whole = c.in_ok-manifest.manifest.is_clean;
  manifest = rw c.in_ok-scan.ensures.image at (c.in_ok-manifest.ensures (given_in c.args.given) c.in_ok-scan.ensures.scan);
  are_remarks = c.in_ok-scan.ensures.remarks;
  clean_is = c.is_clean_by-is_clean.ensures ∙ (λ i. c.in_ok-manifest.manifest.is_clean && length (c.deref.ensures.value i) == 0);
}
