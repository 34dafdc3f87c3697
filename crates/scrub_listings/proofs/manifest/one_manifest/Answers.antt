-- What is found on an image is unique.
use Rattle.std.proofs.Common.{◌&&◌, ◌==◌, length, sym, ◌∙◌}
use Rattle.scrub_listings.proofs.OneListing.{one_said, same_manifest}
use Rattle.scrub_listings.proofs.manifest.one_manifest.Goals as goal

pub returns-clause-text : goal.returns-clause-text
returns-clause-text c = same_manifest

pub returns-clause-remarked : goal.returns-clause-remarked
returns-clause-remarked c = λ given resets image a b r s v w x y.
    let texts = same_manifest given resets image a b x.whole y.whole x.manifest y.manifest in
    let remarks = one_said given image r s x.are_remarks y.are_remarks in
    (texts.0, remarks, x.clean_is ∙ (λ i. texts.1 i && length (remarks i) == 0) ∙ sym y.clean_is)
