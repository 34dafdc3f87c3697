use Rattle.std.proofs.Common.{◌&&◌, ◌==◌, length, refl}
use Rattle.scrub_listings.proofs.OneListing.{can_be_given, some_manifest, some_said}
use Rattle.scrub_listings.proofs.manifest.each_image_has_a_manifest.Goals as goal

pub returns-clause-text : goal.returns-clause-text
returns-clause-text c = λ given resets image can. some_manifest given resets image (can_be_given given can)

pub returns-clause-remarked : goal.returns-clause-remarked
returns-clause-remarked c = λ given resets image can.
    let m = some_manifest given resets image (can_be_given given can) in
    let r = some_said given image in
    (m.0, r.0, m.1 && length r.0 == 0, record { whole = m.1; manifest = m.2; are_remarks = r.1; clean_is = refl })
