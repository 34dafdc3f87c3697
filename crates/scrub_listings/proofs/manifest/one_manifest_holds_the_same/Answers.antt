-- The text is read in one way, and so is what it says of a locator.
use Rattle.std.proofs.Common.{map, sym, ◌∙◌, ap}
use Rattle.scrub_listings.proofs.ManifestBytes.{shown_traits, traits_of}
use Rattle.scrub_listings.proofs.ManifestTexts.{same_content, same_verdict}
use Rattle.scrub_listings.proofs.manifest.one_manifest_holds_the_same.Goals as goal

pub returns-clause-said : goal.returns-clause-said
returns-clause-said c resets others image other text v w x y =
    same_content resets others image other x.found y.found x.loose.frames y.loose.frames x.scrubbed y.scrubbed (sym x.text_is ∙ y.text_is)

pub returns-clause-whole : goal.returns-clause-whole
returns-clause-whole c resets others image other text v w x y =
    x.verdict
    ∙ same_verdict x.found y.found x.loose.frames y.loose.frames (returns-clause-said c resets others image other text v w x y)
    ∙ sym y.verdict

pub returns-clause-shards : goal.returns-clause-shards
returns-clause-shards c resets others image other text v w x y bytes other_bytes =
    sym (shown_traits resets image x.found x.loose.frames x.scrubbed bytes)
    ∙ ap (map traits_of) (returns-clause-said c resets others image other text v w x y).shards
    ∙ shown_traits others other y.found y.loose.frames y.scrubbed other_bytes
