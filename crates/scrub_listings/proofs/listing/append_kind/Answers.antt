-- The first copy, if there is one.
use Rattle.std.proofs.Common.{length, refl, sym}
use Rattle.std.specs.Prelude.{string_bytes}
use Rattle.scrub_listings.proofs.SpareLines.{counted, uncounted}
use Rattle.scrub_listings.proofs.listing.append_kind.Goals as goal

pub returns-in-Some : goal.returns-in-Some
returns-in-Some c =
    counted c.append_count.result c.args.word.now c.args.some.now c.in-Some.first.now (length c.args.some.now) (string_bytes c.args.text.now) (string_bytes c.append_count.new.text)
    (sym c.in-Some.ensures.value) refl c.append_count.ensures

pub returns-in-None : goal.returns-in-None
returns-in-None c = uncounted c.args.word.now c.args.some.now (string_bytes c.args.text.now) (sym c.in-None.ensures.value)
