-- The sizes of a record are those in its front, and each record begins with the letters of a kind.
use Rattle.std.proofs.Common.{arith}
use Rattle.scrub_super.proofs.Geometries.{no_kind, sizes_read}
use Rattle.scrub_super.proofs.Refused.{too_few}
use Rattle.scrub_super.proofs.unknown_sizes.search.sizes_in.Goals as goal

pub returns-in_err-front : goal.returns-in_err-front
returns-in_err-front c = λ g d b. absurd (too_few (omega (arith, c.in_err-front.ensures.cases)) b)

pub returns-in_err-at : goal.returns-in_err-at
returns-in_err-at c = λ g d b.
    absurd (no_kind c.args.bytes.now c.in_ok-front.ensures.cases c.in_err-at.ensures.none g d b)

pub returns : goal.returns
returns c =
    sizes_read _ c.new.result c.in_ok-front.ensures.cases c.read_u32-page.ensures c.read_u32-pages.ensures
    c.read_u32-extents.ensures c.new.ensures c.ok.ensures.value
