use Rattle.std.proofs.Common.{◌∙◌, length, ap, sym}
use Rattle.std.proofs.Math.Path.{ap₂}
use Rattle.std.proofs.lemmas.Slice.Zip.{AllZip-long}
use Rattle.scrub_check.specs.steps.Open.{IsKnownBefore}
use Rattle.scrub_check.specs.Named.{named_locators}
use Rattle.scrub_check.proofs.statuses.checked.check_named.Goals as goal

-- a status is known of each named locator
pub check_again-requires-clause-count : goal.check_again-requires-clause-count
check_again-requires-clause-count g c =
    ap length c.deref.ensures.value
    ∙ AllZip-long (IsKnownBefore (g.D.PageSource.image c.args.disk.now) c.args.plan.now) (named_locators c.args.plan.now.runs c.args.map.now)
    c.in_ok-known.known.items c.in_ok-known.ensures.known
    ∙ ap₂ (λ rs bs. length (named_locators rs bs)) (sym c.runs.ensures.runs) (sym c.bindings.ensures.bindings)
