use Rattle.std.proofs.Common.{◌∙◌, ap, sym}
use Rattle.scrub_scan.specs.AllFindings.{extent_numbers}
use Rattle.scrub_book.proofs.Arrivals.{numbers_shown}
use Rattle.scrub_book.proofs.pool_core.PoolCore.arrivals.Goals as goal

pub returns-clause-numbers : goal.returns-clause-numbers
returns-clause-numbers g c =
    c.as_slice.ensures.value ∙ c.self.invariant.0.numbers_are ∙ sym (numbers_shown c.self.inside.arrived.items)
    ∙ ap (λ v. extent_numbers v.state.arrivals) c.self.view_is
