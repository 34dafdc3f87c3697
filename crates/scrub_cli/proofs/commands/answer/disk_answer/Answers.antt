-- Each answer is what was wanted, with its verdict.
use Rattle.std.proofs.Common.{◌∙◌, ap, sym, subst}
use Rattle.scrub_args.specs.declared.args.ScanOutput.{ScanOutput}
use Rattle.scrub_cli.specs.Outcome.{outcome_of}
use Rattle.scrub_cli.specs.Scan.{IsDiskAnswer}
use Rattle.scrub_cli.proofs.commands.answer.disk_answer.Goals as goal

pub returns-in_ok-found-in-Report-clause-answer : goal.returns-in_ok-found-in-Report-clause-answer
returns-in_ok-found-in-Report-clause-answer g c =
    let image = g.D.PageSource.image c.args.disk.now in
    subst (λ (w : ScanOutput). IsDiskAnswer w image c.new.result.text.items c.new.result.outcome) (sym c.in-Report.is) (
      c.in_ok-found-in-Report.found,
      c.in_ok-found-in-Report.ensures.answer,
      c.new.ensures.text ∙ c.into_report.ensures,
      c.new.ensures.outcome ∙ ap outcome_of c.is_clean-is_clean.ensures,
    )

pub returns-in_ok-found-in-Index-clause-answer : goal.returns-in_ok-found-in-Index-clause-answer
returns-in_ok-found-in-Index-clause-answer g c =
    let image = g.D.PageSource.image c.args.disk.now in
    subst (λ (w : ScanOutput). IsDiskAnswer w image c.new-in-Index.result.text.items c.new-in-Index.result.outcome) (sym c.in-Index.is) (
      c.in_ok-found-in-Index.found,
      c.in_ok-found-in-Index.ensures.answer,
      c.new-in-Index.ensures.text ∙ c.into_index.ensures,
      c.new-in-Index.ensures.outcome ∙ ap outcome_of c.is_clean-is_clean-in-Index.ensures,
    )

pub returns-in_ok-listing-in-Locators-clause-answer : goal.returns-in_ok-listing-in-Locators-clause-answer
returns-in_ok-listing-in-Locators-clause-answer g c =
    let image = g.D.PageSource.image c.args.disk.now in
    subst (λ (w : ScanOutput). IsDiskAnswer w image c.new-in-Locators.result.text.items c.new-in-Locators.result.outcome) (sym c.in-Locators.is) (
      c.in_ok-listing-in-Locators.listing.is_clean,
      rw c.new-in-Locators.ensures.text c.in_ok-listing-in-Locators.ensures.listing,
      c.new-in-Locators.ensures.outcome,
    )

pub returns-in_ok-summary-in-Summary-clause-answer : goal.returns-in_ok-summary-in-Summary-clause-answer
returns-in_ok-summary-in-Summary-clause-answer g c =
    let image = g.D.PageSource.image c.args.disk.now in
    subst (λ (w : ScanOutput). IsDiskAnswer w image c.new-in-Summary.result.text.items c.new-in-Summary.result.outcome) (sym c.in-Summary.is) (
      c.in_ok-summary-in-Summary.summary.is_clean,
      rw c.new-in-Summary.ensures.text c.in_ok-summary-in-Summary.ensures.summary,
      c.new-in-Summary.ensures.outcome,
    )

pub returns-in_ok-listing-in-Reclaimable-clause-answer : goal.returns-in_ok-listing-in-Reclaimable-clause-answer
returns-in_ok-listing-in-Reclaimable-clause-answer g c =
    let image = g.D.PageSource.image c.args.disk.now in
    subst (λ (w : ScanOutput). IsDiskAnswer w image c.new-in-Reclaimable.result.text.items c.new-in-Reclaimable.result.outcome) (sym c.in-Reclaimable.is) (
      c.in_ok-listing-in-Reclaimable.listing.is_clean,
      rw (c.new-in-Reclaimable.ensures.text, ← c.acceptance-acceptance.ensures) c.in_ok-listing-in-Reclaimable.ensures.listing,
      c.new-in-Reclaimable.ensures.outcome,
    )
