use Rattle.std.proofs.Common.{◌∙◌, ap, sym, Some, option_map}
use Rattle.scrub_scan.proofs.all_findings.AllFindings.of_extent.Goals as goal

pub returns-clause-found : goal.returns-clause-found
returns-clause-found g c =
    ap (option_map (λ f. f.findings)) c.in_ok-result_of.ensures.found ∙ ap Some (sym c.findings.ensures.value)
