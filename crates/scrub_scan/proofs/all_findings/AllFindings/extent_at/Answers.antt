use Rattle.std.proofs.Common.{ap, sym, ◌∙◌}
use Rattle.std.proofs.lemmas.Option.{slice_get-map, get_or_from_slice_get}
use Rattle.scrub_scan.specs.AllFindings.{extent_numbers}
use Rattle.scrub_scan.specs.Scanned.{Scanned, scanned}
use Rattle.std.specs.Option.{option_map}
use Rattle.scrub_scan.proofs.all_findings.AllFindings.extent_at.Goals as goal

pub returns-clause-number : goal.returns-clause-number
returns-clause-number g c =
    c.extent.ensures
    ∙ sym
    (get_or_from_slice_get (extent_numbers c.args.self.now.extents) c.args.i (scanned c.result_at.result.now).extent 0
    (slice_get-map (λ (f : Scanned). f.extent) c.args.self.now.extents c.args.i ∙ ap (option_map (λ (f : Scanned). f.extent)) c.result_at.ensures.result))
