-- The answer of `runs`, if that is wanted, or else that of `scan`.
use Rattle.std.proofs.Common.{◌≡◌, ◌∙◌, false, sym, refl}
use Rattle.std.proofs.lemmas.Bool.{false≢true}
use Rattle.scrub_args.specs.declared.args.ScanOutput.{ScanOutput}
use Rattle.scrub_args.specs.declared.args.ScanOutput.TheVariants.{Report, Index, Locators, Runs, Summary, Reclaimable}
use Rattle.scrub_cli.specs.Scan.{is_scanned}
use Rattle.scrub_cli.proofs.commands.scan.on_disk.Goals as goal

-- index runs alone are wanted without a scan
runs_wanted : (wanted : ScanOutput) → is_scanned wanted ≡ false → wanted ≡ Runs
runs_wanted Report is = absurd (false≢true (sym is))
runs_wanted Index is = absurd (false≢true (sym is))
runs_wanted Locators is = absurd (false≢true (sym is))
runs_wanted Runs is = refl
runs_wanted (Summary last) is = absurd (false≢true (sym is))
runs_wanted (Reclaimable lines last) is = absurd (false≢true (sym is))

pub returns-then-not-is_scanned : goal.returns-then-not-is_scanned
returns-then-not-is_scanned g c =
    rw (runs_wanted c.args.wanted.now (sym c.is_scanned.ensures ∙ c.if-not-is_scanned.true)) c.runs.ensures

pub returns : goal.returns
returns g c = (c.in_ok-scan.ensures.0, c.in_ok-scan.ensures.1)
