-- The scan is by the runs that are given, or by the superblock that counts.
use Rattle.std.proofs.Common.{List, Option, IfOk, subst, sym}
use Rattle.std.specs.Borrow.{Bor}
use Rattle.scrub_frame.specs.declared.locator.Locator.{Locator}
use Rattle.scrub_found.specs.GivenRuns.{AreTakingsFrom, given_in}
use Rattle.scrub_found.specs.Judged.{IsScanFrom}
use Rattle.scrub_listings.specs.Remarks.{AreSaidFrom}
use Rattle.scrub_listings.proofs.scanning.scan_with_remarks.Goals as goal

pub returns-in_default-clause-scan : goal.returns-in_default-clause-scan
returns-in_default-clause-scan g c =
    subst (λ (given : Option (Bor (List Locator))). IfOk c.scan_by_superblock.result (λ r.
    IsScanFrom (given_in given) c.args.resets.now (g.D.PageSource.image r.0.disk.now) r.0))
    (sym c.in_default.is) c.scan_by_superblock.ensures.scan

pub returns-in_default-clause-remarks : goal.returns-in_default-clause-remarks
returns-in_default-clause-remarks g c =
    subst (λ (given : Option (Bor (List Locator))). IfOk c.scan_by_superblock.result (λ r.
    AreSaidFrom (given_in given) (g.D.PageSource.image c.args.disk.now) r.1.items))
    (sym c.in_default.is) c.scan_by_superblock.ensures.remarks

pub returns-in_default-clause-takings : goal.returns-in_default-clause-takings
returns-in_default-clause-takings g c =
    subst (λ (given : Option (Bor (List Locator))). IfOk c.scan_by_superblock.result (λ r.
    AreTakingsFrom (given_in given) (g.D.PageSource.image c.args.disk.now) c.args.workers r.2))
    (sym c.in_default.is) c.scan_by_superblock.ensures.takings

pub returns-clause-takings : goal.returns-clause-takings
returns-clause-takings g c =
    subst (λ (given : Option (Bor (List Locator))).
    AreTakingsFrom (given_in given) (g.D.PageSource.image c.args.disk.now) c.args.workers c.in_ok-scan.takings)
    (sym c.in-Some.is) c.in_ok-scan.ensures.takings
