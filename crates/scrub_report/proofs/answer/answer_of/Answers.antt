-- The bindings fit into one run, and each part of the answer is that of what was found.
use Rattle.std.proofs.Common.{[], ap, refl, sym, ◌∙◌}
use Rattle.std.proofs.Math.Path.{ap₂}
use Rattle.scrub_run.specs.Run.{run_bytes}
use Rattle.scrub_found.proofs.FewBindings.{countable_map, locators_fit}
use Rattle.scrub_report.specs.Index.{index_entries}
use Rattle.scrub_report.proofs.answer.answer_of.Goals as goal

pub index_and_report-requires-clause-sorted : goal.index_and_report-requires-clause-sorted
index_and_report-requires-clause-sorted g c κs within =
    rw c.deref.ensures.value c.in_ok-scan.ensures.1.lists.broken_are.rising

pub index_and_report-requires-clause-few : goal.index_and_report-requires-clause-few
index_and_report-requires-clause-few g c κs within =
    let are = c.in_ok-scan.ensures.1 in
    locators_fit [] (g.D.PageSource.image c.args.scan.disk.now) _ _ are.read _ are.scanned.chosen are.scanned.planned are.read_are are.map_is

pub index_and_report-requires-clause-count : goal.index_and_report-requires-clause-count
index_and_report-requires-clause-count g c κs within =
    let are = c.in_ok-scan.ensures.1 in
    countable_map [] (g.D.PageSource.image c.args.scan.disk.now) _ _ are.read _ are.scanned.chosen are.scanned.planned are.read_are are.map_is

pub index_and_report-requires-clause-drawn : goal.index_and_report-requires-clause-drawn
index_and_report-requires-clause-drawn g c κs within =
    (c.in_ok-scan.ensures.0, c.in_ok-scan.ensures.1.lists.locators_are)

pub returns : goal.returns
returns g c =
    let checked = c.in_ok-scan.ensures.0 in
    let are = c.in_ok-scan.ensures.1 in
    let broken = c.deref.ensures.value in
    let told = c.in_ok-index.ensures.report (g.D.PageSource.image c.args.scan.disk.now) checked _ are refl c.in_ok-shards.ensures broken in
    record {
      found = told.found;
      scrubbed = told.scrubbed;
      report = told.text_is;
      index = c.in_ok-index.ensures.index checked (rw broken are.lists.broken_are) ∙ ap run_bytes (sym (ap₂ index_entries told.checked_are told.bindings_are));
      clean = told.verdict;
    }
