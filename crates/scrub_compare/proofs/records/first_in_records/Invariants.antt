-- How far the records of the pages before reach, and no byte of these changed that may not.
use Rattle.std.proofs.Common.{◌<◌, ◌≤◌, ◌*◌, ℕ}
use Rattle.scrub_super.specs.steps.PagesFound.{IsRecordReach}
use Rattle.scrub_compare.specs.Written.{IsWrittenInRecords}
use Rattle.scrub_compare.proofs.records.first_in_records.Given as goal

abbrev pub invariant-loop-page : goal.invariant-loop-page
invariant-loop-page g l = record {
  reach : IsRecordReach (g.E.PageSource.image l.after) l.page l.reach;
  none : (p : ℕ) → 0 ≤ p → p < l.page * (g.E.PageSource.image l.after).geometry.page →
      ¬ IsWrittenInRecords (g.D.PageSource.image l.before) (g.E.PageSource.image l.after) p;
}
