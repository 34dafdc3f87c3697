-- What the pages before hold, and how far the records on them reach.
use Rattle.std.proofs.Common.{◌≡◌, ℕ, Some, length, slice_get}
use Rattle.scrub_super.specs.declared.pages.SuperblockPage.{SuperblockPage}
use Rattle.scrub_super.specs.Pages.{IsSuperblockPage}
use Rattle.scrub_super.specs.steps.PagesFound.{IsRecordReach}
use Rattle.scrub_super.proofs.extent_zero.pages_of.Given as goal

abbrev pub invariant-loop-page : goal.invariant-loop-page
invariant-loop-page g l =
    let image = g.D.PageSource.image l.disk in record {
      count : length l.pages.items ≡ l.page;
      each : (q : ℕ) (p : SuperblockPage) → slice_get l.pages.items q ≡ Some p → IsSuperblockPage image q p;
      reach : IsRecordReach image l.page l.reach;
    }
