-- The pages from there on were searched, and what was seen of them.
use Rattle.std.proofs.Common.{◌≡◌, ◌≤◌, ℕ, Some, length, slice_get}
use Rattle.scrub_super.specs.declared.pages.SeenPage.{SeenPage}
use Rattle.scrub_super.specs.steps.BytesFrom.{IsSearchedFrom}
use Rattle.scrub_super.specs.steps.PagesFound.{IsSeenPage}
use Rattle.scrub_super.proofs.extent_zero.choose_with_pages.Given as goal

abbrev pub invariant-loop-page : goal.invariant-loop-page
invariant-loop-page g l =
    let image = g.D.PageSource.image l.disk in record {
      searched : IsSearchedFrom image l.page l.search;
      count : length l.seen_pages.items ≡ image.geometry.pages;
      seen : (q : ℕ) (page : SeenPage) → l.page ≤ q → slice_get l.seen_pages.items q ≡ Some page → IsSeenPage image q page;
    }
