use Rattle.std.proofs.Common.{◌≡◌, ◌++◌, All, Some, map}
use Rattle.std.specs.List.Sorted.{IsPermutation}
use Rattle.std.specs.Vec.Iter.{into_iter_items}
use Rattle.scrub_super.specs.Plan.{pointer_of}
use Rattle.scrub_scan.specs.declared.extent_result.ExtentResult.{ExtentResult}
use Rattle.scrub_scan.specs.Scanned.{result_image, scanned}
use Rattle.scrub_book.proofs.assembling.assemble.Given as goal

-- what was added and what is still to come is what arrived
abbrev pub invariant-loop-found : goal.invariant-loop-found
invariant-loop-found g l = record {
  source : l.book.source ≡ l.fn.book.source;
  plan : l.book.plan ≡ l.fn.book.plan;
  came : IsPermutation (map (λ (r : ExtentResult g.row.D.Denot g.D.PageSource). scanned r) l.fn.arrived.items) (l.book.came ++ map (λ (r : ExtentResult g.row.D.Denot g.D.PageSource). scanned r) (into_iter_items l.found-iterator));
  images : All (λ (r : ExtentResult g.row.D.Denot g.D.PageSource). result_image r ≡ g.D.PageSource.image l.fn.book.source) (into_iter_items l.found-iterator);
  pointers : All (λ (r : ExtentResult g.row.D.Denot g.D.PageSource). pointer_of l.fn.book.plan r.extent ≡ Some r.pointer) (into_iter_items l.found-iterator);
}
