use Rattle.std.proofs.Common.{arith}
use Rattle.std.proofs.lemmas.List.{length-map}
use Rattle.std.proofs.lemmas.List.Sorted.{length_permutation}
use Rattle.scrub_scan.specs.Scanned.{scanned}
use Rattle.scrub_book.specs.Extents.{extents_in}
use Rattle.scrub_pool.proofs.scanning.scan_all.Goals as goal

pub assemble-requires-clause-images : goal.assemble-requires-clause-images
assemble-requires-clause-images g c κs within =
    rw c.in_ok-book.ensures.source_is c.in_ok-lists.ensures.found.0

pub assemble-requires-clause-pointers : goal.assemble-requires-clause-pointers
assemble-requires-clause-pointers g c κs within =
    rw c.in_ok-book.ensures.plan_is c.in_ok-lists.ensures.found.1

pub returns-clause-counted : goal.returns-clause-counted
returns-clause-counted g c =
    let results = c.in_ok-lists.results.items in
    omega (
      arith,
      c.in_ok-lists.ensures.counted,
      length_permutation (extents_in results) c.args.plan.now.planned c.in_ok-lists.ensures.extents,
      length-map results (λ r. (scanned r).extent),
    )
