-- What was found in the extents so far.
use Rattle.std.proofs.Common.{ℕ, Bool, List, take}
use Rattle.std.specs.List.Sorted.{IsStrictlyIncreasing}
use Rattle.scrub_disk.specs.Image.{Image}
use Rattle.scrub_scan.specs.declared.standing.Standing.{Standing}
use Rattle.scrub_loose.specs.steps.Search.{AreFoundIn, AreFoundInEach}
use Rattle.scrub_loose.proofs.searching.Found.joined.Given as goal

abbrev pub invariant-loop-found : goal.invariant-loop-found
invariant-loop-found l =
    (test : Standing → Bool) (image : Image) (es : List ℕ) → IsStrictlyIncreasing es → AreFoundInEach test image es l.each →
    AreFoundIn test image (take l.found-index es) l.all
