-- The runs of the extents so far.
use Rattle.std.proofs.Common.{ℕ, List, take}
use Rattle.std.specs.List.Sorted.{IsStrictlyIncreasing}
use Rattle.scrub_disk.specs.Image.{Image}
use Rattle.scrub_loose.specs.steps.Walk.{AreRunsIn, AreWalked}
use Rattle.scrub_loose.proofs.outer.runs_of.Given as goal

abbrev pub invariant-loop-walked : goal.invariant-loop-walked
invariant-loop-walked l =
    (image : Image) (es : List ℕ) → IsStrictlyIncreasing es → AreWalked image es l.each →
    AreRunsIn image (take l.walked-index es) l.all.items
