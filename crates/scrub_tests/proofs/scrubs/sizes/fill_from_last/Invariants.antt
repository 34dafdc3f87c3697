-- The book stays one of this disk and of these pointers.
use Rattle.std.proofs.Common.{◌≡◌}
use Rattle.scrub_disk.specs.Memory.{image_of}
use Rattle.scrub_tests.proofs.scrubs.sizes.fill_from_last.Given as goal

abbrev pub invariant-loop-i : goal.invariant-loop-i
invariant-loop-i l = record {
  image : image_of l.book.source ≡ image_of l.disk;
  pointers : l.book.plan.pointers ≡ l.plan.pointers;
}
