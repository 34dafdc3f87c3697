-- The pages so far are in the block: each one that is readable has its bytes.
use Rattle.std.proofs.Common.{◌≡◌, ◌≤◌, ◌+◌, ◌*◌, length}
use Rattle.scrub_disk.specs.Stored.{HasPages}
use Rattle.scrub_disk.specs.steps.Added.{AddsPages}
use Rattle.scrub_disk.proofs.blocks.Block.add_pages.Given as goal

abbrev pub invariant-loop-number : goal.invariant-loop-number
invariant-loop-number l = record {
  pages : HasPages l.page l.self;
  stored : length l.self.bytes.items ≡ l.stored * l.page;
  few : l.stored ≤ l.initial.stored + l.number;
  added : AddsPages l.page l.initial.self l.self l.number l.bytes l.unreadable;
}
