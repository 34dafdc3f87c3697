-- The bytes so far are the raw ones, and took at most a read each.
use Rattle.std.proofs.Common.{◌≡◌, ◌≤◌, ◌+◌, ◌-◌, length, IfSome}
use Rattle.scrub_disk.specs.steps.Ahead.{StandsBetween}
use Rattle.scrub_disk.proofs.filling.fill.Given as goal

abbrev pub invariant-loop-done : goal.invariant-loop-done
invariant-loop-done g l = record {
  same_bytes : g.R.RawImage.bytes l.raw ≡ g.R.RawImage.bytes l.initial.raw;
  same_fails : g.R.RawImage.fails l.raw ≡ g.R.RawImage.fails l.initial.raw;
  same_bound : g.R.RawImage.most_failures l.raw ≡ g.R.RawImage.most_failures l.initial.raw;
  failures : g.R.RawImage.failures l.raw ≡ g.R.RawImage.failures l.initial.raw;
  reads : g.R.RawImage.reads l.raw ≤ g.R.RawImage.reads l.initial.raw + l.done;
  within : l.done ≤ length l.out;
  so_far : IfSome (g.R.RawImage.bytes l.initial.raw) (λ known. StandsBetween known l.offset 0 l.done l.out);
}

abbrev pub decreases-loop-done : goal.decreases-loop-done
decreases-loop-done g l = length l.out - l.done
