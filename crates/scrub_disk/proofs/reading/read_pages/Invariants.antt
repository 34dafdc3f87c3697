-- The pages so far: each byte of an unmarked page is the raw one, and so is each one that was read ahead; the marked pages
-- are cut or cost a failure each.
use Rattle.std.proofs.Common.{◌≡◌, ◌≤◌, ◌+◌, ◌-◌, ◌*◌, ◌<◌, IfSome, slice_get, Some, get_or, ℕ, ◌/◌, true, false, length}
use Rattle.scrub_disk.specs.Raw.{IsReadOn}
use Rattle.scrub_disk.specs.steps.Ahead.{MarksFrom, StandsBetween}
use Rattle.scrub_disk.proofs.reading.read_pages.Given as goal

abbrev pub invariant-loop-number : goal.invariant-loop-number
invariant-loop-number g l = record {
  image : IsReadOn g.R.RawImage.bytes g.R.RawImage.fails g.R.RawImage.most_failures g.R.RawImage.failures l.initial.raw l.raw;
  reads : g.R.RawImage.reads l.raw ≤ g.R.RawImage.reads l.initial.raw + (l.page + 1) * l.number;
  within : l.reached ≤ length l.bytes;
  lost : IfSome (g.R.RawImage.bytes l.initial.raw) (λ known. MarksFrom known (g.R.RawImage.fails l.initial.raw) l.first l.page l.number (g.R.RawImage.failures l.raw - g.R.RawImage.failures l.initial.raw) l.unreadable);
  held : IfSome (g.R.RawImage.bytes l.initial.raw) (λ known. (i : ℕ) → i < l.number * l.page → get_or l.unreadable (i / l.page) true ≡ false → slice_get known (l.first * l.page + i) ≡ Some (get_or l.bytes i 0));
  ahead : IfSome (g.R.RawImage.bytes l.initial.raw) (λ known. StandsBetween known (l.first * l.page) (l.number * l.page) l.reached l.bytes);
}
