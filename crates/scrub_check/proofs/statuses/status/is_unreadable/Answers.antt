use Rattle.std.proofs.Common.{is_none}
use Rattle.list_facts.proofs.Filters.{filter_range-rises}
use Rattle.scrub_check.proofs.statuses.status.is_unreadable.Goals as goal

pub has_gap-requires-clause-rising : goal.has_gap-requires-clause-rising
has_gap-requires-clause-rising g c κs within =
    rw c.requires.pages
    (filter_range-rises (λ p. is_none ((g.D.PageSource.image c.args.disk.now).page c.args.locator.now.extent p)) 0 (g.D.PageSource.image c.args.disk.now).geometry.pages)

pub returns : goal.returns
returns g c = c.has_gap.ensures c.args.locator.now.extent c.requires.in_range.in_disk c.requires.pages
