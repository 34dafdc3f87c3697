use Rattle.std.proofs.Common.{◌≡◌, ◌-◌, ◌<◌, ◌^◌, length}
use Rattle.scrub_check.proofs.StartSearch.{LiesWithin, HalvesIn}
use Rattle.scrub_check.proofs.statuses.searching.search.Given as goal

-- The place can lie from low up to high alone, and each place that was shown halved them. There are no more places than a
-- word counts, so that the count of those that were shown doesn't wrap.
abbrev pub invariant-loop-low : goal.invariant-loop-low
invariant-loop-low g l = record {
  same : g.S.ShowsStarts.starts l.among ≡ g.S.ShowsStarts.starts l.initial.among;
  within : LiesWithin (g.S.ShowsStarts.starts l.initial.among) l.start l.low l.high;
  halves : HalvesIn (length (g.S.ShowsStarts.starts l.initial.among)) (g.S.ShowsStarts.shown l.among) (l.high - l.low);
  whole : g.S.ShowsStarts.shown l.among ≡ 0 → l.high - l.low ≡ length (g.S.ShowsStarts.starts l.initial.among);
  counted : length (g.S.ShowsStarts.starts l.initial.among) < 2 ^ 64;
}

abbrev pub decreases-loop-low : goal.decreases-loop-low
decreases-loop-low g l = l.high - l.low
