-- The three lists have the parts so far.
use Rattle.std.proofs.Common.{◌≡◌, map as list_map}
use Rattle.scrub_check.proofs.runs.unzip_runs.Given as goal

abbrev pub invariant-loop-one : goal.invariant-loop-one
invariant-loop-one l = record {
  runs : l.runs.items ≡ list_map (λ one. one.run) l.yielded;
  states : l.states.items ≡ list_map (λ one. one.state) l.yielded;
  statuses : l.statuses.items ≡ list_map (λ one. one.status) l.yielded;
}
