-- Steps of the code: parts of runs, by identifier.
use Rattle.std.specs.Prelude.{Bool, cond, map, not}
use Rattle.std.specs.Option.{option_map}
use Rattle.std.specs.List.{filter}
use Rattle.std.specs.Ordering.{is_lt}
use Rattle.scrub_run.specs.declared.shard_id.ShardId.{ShardId}
use Rattle.scrub_merge.specs.Binding.{Runs}
use Rattle.scrub_merge.specs.declared.part.Side.{Side}
use Rattle.scrub_merge.specs.steps.Cursors.{id_cmp}

-- whether the second identifier is before the first
abbrev pub is_before : ShardId → ShardId → Bool
is_before id other = is_lt (id_cmp other id)

-- whether an identifier is on this side
abbrev pub is_on : Side → ShardId → Bool
is_on side other = cond side.is_first (is_before side.id other) (not (is_before side.id other))

-- the entries of each run whose identifiers pass a test; the same runs are lost
abbrev pub kept : (ShardId → Bool) → Runs → Runs
kept passes runs = map (option_map (filter (λ e. passes e.id))) runs
