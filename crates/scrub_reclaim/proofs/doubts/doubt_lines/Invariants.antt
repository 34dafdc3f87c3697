-- The lines of the first doubts, and whether each of these is accepted.
use Rattle.std.proofs.Common.{◌≡◌, take}
use Rattle.std.specs.Prelude.{string_bytes}
use Rattle.std.specs.List.{flat_map, list_all}
use Rattle.scrub_reclaim.specs.Doubts.{is_accepted}
use Rattle.scrub_reclaim.specs.Reclaimable.{doubt_line}
use Rattle.scrub_reclaim.proofs.doubts.doubt_lines.Given as goal

abbrev pub invariant-loop-doubt : goal.invariant-loop-doubt
invariant-loop-doubt l = record {
  text : string_bytes l.lines.text ≡ flat_map (doubt_line l.accepted) (take l.doubt-index l.doubts);
  clear : l.lines.is_clear ≡ list_all (is_accepted l.accepted) (take l.doubt-index l.doubts);
}
