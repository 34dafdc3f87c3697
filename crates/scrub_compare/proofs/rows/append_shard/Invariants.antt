-- The lines of the first numbers.
use Rattle.std.proofs.Common.{◌≡◌, ◌++◌, length, max, take}
use Rattle.std.specs.Prelude.{string_bytes}
use Rattle.std.specs.List.{flat_map, range_with_len}
use Rattle.scrub_compare.specs.Compare.{change, numbered}
use Rattle.scrub_compare.specs.steps.Rows.{row_among}
use Rattle.scrub_compare.proofs.rows.append_shard.Given as goal

abbrev pub invariant-loop-number : goal.invariant-loop-number
invariant-loop-number g l =
    string_bytes l.text
    ≡ string_bytes l.fn.text
    ++ flat_map (λ n. change (numbered (row_among l.before.all.now.extents l.before.copies.now) l.own n) (numbered (row_among l.after.all.now.extents l.after.copies.now) l.own_now n)) (take l.number (range_with_len 0 (max (length l.own) (length l.own_now))))
