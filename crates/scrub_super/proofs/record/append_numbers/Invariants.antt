-- The numbers so far are written, and there is room for the others.
use Rattle.std.proofs.Common.{◌≡◌, ◌+◌, ◌*◌, ◌-◌, ◌≤◌, ◌++◌, length, take, vec_len, vec_capacity}
use Rattle.std.specs.List.{flat_map}
use Rattle.byteorder.specs.Endian.{big_bytes}
use Rattle.scrub_super.proofs.record.append_numbers.Given as goal

abbrev pub invariant-loop-number : goal.invariant-loop-number
invariant-loop-number l = record {
  written : l.out.items ≡ l.initial.out.items ++ flat_map (big_bytes 4) (take l.number-index l.numbers);
  room : vec_len l.out + 4 * (length l.numbers - l.number-index) ≤ vec_capacity l.out;
  grown : vec_capacity l.initial.out ≤ vec_capacity l.out;
}
