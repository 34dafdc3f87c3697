-- The readers so far are fewer than the next number, and few reads of them were made.
use Rattle.std.proofs.Common.{◌<◌, ◌≤◌, ◌+◌, ◌*◌, All, sum_by, vec_len}
use Rattle.scrub_cli.proofs.process.files.NamedFilesImages.beside.Given as goal

abbrev pub invariant-loop : goal.invariant-loop
invariant-loop g l = record {
  few : vec_len l.readers + 1 ≤ l.counter;
  within : l.counter ≤ l.count;
  few_reads : All (λ r. r.reads < 4611686018427387904) l.readers.items;
  bounded : sum_by (λ r. 18446744073709551616 * r.shares) l.readers.items ≤ 18446744073709551616 * vec_len l.readers;
}
