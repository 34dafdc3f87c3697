-- The room that was reserved is enough, and what is appended is the record.
use Rattle.std.proofs.Common.{arith}
use Rattle.scrub_super.proofs.Fronts.{head_sizes}
use Rattle.scrub_super.proofs.Written.{small_head, few_runs, size_before_digest, record_written, record_again}
use Rattle.scrub_super.proofs.record.write_record.Goals as goal

pub body_len-requires-clause-small : goal.body_len-requires-clause-small
body_len-requires-clause-small c = small_head c.args.geometry c.args.superblock.now c.head_of.ensures c.requires.retired

pub overflow_add-body_len : goal.overflow_add-body_len
overflow_add-body_len c =
    omega (
      arith,
      c.body_len.ensures,
      small_head c.args.geometry c.args.superblock.now c.head_of.ensures c.requires.retired,
      few_runs c.args.superblock.now c.head_of.ensures c.requires.runs,
      c.args.geometry.extents_most,
      head_sizes c.head_of.result.retired,
    )

pub append_body-requires-clause-room : goal.append_body-requires-clause-room
append_body-requires-clause-room c =
    omega (
      arith,
      size_before_digest c.args.geometry c.args.superblock.now c.head_of.ensures c.body_len.ensures c.requires.pointers,
      c.in_ok-reserve.ensures,
    )

pub append-requires : goal.append-requires
append-requires c =
    omega (
      arith,
      size_before_digest c.args.geometry c.args.superblock.now c.head_of.ensures c.body_len.ensures c.requires.pointers,
      c.append_body.ensures.size,
      c.append_body.ensures.capacity,
      c.in_ok-reserve.ensures,
    )

pub returns-clause-ok : goal.returns-clause-ok
returns-clause-ok c =
    record_written c.args.geometry c.args.superblock.now c.args.out.now.items
    (rw c.in_ok-reserve.ensures.items at c.append_body.ensures.items)
    c.deref.ensures.value (omega arith) c.digest_of-digest.ensures c.append.ensures.items

pub returns-clause-read_again : goal.returns-clause-read_again
returns-clause-read_again c = λ rest.
    record_again c.args.geometry c.args.superblock.now c.args.out.now.items _ rest _ (omega arith) (returns-clause-ok c)
    (record {
      generation = c.append_body.ensures.generation;
      pointer_count = c.requires.pointers.count;
      pointers_within = c.requires.pointers.within;
      retired = c.requires.retired;
      run_count = c.requires.runs;
      each_run = c.append_body.ensures.fit;
    })
