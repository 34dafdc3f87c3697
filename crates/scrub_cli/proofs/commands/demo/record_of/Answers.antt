-- The bytes and the size of a record of two pointers and one run.
use Rattle.std.proofs.Common.{ap, length, [], ◌∷◌}
use Rattle.scrub_cli.specs.Demo.{demo_pointers}
use Rattle.scrub_cli.proofs.DemoSizes.{record_size, record_written}
use Rattle.scrub_cli.proofs.commands.demo.record_of.Goals as goal

pub returns-clause-size : goal.returns-clause-size
returns-clause-size c =
    record_size c.args.geometry _ _ _ c.new-superblock.result c.write_record.new.out.items c.new-bytes.result.items
    c.new-superblock.ensures c.in_ok-write_record.ensures.ok c.new-bytes.ensures.items
    (ap length c.in_ok-pointers.ensures.items) (ap length c.in_ok-from_slice.ensures.items)
    (c.in_ok-write_record.ensures.read_again []).contents

pub returns-clause-bytes : goal.returns-clause-bytes
returns-clause-bytes c =
    record_written c.args.geometry 1 _ demo_pointers _ (c.args.run ∷ []) c.new-superblock.result c.write_record.new.out.items
    c.new-bytes.result.items c.new-superblock.ensures c.in_ok-write_record.ensures.ok c.new-bytes.ensures.items
    c.in_ok-pointers.ensures.items c.in_ok-from_slice.ensures.items
