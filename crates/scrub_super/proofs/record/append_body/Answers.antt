-- The room is enough for each part, and the parts are the body.
use Rattle.std.proofs.Common.{arith, ap, length, length-append}
use Rattle.std.specs.List.{flat_map}
use Rattle.scrub_frame.specs.Locator.{locator_bytes}
use Rattle.scrub_frame.proofs.Locators.{length-locators}
use Rattle.scrub_super.proofs.Written.{small_head, head_appended, numbers_appended, retired_appended, body_written}
use Rattle.scrub_super.proofs.Listed.{length_listed}
use Rattle.scrub_super.proofs.record.append_body.Goals as goal

pub append_head-requires-clause-small : goal.append_head-requires-clause-small
append_head-requires-clause-small c =
    small_head c.args.geometry c.args.superblock.now c.head_of.ensures c.requires.retired

pub append_numbers-requires-2 : goal.append_numbers-requires-2
append_numbers-requires-2 c =
    omega (
      arith,
      head_appended c.args.geometry c.args.superblock.now c.head_of.ensures c.args.out.now.items
          c.append_head.ensures.items,
      numbers_appended c.append_head.new.out.items c.pointers.ensures c.append_numbers.ensures.items,
      ap length c.retired.ensures,
      length_listed c.args.superblock.now.retired,
      c.append_head.ensures.capacity,
      c.append_numbers.ensures.capacity,
      c.requires.room,
    )

pub append_locators-requires : goal.append_locators-requires
append_locators-requires c =
    omega (
      arith,
      head_appended c.args.geometry c.args.superblock.now c.head_of.ensures c.args.out.now.items
          c.append_head.ensures.items,
      numbers_appended c.append_head.new.out.items c.pointers.ensures c.append_numbers.ensures.items,
      retired_appended c.append_numbers.new.out.items c.args.superblock.now c.retired.ensures
          c.append_numbers-2.ensures.items,
      ap length c.runs.ensures,
      c.append_head.ensures.capacity,
      c.append_numbers.ensures.capacity,
      c.append_numbers-2.ensures.capacity,
      c.requires.room,
    )

pub returns-clause-items : goal.returns-clause-items
returns-clause-items c =
    body_written c.args.geometry c.args.superblock.now c.args.out.now.items
    c.head_of.ensures c.pointers.ensures c.retired.ensures c.runs.ensures
    c.append_head.ensures.items c.append_numbers.ensures.items c.append_numbers-2.ensures.items
    c.append_locators.ensures.items

pub returns-clause-size : goal.returns-clause-size
returns-clause-size c =
    omega (
      arith,
      head_appended c.args.geometry c.args.superblock.now c.head_of.ensures c.args.out.now.items
          c.append_head.ensures.items,
      numbers_appended c.append_head.new.out.items c.pointers.ensures c.append_numbers.ensures.items,
      retired_appended c.append_numbers.new.out.items c.args.superblock.now c.retired.ensures
          c.append_numbers-2.ensures.items,
      ap length c.append_locators.ensures.items,
      length-append c.append_numbers-2.new.out.items (flat_map locator_bytes c.runs.result.now),
      length-locators c.runs.result.now c.append_locators.ensures.fit,
      ap length c.runs.ensures,
    )
