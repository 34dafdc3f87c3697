-- The numbers that were read are spelled by the bytes.
use Rattle.std.proofs.Common.{◌≡◌, arith, ap, length}
use Rattle.list_facts.proofs.Slices.{take_of_refilled}
use Rattle.scrub_super.proofs.Found.{numbers_spelled}
use Rattle.scrub_super.proofs.record.read_numbers.Goals as goal

pub returns-clause-spelled : goal.returns-clause-spelled
returns-clause-spelled c =
    let room : length c.read_u32_into.new.dst ≡ length c.in_ok-numbers.numbers.items =
    omega (arith, ap length c.deref_mut.ensures.value) in
    rw
    (take_of_refilled c.in_ok-numbers.numbers.len c.read_u32_into.new.dst c.in_ok-numbers.numbers.items (omega (arith, room)))
    (numbers_spelled c.args.bytes.now c.read_u32_into.new.dst c.args.count c.requires
    (omega (arith, room, c.in_ok-numbers.ensures.len)) (λ i. omega (arith, c.type_inv.bytes i)) c.read_u32_into.ensures)
