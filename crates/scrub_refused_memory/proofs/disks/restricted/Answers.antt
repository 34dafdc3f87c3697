-- Extents 1 and 3 are among the planned ones: 1, 2 and 3.
use Rattle.std.proofs.Common.{◌≡◌, ◌-◌, ◌∙◌, arith, ap}
use Rattle.std.specs.List.{range_with_len}
use Rattle.scrub_disk.specs.Memory.{image_of}
use Rattle.scrub_fakes.proofs.Planned.{two_of_three}
use Rattle.scrub_refused_memory.proofs.disks.restricted.Goals as goal

pub restrict-requires-clause-each_planned : goal.restrict-requires-clause-each_planned
restrict-requires-clause-each_planned c =
    let three : (image_of c.args.disk.now).geometry.extents - 1 ≡ 3 = omega (arith, c.requires) in
    rw (c.in_ok-whole.ensures.planned ∙ ap (range_with_len 1) three) two_of_three
