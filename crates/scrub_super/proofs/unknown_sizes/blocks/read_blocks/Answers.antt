-- One more block, in which the image may end.
use Rattle.std.proofs.Common.{rules, arith, refl, length, Some, ◌≡◌, ◌≤◌}
use Rattle.scrub_disk.proofs.RawImages.{read_on_more}
use Rattle.scrub_super.proofs.BlocksFront.{AddsBlock, length-next, length-marks, begins_itself, begins_next, begins_so_far, block_stands, blocks_next, blocks_end, all_read_full}
use Rattle.scrub_super.proofs.unknown_sizes.blocks.read_blocks.Goals as goal
use Rattle.scrub_super.proofs.unknown_sizes.blocks.read_blocks.Goals.{else-loop-number-test, then-loop-number-test+in_ok-add_block+then-block-lt-BLOCK_BYTES}

pub loop-number-preserved : goal.loop-number-preserved
loop-number-preserved g c =
    let full : length c.read_block-block.new.out ≡ 512 = search rules in
    let few : c.read_block-block.result.len ≤ 512 = c.read_block-block.ensures.within in
    let adds : AddsBlock c.loop-number.bytes.items c.loop-number.lost.items c.read_block-block.new.out c.read_block-block.result.len c.read_block-block.result.is_lost c.add_block.new.bytes.items c.add_block.new.lost.items =
    record { bytes = c.in_ok-add_block.ensures.bytes; marks = c.in_ok-add_block.ensures.lost; few = few; full = full } in
    record {
      image = read_on_more c.loop-number.invariant.image c.read_block-block.ensures.image;
      reads = omega arith;
      size =
          omega (
            arith,
            length-next adds,
            c.loop-number.invariant.size,
            c.if-block-lt-BLOCK_BYTES.false,
            few,
          );
      marks = omega (arith, length-marks adds, c.loop-number.invariant.marks);
      begins =
          begins_next adds (omega (arith, c.loop-number.invariant.size, c.loop-number.invariant.marks))
          c.read_block-block.ensures.lost c.loop-number.invariant.begins;
      read =
          blocks_next adds _ _ _ _ c.loop-number.invariant.image.same_bytes c.loop-number.invariant.marks
          c.loop-number.invariant.size refl c.loop-number.invariant.image.counted c.read_block-block.ensures.image.counted
          c.loop-number.invariant.read
          (rw c.loop-number.invariant.image.same_fails at c.read_block-block.ensures.read);
      own = λ known begins.
          blocks_next adds {raw = Some known} {was = Some known} _ _ _ _ refl c.loop-number.invariant.marks
          c.loop-number.invariant.size refl c.loop-number.invariant.image.counted c.read_block-block.ensures.image.counted
          (c.loop-number.invariant.own known (begins_so_far adds known begins))
          ((rw c.loop-number.invariant.image.same_fails at c.read_block-block.ensures.own) known
          (block_stands adds known _ (omega (arith, c.loop-number.invariant.size)) begins)
          (λ short. absurd (omega (arith, short, c.if-block-lt-BLOCK_BYTES.false))));
    }

pub returns-clause-read : goal.returns-clause-read
returns-clause-read g c =
    elim c.loop-number-test.branch [
      | else-loop-number-test w ↦
          rw (w.raw-is, w.bytes-is, w.lost-is)
          (all_read_full (g.R.RawImage.fails c.args.raw.now) (g.R.RawImage.bytes c.args.raw.now) c.loop-number.lost.items c.loop-number.bytes.items _ (omega (arith, c.loop-number.invariant.size, w.loop-number-test.false, c.loop-number.auto.number-end)) c.loop-number.invariant.read)
      | then-loop-number-test+in_ok-add_block+then-block-lt-BLOCK_BYTES w ↦
          let full : length w.read_block-block.new.out ≡ 512 = search rules in
          let adds : AddsBlock c.loop-number.bytes.items c.loop-number.lost.items w.read_block-block.new.out w.read_block-block.result.len w.read_block-block.result.is_lost w.add_block.new.bytes.items w.add_block.new.lost.items =
          record { bytes = w.in_ok-add_block.ensures.bytes; marks = w.in_ok-add_block.ensures.lost; few = w.read_block-block.ensures.within; full = full } in
          rw (w.raw-is, w.bytes-is, w.lost-is)
          (blocks_end adds _ _ _ _ c.loop-number.invariant.image.same_bytes c.loop-number.invariant.marks
          c.loop-number.invariant.size refl c.loop-number.invariant.image.counted w.read_block-block.ensures.image.counted
          c.loop-number.invariant.read
          (rw c.loop-number.invariant.image.same_fails at w.read_block-block.ensures.read) w.if-block-lt-BLOCK_BYTES.true)
    ]

pub returns-clause-own : goal.returns-clause-own
returns-clause-own g c =
    elim c.loop-number-test.branch [
      | else-loop-number-test w ↦
          let bytes = c.loop-number.bytes.items in
          rw (w.raw-is, w.bytes-is, w.lost-is)
          (all_read_full (g.R.RawImage.fails c.args.raw.now) (Some bytes) c.loop-number.lost.items bytes _ (omega (arith, c.loop-number.invariant.size, w.loop-number-test.false, c.loop-number.auto.number-end)) (c.loop-number.invariant.own bytes (begins_itself bytes)))
      | then-loop-number-test+in_ok-add_block+then-block-lt-BLOCK_BYTES w ↦
          let full : length w.read_block-block.new.out ≡ 512 = search rules in
          let adds : AddsBlock c.loop-number.bytes.items c.loop-number.lost.items w.read_block-block.new.out w.read_block-block.result.len w.read_block-block.result.is_lost w.add_block.new.bytes.items w.add_block.new.lost.items =
          record { bytes = w.in_ok-add_block.ensures.bytes; marks = w.in_ok-add_block.ensures.lost; few = w.read_block-block.ensures.within; full = full } in
          let bytes = w.add_block.new.bytes.items in
          rw (w.raw-is, w.bytes-is, w.lost-is)
          (blocks_end adds {raw = Some bytes} {was = Some bytes} _ _ _ _ refl c.loop-number.invariant.marks
          c.loop-number.invariant.size refl c.loop-number.invariant.image.counted w.read_block-block.ensures.image.counted
          (c.loop-number.invariant.own bytes (begins_so_far adds bytes (begins_itself bytes)))
          ((rw c.loop-number.invariant.image.same_fails at w.read_block-block.ensures.own) bytes
          (block_stands adds bytes _ (omega (arith, c.loop-number.invariant.size)) (begins_itself bytes))
          (λ short. omega (arith, length-next adds, c.loop-number.invariant.size)))
          w.if-block-lt-BLOCK_BYTES.true)
    ]
