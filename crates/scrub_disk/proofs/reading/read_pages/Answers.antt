-- One more page, which was read whole or is marked.
use Rattle.std.proofs.Common.{arith, length, ◌*◌, ◌<◌}
use Rattle.scrub_disk.proofs.RawImages.{read_on_more}
use Rattle.scrub_disk.proofs.ReadAhead.{held_more_ahead, marks_more_ahead, stands_more_ahead}
use Rattle.scrub_disk.proofs.reading.read_pages.Goals as goal

pub loop-number-preserved : goal.loop-number-preserved
loop-number-preserved g c =
    let below : c.loop-number.number < length c.loop-number.unreadable = omega arith in
    record {
      image = read_on_more c.loop-number.invariant.image c.read_next-is_whole.ensures.image;
      reads = omega arith;
      within = c.read_next-is_whole.ensures.within;
      lost =
          marks_more_ahead (g.R.RawImage.bytes c.args.raw.now) (g.R.RawImage.bytes c.loop-number.raw)
          (g.R.RawImage.fails c.args.raw.now) c.args.first
          c.args.page c.loop-number.number
          (g.R.RawImage.failures c.args.raw.now) (g.R.RawImage.failures c.loop-number.raw)
          (g.R.RawImage.failures c.read_next-is_whole.new.raw) c.loop-number.unreadable c.read_next-is_whole.result.0
          c.loop-number.invariant.image.same_bytes c.loop-number.invariant.image.counted c.read_next-is_whole.ensures.image.counted
          below c.loop-number.invariant.lost
          (rw c.loop-number.invariant.image.same_fails at c.read_next-is_whole.ensures.lost);
      held =
          held_more_ahead (g.R.RawImage.bytes c.args.raw.now) (g.R.RawImage.bytes c.loop-number.raw)
          (c.args.first * c.args.page) c.args.page c.loop-number.number c.loop-number.unreadable c.loop-number.bytes
          c.read_next-is_whole.new.bytes c.read_next-is_whole.result.0
          c.loop-number.invariant.image.same_bytes c.requires.page below c.loop-number.invariant.held
          c.read_next-is_whole.ensures.before c.read_next-is_whole.ensures.whole;
      ahead =
          stands_more_ahead (g.R.RawImage.bytes c.args.raw.now) (g.R.RawImage.bytes c.loop-number.raw)
          (c.args.first * c.args.page) c.args.page c.loop-number.number c.read_next-is_whole.result.1 c.read_next-is_whole.new.bytes
          c.loop-number.invariant.image.same_bytes c.read_next-is_whole.ensures.stands;
    }
