-- One more read brought the bytes after those so far.
use Rattle.std.proofs.Common.{rules, arith, length, ◌≡◌, ◌-◌, ◌≤◌}
use borrow.Rule.Slice.PartMut.{put_mid}
use Rattle.scrub_disk.proofs.ReadAhead.{rest_more}
use Rattle.scrub_disk.proofs.Writes.{length-put}
use Rattle.scrub_disk.proofs.filling.fill.Goals as goal

pub loop-done-preserved : goal.loop-done-preserved
loop-done-preserved g c =
    let within : c.loop-done.done ≤ length c.loop-done.out = omega arith in
    let piece : length c.read_at.new.out ≡ length c.loop-done.out - c.loop-done.done = search rules in
    let kept : length (put_mid c.loop-done.done (length c.loop-done.out - c.loop-done.done) c.loop-done.out c.read_at.new.out) ≡ length c.loop-done.out =
    length-put c.loop-done.out c.read_at.new.out c.loop-done.done (length c.loop-done.out - c.loop-done.done)
    (omega arith) piece in
    record {
      same_bytes = cc;
      same_fails = cc;
      same_bound = cc;
      failures = search rules;
      reads = omega arith;
      within = omega (arith, c.in_ok-more.ensures.read.within, kept, piece);
      so_far =
          rest_more (g.R.RawImage.bytes c.args.raw.now) (g.R.RawImage.bytes c.loop-done.raw) c.args.offset
          c.loop-done.done c.in_ok-more.more c.loop-done.out c.read_at.new.out
          c.loop-done.invariant.same_bytes within piece c.loop-done.invariant.so_far c.in_ok-more.ensures.read;
    }
