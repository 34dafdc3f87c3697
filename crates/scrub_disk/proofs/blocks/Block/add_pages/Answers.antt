-- One more page of the block.
use Rattle.std.proofs.Common.{rules, arith, ◌≡◌, ◌≤◌, ◌+◌, ◌-◌, ◌*◌, ◌∙◌, length, get_or, true, false, replicate}
use Rattle.std.specs.Bool.{OnFalse}
use Rattle.std.proofs.Math.Nat.{mul-le-mul_left}
use Rattle.std.specs.List.{between}
use Rattle.std.proofs.lemmas.List.{get_or_default}
use Rattle.std.proofs.lemmas.List.Edits.{length-between}
use Rattle.scrub_disk.proofs.StoredPages.{adds_more}
use Rattle.scrub_disk.proofs.blocks.Block.add_pages.Goals as goal

pub loop-number-preserved : goal.loop-number-preserved
loop-number-preserved c =
    let n = c.loop-number.number in
    let P = c.args.page in
    let bytes = c.args.bytes.now in
    let below : n + 1 ≤ length c.args.unreadable.now = search rules in
    let room : P * (n + 1) ≤ P * length c.args.unreadable.now = mul-le-mul_left P below in
    let fits : n * P + P ≤ length bytes = omega (arith, room, c.requires.whole) in
    let piece : length (between (n * P) (n * P + P) bytes) ≡ P =
    length-between bytes (n * P) (n * P + P) fits ∙ (let e : n * P + P - n * P ≡ P = omega arith in e) in
    let flag : get_or c.args.unreadable.now n true ≡ get_or c.args.unreadable.now n false =
    get_or_default c.args.unreadable.now n true false (omega (arith, below)) in
    let zeros : OnFalse (get_or c.args.unreadable.now n true) (OnFalse c.is_kept.result (between (n * P) (n * P + P) bytes ≡ replicate P 0)) =
    rw flag (rw piece at c.is_kept.ensures) in
    record {
      pages = rw piece at c.in_ok-stored.ensures.pages;
      stored = rw piece at c.in_ok-stored.ensures.stored;
      few = omega (arith, c.in_ok-stored.ensures.few, c.loop-number.invariant.few);
      added =
          adds_more P n c.args.self.now c.loop-number.self c.add.new.self bytes c.args.unreadable.now c.is_kept.result
          c.requires.page fits c.loop-number.invariant.added (rw piece at c.in_ok-stored.ensures.text) zeros;
    }
