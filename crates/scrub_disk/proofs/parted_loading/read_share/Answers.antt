-- One more block.
use Rattle.std.proofs.Common.{rules, arith, ◌≡◌, ◌≤◌, ◌+◌, ◌-◌, ◌++◌, ◌∙◌, ap, length, refl, sym}
use Rattle.std.proofs.lemmas.List.{with_items_is}
use Rattle.scrub_disk.proofs.JoinedBlocks.{blocks_read, few_pages, more_blocks, pages_more}
use Rattle.scrub_disk.proofs.RawImages.{read_on_more}
use Rattle.scrub_disk.proofs.parted_loading.read_share.Goals as goal

pub read_block-requires-clause-few_reads : goal.read_block-requires-clause-few_reads
read_block-requires-clause-few_reads g c =
    let few = few_pages c.args.division.geometry c.args.division.stride c.args.first c.loop-number.number in
    omega (arith, few, c.loop-number.invariant.reads, c.requires.few_reads)

pub returns-in_err-read_block-clause-reads : goal.returns-in_err-read_block-clause-reads
returns-in_err-read_block-clause-reads g c =
    let d = c.args.division in
    let below : c.args.first ≤ c.loop-number.number = search rules in
    let few = few_pages d.geometry d.stride c.args.first (c.loop-number.number + 1) in
    let sum = pages_more d.geometry d.stride c.args.first c.loop-number.number (c.loop-number.number + 1) (d.geometry.page + 1) below (omega arith) in
    omega (arith, few, sum, c.loop-number.invariant.reads, c.read_block.ensures.reads)

pub returns-in_err-add-clause-reads : goal.returns-in_err-add-clause-reads
returns-in_err-add-clause-reads g c =
    let d = c.args.division in
    let below : c.args.first ≤ c.loop-number.number = search rules in
    let few = few_pages d.geometry d.stride c.args.first (c.loop-number.number + 1) in
    let sum = pages_more d.geometry d.stride c.args.first c.loop-number.number (c.loop-number.number + 1) (d.geometry.page + 1) below (omega arith) in
    omega (arith, few, sum, c.loop-number.invariant.reads, c.read_block.ensures.reads)

pub returns-clause-reads : goal.returns-clause-reads
returns-clause-reads g c =
    let few = few_pages c.args.division.geometry c.args.division.stride c.args.first c.loop-number.number in
    omega (arith, few, c.loop-number.invariant.reads)

pub loop-number-preserved : goal.loop-number-preserved
loop-number-preserved g c =
    let d = c.args.division in
    let n = c.loop-number.number in
    let part = c.loop-number.part in
    let more = c.in_ok-read_block.field-0 in
    let all = c.add.new.self in
    let below : c.args.first ≤ n = search rules in
    let next : n ≡ c.args.first + (n - c.args.first) = omega (arith, below) in
    let sum = pages_more d.geometry d.stride c.args.first n (n + 1) (d.geometry.page + 1) below (omega arith) in
    let kept : length c.read_block.new.buffer ≡ length c.loop-number.buffer.items = search rules in
    let blocks : all.filled.items ≡ part.filled.items ++ more.filled.items = search rules in
    let marks : all.marks.items ≡ part.marks.items ++ more.marks.items = search rules in
    record {
      image = read_on_more c.loop-number.invariant.image c.read_block.ensures.image;
      reads = omega (arith, sum, c.loop-number.invariant.reads, c.read_block.ensures.reads);
      room = ap length (with_items_is c.loop-number.buffer c.read_block.new.buffer (kept ∙ sym c.loop-number.buffer.ok.0)) ∙ kept ∙ c.loop-number.invariant.room;
      shape =
          more_blocks d.geometry d.stride c.args.first (n - c.args.first) n 1 (n + 1 - c.args.first) part.filled.items more.filled.items
          all.filled.items part.marks.items more.marks.items all.marks.items next (omega (arith, below))
          c.loop-number.invariant.shape c.in_ok-read_block.ensures.shape blocks marks;
      read =
          blocks_read d.geometry d.stride c.args.first (n - c.args.first) n 1 _ _
          (g.R.RawImage.failures c.loop-number.raw - g.R.RawImage.failures c.args.raw.now)
          (g.R.RawImage.failures c.read_block.new.raw - g.R.RawImage.failures c.loop-number.raw)
          (g.R.RawImage.failures c.read_block.new.raw - g.R.RawImage.failures c.args.raw.now)
          (g.R.RawImage.bytes c.args.raw.now) (g.R.RawImage.fails c.args.raw.now) part.filled.items more.filled.items
          all.filled.items part.marks.items more.marks.items all.marks.items next refl refl
          (omega (arith, c.loop-number.invariant.image.counted, c.read_block.ensures.image.counted))
          c.loop-number.invariant.shape c.in_ok-read_block.ensures.shape blocks marks
          c.loop-number.invariant.read (rw (c.loop-number.invariant.image.same_bytes, c.loop-number.invariant.image.same_fails) at c.in_ok-read_block.ensures.read);
    }
