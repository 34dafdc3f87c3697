use Rattle.std.proofs.Common.{rules, arith, ◌≡◌, ◌<◌, ◌%◌, length}
use Rattle.std.specs.List.{between}
use Rattle.std.proofs.Math.Nat.{mod-lt}
use Rattle.std.proofs.lemmas.List.Edits.{length-between}
use Rattle.scrub_scan.proofs.BytesAt.{part_stands}
use Rattle.scrub_scan.proofs.reading.append_part.Goals as goal

pub returns-clause-part : goal.returns-clause-part
returns-clause-part g c =
    let image = g.D.PageSource.image c.args.disk.now in
    let pos : 0 < length c.args.buffer.now = omega (arith, c.requires.one_page, image.geometry.page_least) in
    let offset : c.args.place % length c.args.buffer.now < length c.args.buffer.now = mod-lt c.args.place pos in
    let l : length c.read_page.new.out ≡ length c.args.buffer.now = c.read_page.auto.out in (
      omega (arith, c.min-last.ensures, offset),
      record {
        some = omega (arith, c.min-last.ensures, offset, c.requires.some);
        part = between (c.args.place % length c.args.buffer.now) c.min-last.result c.read_page.new.out;
        count =
            length-between c.read_page.new.out (c.args.place % length c.args.buffer.now) c.min-last.result
            (omega (arith, c.min-last.ensures, l));
        bytes =
            part_stands image c.args.extent c.args.place c.min-last.result (length c.args.buffer.now)
            c.read_page.new.out
            c.requires.one_page (omega (arith, c.requires.in_extent, c.requires.some)) (search rules) l
            (omega (arith, c.min-last.ensures));
        appended = c.in_ok-extend_from_slice.ensures.items;
      },
    )
