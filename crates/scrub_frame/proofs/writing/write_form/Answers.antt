-- What is appended is a frame, part by part.
use Rattle.scrub_frame.proofs.Frames.{appended_in_parts}
use Rattle.scrub_frame.proofs.writing.write_form.Goals as goal

pub returns-clause-ok : goal.returns-clause-ok
returns-clause-ok c =
    rw (c.append-5.ensures.items, c.append-4.ensures.items, c.append_seal.ensures.items, c.append-3.ensures.items, c.append-2.ensures.items, c.append.ensures.items, c.reserve.ensures.items)
    (rw (c.magic.ensures, c.as_bytes.ensures, c.write_u32.ensures, c.close_bytes.ensures.value, c.close.ensures)
    (appended_in_parts c.args.out.now.items c.args.form c.args.uuid c.args.payload.now))
