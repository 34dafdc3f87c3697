-- The twenty-two bytes are the head that was made of them.
use Rattle.std.proofs.Common.{◌∙◌, sym}
use Rattle.scrub_frame.proofs.Frames.{head_read, first_two}
use Rattle.scrub_frame.proofs.frame.read_head.Goals as goal

pub returns-clause-found : goal.returns-clause-found
returns-clause-found c =
    head_read c.args.bytes.now c.uuid_at.result c.in_ok-form.form c.read_u32.result c.told-bytes c.fits-bytes
    c.in_ok-form.ensures.found c.uuid_at.ensures c.read_u32.ensures

pub returns-in_err-form-clause-none : goal.returns-in_err-form-clause-none
returns-in_err-form-clause-none c =
    rw c.from_residual.ensures
    (λ form same. c.in_err-form.ensures.none form (sym (first_two c.args.bytes.now c.told-bytes) ∙ same))
