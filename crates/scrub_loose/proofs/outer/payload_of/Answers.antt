-- The bytes of the payload, as the code cuts them out.
use Rattle.std.proofs.Common.{◌+◌, ◌∙◌, List, ℕ, ap, drop, length, take}
use Rattle.scrub_frame.specs.Frame.{payload_start}
use Rattle.scrub_scan.specs.steps.OneFrame.{one_frame_at}
use Rattle.scrub_loose.specs.steps.Held.{extent_held}
use Rattle.scrub_loose.proofs.ClaimedBytes.{cut_payload, payload_held}
use Rattle.scrub_loose.proofs.outer.payload_of.Goals as goal

pub returns : goal.returns
returns c = λ b k.
    let x = c.args.inside.now in
    let s = c.args.frame.now in
    let stands = c.requires.stands in
    let same = one_frame_at (extent_held x) s.offset s.form s.uuid stands.payload s.form s.uuid b stands.frame k in
    cut_payload c.deref.result.now x.bytes.items s.form s.offset c.payload_start.result s.length c.deref.ensures.value c.payload_start.ensures.value
    ∙ ap (λ n. take n (drop (s.offset + payload_start s.form) x.bytes.items)) (stands.length ∙ ap (λ (ys : List ℕ). length ys) same.2)
    ∙ payload_held x.page x.bytes.items x.readable.items s.offset s.form s.uuid b k
