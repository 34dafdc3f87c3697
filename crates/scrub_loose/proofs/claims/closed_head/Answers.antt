-- What a head says, and why bytes that differ from it begin with no claim.
use Rattle.std.proofs.Common.{arith, ◌≡◌, ◌+◌, ◌-◌, ℕ, List, take, drop, ap, sym, ◌∙◌}
use Rattle.list_facts.proofs.Slices.{ne_false, ne_true}
use Rattle.scrub_frame.specs.declared.form.Form.{Form}
use Rattle.scrub_frame.specs.Frame.{payload_start, close_size}
use Rattle.scrub_frame.proofs.Frames.{begins_with_head, overhead}
use Rattle.scrub_loose.proofs.ClaimedBytes.{other_close, too_short}
use Rattle.scrub_loose.proofs.claims.closed_head.Goals as goal

-- the part of the bytes, as the code cuts it out
cut_close : (y : List ℕ) (f : Form) (start n k : ℕ) → start ≡ payload_start f → k ≡ close_size f →
    take (start + n + k - (start + n)) (drop (start + n) y) ≡ take (close_size f) (drop (payload_start f + n) y)
cut_close y f start n k hs hk =
    ap (λ j. take (j + n + k - (j + n)) (drop (j + n) y)) hs
    ∙ ap (λ j. take j (drop (payload_start f + n) y))
    (let e : payload_start f + n + k - (payload_start f + n) ≡ close_size f = omega arith in e)

pub returns-then-bytes-end-clause-none : goal.returns-then-bytes-end-clause-none
returns-then-bytes-end-clause-none c =
    let head = c.in_ok-head.head in
    let h =
    begins_with_head c.in_ok-first_chunk.field-0.now c.args.bytes.now head.form head.uuid head.length c.in_ok-first_chunk.ensures.cases
    (omega arith) c.in_ok-head.ensures.found in
    λ k. too_short c.args.bytes.now head.uuid head.form head.length k h (omega arith)

pub returns-then-ne-clause-none : goal.returns-then-ne-clause-none
returns-then-ne-clause-none c =
    let y = c.args.bytes.now in
    let head = c.in_ok-head.head in
    let h =
    begins_with_head c.in_ok-first_chunk.field-0.now y head.form head.uuid head.length c.in_ok-first_chunk.ensures.cases
    (omega arith) c.in_ok-head.ensures.found in
    λ k. other_close y head.uuid head.form head.length k h
    (λ same. ne_true _ _ c.ne.result c.ne.ensures c.if-ne.true
    (cut_close y head.form c.payload_start.result head.length c.close_bytes-close.result c.payload_start.ensures.value c.close_bytes-close.ensures.value
    ∙ same ∙ sym (ap (λ j. take j c.close.result) c.close_bytes-close.ensures.value ∙ c.close.ensures)))

pub returns-clause-found : goal.returns-clause-found
returns-clause-found c =
    let y = c.args.bytes.now in
    let head = c.in_ok-head.head in
    let h =
    begins_with_head c.in_ok-first_chunk.field-0.now y head.form head.uuid head.length c.in_ok-first_chunk.ensures.cases
    (omega arith) c.in_ok-head.ensures.found in
    record {
      sixteen = h.sixteen;
      short = h.short;
      head_is = h.head_is;
      enough = omega (arith, overhead head.form);
      close_is =
          sym (cut_close y head.form c.payload_start.result head.length c.close_bytes-close.result c.payload_start.ensures.value c.close_bytes-close.ensures.value)
          ∙ ne_false _ _ c.ne.result c.ne.ensures c.if-ne.false
          ∙ ap (λ j. take j c.close.result) c.close_bytes-close.ensures.value ∙ c.close.ensures;
    }
