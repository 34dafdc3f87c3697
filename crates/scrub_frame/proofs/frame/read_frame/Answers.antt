-- What a head says, and why bytes that differ from it hold no frame.
use Rattle.std.proofs.Common.{arith, ◌≡◌, ◌+◌, ◌-◌, ℕ, List, ◌++◌, take, drop, ap, sym, ◌∙◌, Bool, true, false}
use Rattle.list_facts.proofs.Slices.{ne_false, ne_true}
use Rattle.scrub_frame.specs.declared.form.Form.{Form}
use Rattle.scrub_frame.specs.Frame.{head_size, seal, seal_size, payload_start, close_size}
use Rattle.scrub_frame.proofs.Frames.{begins_with_head, overhead, too_short, other_close, other_magic, other_seal, frame_of_parts}
use Rattle.scrub_frame.proofs.frame.read_frame.Goals as goal

not_both : (b : Bool) → b ≡ false → b ≡ true → ⊥
not_both b e h = cc

-- the parts of the bytes, as the code cuts them out
cut_close : (x : List ℕ) (f : Form) (start n k : ℕ) → start ≡ payload_start f → k ≡ close_size f →
    take (start + n + k - (start + n)) (drop (start + n) x) ≡ take (close_size f) (drop (payload_start f + n) x)
cut_close x f start n k hs hk =
    ap (λ j. take (j + n + k - (j + n)) (drop (j + n) x)) hs
    ∙ ap (λ j. take j (drop (payload_start f + n) x))
    (let e : payload_start f + n + k - (payload_start f + n) ≡ close_size f = omega arith in e)

cut_seal : (x : List ℕ) (f : Form) (start : ℕ) → start ≡ payload_start f →
    take (start - 22) (drop 22 x) ≡ take (seal_size f) (drop head_size x)
cut_seal x f start hs = ap (λ j. take j (drop 22 x)) (let e : start - 22 ≡ seal_size f = omega arith in e)

cut_payload : (x : List ℕ) (f : Form) (start n : ℕ) → start ≡ payload_start f →
    take (start + n - start) (drop start x) ≡ take n (drop (payload_start f) x)
cut_payload x f start n hs =
    ap (λ j. take (j + n - j) (drop j x)) hs
    ∙ ap (λ j. take j (drop (payload_start f) x)) (let e : payload_start f + n - payload_start f ≡ n = omega arith in e)

pub returns-in_err-head-clause-none : goal.returns-in_err-head-clause-none
returns-in_err-head-clause-none c =
    rw c.from_residual-in_err-head.ensures
    (other_magic c.in_ok-first_chunk.field-0.now c.args.bytes.now c.in_ok-first_chunk.ensures.cases c.in_err-head.ensures.none)

pub returns-then-bytes-end-clause-none : goal.returns-then-bytes-end-clause-none
returns-then-bytes-end-clause-none c =
    let h =
    begins_with_head c.in_ok-first_chunk.field-0.now c.args.bytes.now c.in_ok-head.head.form c.in_ok-head.head.uuid
    c.in_ok-head.head.length c.in_ok-first_chunk.ensures.cases (omega arith) c.in_ok-head.ensures.found in
    λ g v b f. too_short c.args.bytes.now c.in_ok-head.head.form c.in_ok-head.head.uuid c.in_ok-head.head.length g v b h
    (omega arith) f

pub returns-then-ne-clause-none : goal.returns-then-ne-clause-none
returns-then-ne-clause-none c =
    let x = c.args.bytes.now in
    let h =
    begins_with_head c.in_ok-first_chunk.field-0.now x c.in_ok-head.head.form c.in_ok-head.head.uuid
    c.in_ok-head.head.length c.in_ok-first_chunk.ensures.cases (omega arith) c.in_ok-head.ensures.found in
    λ g v b f. other_close x c.in_ok-head.head.form c.in_ok-head.head.uuid c.in_ok-head.head.length g v b h
    (λ same. ne_true _ _ c.ne.result c.ne.ensures c.if-ne.true
    (cut_close x c.in_ok-head.head.form c.payload_start-start.result c.in_ok-head.head.length c.close_bytes-close.result c.payload_start-start.ensures.value c.close_bytes-close.ensures.value
    ∙ same ∙ sym (ap (λ j. take j c.close.result) c.close_bytes-close.ensures.value ∙ c.close.ensures)))
    f

pub returns-then-not-is_sealed-clause-none : goal.returns-then-not-is_sealed-clause-none
returns-then-not-is_sealed-clause-none c =
    let x = c.args.bytes.now in
    let form = c.in_ok-head.head.form in
    let h =
    begins_with_head c.in_ok-first_chunk.field-0.now x form c.in_ok-head.head.uuid c.in_ok-head.head.length
    c.in_ok-first_chunk.ensures.cases (omega arith) c.in_ok-head.ensures.found in
    λ g v b f. other_seal x form c.in_ok-head.head.uuid c.in_ok-head.head.length g v b h
    (λ same. not_both c.is_sealed.result c.if-not-is_sealed.true
    (c.is_sealed.ensures.1 (cut_seal x form c.payload_start-start.result c.payload_start-start.ensures.value ∙ same ∙ ap (seal form) (sym (cut_payload x form c.payload_start-start.result c.in_ok-head.head.length c.payload_start-start.ensures.value)))))
    f

pub returns-clause-found : goal.returns-clause-found
returns-clause-found c =
    let x = c.args.bytes.now in
    let form = c.in_ok-head.head.form in
    let n = c.in_ok-head.head.length in
    let h =
    begins_with_head c.in_ok-first_chunk.field-0.now x form c.in_ok-head.head.uuid n c.in_ok-first_chunk.ensures.cases
    (omega arith) c.in_ok-head.ensures.found in
    let closed : take (close_size form) (drop (payload_start form + n) x) ≡ c.in_ok-head.head.uuid ++ _ =
    sym
    (cut_close x form c.payload_start-start.result n c.close_bytes-close.result c.payload_start-start.ensures.value c.close_bytes-close.ensures.value)
    ∙ ne_false _ _ c.ne.result c.ne.ensures c.if-ne.false
    ∙ ap (λ j. take j c.close.result) c.close_bytes-close.ensures.value ∙ c.close.ensures in
    let sealed : take (seal_size form) (drop head_size x) ≡ seal form (take n (drop (payload_start form) x)) =
    sym (cut_seal x form c.payload_start-start.result c.payload_start-start.ensures.value)
    ∙ c.is_sealed.ensures.0 c.if-not-is_sealed.false
    ∙ ap (seal form) (cut_payload x form c.payload_start-start.result n c.payload_start-start.ensures.value) in
    rw (let e : payload_start form + n - payload_start form ≡ n = omega arith in e)
    (frame_of_parts x form c.in_ok-head.head.uuid n h.sixteen h.short (omega (arith, overhead form)) h.head_is sealed closed)
