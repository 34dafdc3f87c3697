use Rattle.std.proofs.Common.{◌≡◌, ◌-◌, ◌*◌, ◌/◌, ◌%◌, ◌^◌, ◌++◌, ◌∷◌, ◌∙◌, ap, sym, refl, arith, length, drop, replicate, List, ℕ, append_assoc, length-drop, Result, Ok, Err, OnErr}
use Rattle.std.proofs.lemmas.List.{drop-append-le, drop_all}
use Rattle.std.specs.Int.{w64, to_be_bytes}
use Rattle.sha2.specs.Sha256.{padded_message}
use Rattle.sha_lanes.specs.declared.batch.Batch.{Batch}
use Rattle.sha_lanes.specs.Gathered.{Gathers}
use Rattle.sha_lanes.proofs.Gathering.{begun_more, grown, one_more, ended}
use Rattle.sha_lanes.proofs.batch.Batch.end.Goals as goal

pub returns-clause-ended : goal.returns-clause-ended
returns-clause-ended c = λ messages next held.
    let batch = c.args.self.now in
    let old = batch.bytes.items in
    let at = batch.begun in
    let pad = c.padding.result.now in
    let bits = c.to_be_bytes.result in
    let all = c.extend_from_slice-2.new.self.items in
    let items : all ≡ old ++ (pad ++ bits) =
    c.in_ok-extend_from_slice-2.ensures.items ∙ ap (λ (xs : List ℕ). xs ++ bits) c.in_ok-extend_from_slice.ensures.items
    ∙ append_assoc old pad bits in
    let size : length next ≡ length old - at = sym (ap length held.next_is) ∙ length-drop at old in
    let same : c.len.result - at ≡ length next = omega (arith, size) in
    let pad_is : pad ≡ 0x80 ∷ replicate ((119 - length next % 64) % 64) 0 = rw same at c.padding.ensures in
    let bits_are : bits ≡ to_be_bytes w64 (length next * 8 % 2 ^ 64) = rw same at c.to_be_bytes.ensures in
    let whole : drop at all ≡ padded_message next =
    ap (drop at) items ∙ drop-append-le at old (pad ++ bits) batch.begun_within
    ∙ rw (held.next_is, pad_is, bits_are) refl in
    let count : c.len-2.result - at ≡ length (drop at (old ++ (pad ++ bits))) =
    omega (arith, length-drop at (old ++ (pad ++ bits)), ap length items) in
    record {
      messages_are = rw (items, c.in_ok-push.ensures.items)
          (one_more (old ++ (pad ++ bits)) batch.spans.items messages _ next
          (ended (old ++ (pad ++ bits)) next at _ (rw items at whole) refl (ap (λ n. n / 64) count) same)
          (grown old (pad ++ bits) at batch.spans.items messages batch.begun_within batch.spans_within held.messages_are));
      next_is = drop_all _ all (omega arith);
    }

refused : {T E : Type 0} (r : Result T E) (other : Batch) (more : List ℕ) (messages : List (List ℕ)) (next : List ℕ)
    → Gathers other messages (next ++ more) → OnErr r ((rest : List ℕ) × Gathers other messages (next ++ rest))
refused (Ok x) other more messages next held = tt
refused (Err e) other more messages next held = (more, held)

pub returns-in_err-extend_from_slice-2-clause-refused : goal.returns-in_err-extend_from_slice-2-clause-refused
returns-in_err-extend_from_slice-2-clause-refused c = λ messages next held.
    let batch = c.args.self.now in
    let pad = c.padding.result.now in
    let items = c.in_err-extend_from_slice-2.ensures.items ∙ c.in_ok-extend_from_slice.ensures.items in
    refused _ _ pad messages next (begun_more batch _ pad messages next items refl refl held)

pub returns-in_err-push-clause-refused : goal.returns-in_err-push-clause-refused
returns-in_err-push-clause-refused c = λ messages next held.
    let batch = c.args.self.now in
    let more = c.padding.result.now ++ c.to_be_bytes.result in
    let items = c.in_ok-extend_from_slice-2.ensures.items
    ∙ ap (λ (xs : List ℕ). xs ++ c.to_be_bytes.result) c.in_ok-extend_from_slice.ensures.items
    ∙ append_assoc batch.bytes.items c.padding.result.now c.to_be_bytes.result in
    refused _ _ more messages next
    (begun_more batch _ more messages next items c.in_err-push.ensures.items refl held)
