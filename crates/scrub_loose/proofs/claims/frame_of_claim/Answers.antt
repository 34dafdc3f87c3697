-- The claim is of a frame if its seal is that of its payload.
use Rattle.std.proofs.Common.{◌≡◌, ◌+◌, ◌-◌, ◌∙◌, ℕ, List, ap, arith, drop, refl, sym, take}
use Rattle.std.proofs.lemmas.Bool.{false≢true}
use Rattle.sha2.specs.Sha256.{sha256}
use Rattle.scrub_frame.specs.declared.form.Form.{Form}
use Rattle.scrub_frame.specs.Frame.{head_size, payload_start, seal, seal_size}
use Rattle.scrub_loose.proofs.ClaimedBytes.{cut_payload, frame_sealed, length-payload, no_frame_sealed}
use Rattle.scrub_loose.proofs.claims.frame_of_claim.Goals as goal

-- the seal, as the code cuts it out
cut_seal : (ys zs : List ℕ) (f : Form) (p s : ℕ) → ys ≡ zs → s ≡ payload_start f →
    take (p + s - (p + 22)) (drop (p + 22) ys) ≡ take (seal_size f) (drop (p + head_size) zs)
cut_seal ys zs f p s same is =
    ap (λ (l : List ℕ). take (p + s - (p + 22)) (drop (p + 22) l)) same
    ∙ ap (λ j. take j (drop (p + 22) zs)) (let e : p + s - (p + 22) ≡ seal_size f = omega (arith, is) in e)

pub returns-then-not-is_sealed-clause-none : goal.returns-then-not-is_sealed-clause-none
returns-then-not-is_sealed-clause-none c =
    let x = c.args.inside.now in
    let h = c.args.head.now in
    let p = c.args.place in
    let payload = cut_payload c.deref.result.now x.bytes.items h.form p c.payload_start.result h.length c.deref.ensures.value c.payload_start.ensures.value in
    no_frame_sealed x.page x.bytes.items x.readable.items p h c.requires.claim
    (λ is.
    false≢true
    (sym c.if-not-is_sealed.true
    ∙ (c.is_sealed.ensures _ c.digest_of-digest.ensures).1
    (cut_seal c.deref-2.result.now x.bytes.items h.form p c.payload_start.result c.deref-2.ensures.value c.payload_start.ensures.value
    ∙ is ∙ ap (seal h.form) (sym payload))))

pub returns-clause-found : goal.returns-clause-found
returns-clause-found c =
    let x = c.args.inside.now in
    let h = c.args.head.now in
    let p = c.args.place in
    let payload = cut_payload c.deref.result.now x.bytes.items h.form p c.payload_start.result h.length c.deref.ensures.value c.payload_start.ensures.value in
    record {
      in_extent = refl;
      at_place = refl;
      stands = record {
        payload = take h.length (drop (p + payload_start h.form) x.bytes.items);
        frame =
            frame_sealed x.page x.bytes.items x.readable.items p h c.requires.claim
            (sym (cut_seal c.deref-2.result.now x.bytes.items h.form p c.payload_start.result c.deref-2.ensures.value c.payload_start.ensures.value)
            ∙ (c.is_sealed.ensures _ c.digest_of-digest.ensures).0 c.if-not-is_sealed.false
            ∙ ap (seal h.form) payload);
        length = sym (length-payload x.page x.bytes.items x.readable.items p h c.requires.claim);
        digest = c.digest_of-digest.ensures ∙ ap sha256 payload;
      };
    }
