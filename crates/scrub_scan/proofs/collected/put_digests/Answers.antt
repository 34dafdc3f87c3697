-- One more digest is put in, or is no seal.
use Rattle.std.proofs.Common.{◌≡◌, ◌∙◌, ap, arith, get_or, length, refl, true, false}
use Rattle.std.proofs.lemmas.List.{drop_all, length-map, length-set}
use Rattle.sha2.specs.Sha256.{sha256}
use Rattle.scrub_scan.proofs.Seals.{put_none, put_one, tiles_all}
use Rattle.scrub_scan.proofs.collected.put_digests.Goals as goal

differ : false ≡ true → ⊥
differ e = cc

pub loop-k-preserved : goal.loop-k-preserved
loop-k-preserved c =
    let inv = c.loop-k.invariant in
    let k = c.loop-k.k in
    let i = get_or c.args.pending.now k 0 in
    record {
      size = length-set c.loop-k.items.items i c.with_digest.result ∙ inv.size;
      tiles = λ x from payloads h all.
          rw c.with_digest.ensures
          (put_one x from c.args.place c.loop-k.items.items c.args.pending.now payloads c.args.digests.now k i c.index.result.now _ _
          (inv.tiles x from payloads h all) all (omega arith) (omega arith) refl c.index.ensures refl (c.if-not-agrees_with.ensures.0 refl));
    }

pub returns-then-not-agrees_with : goal.returns-then-not-agrees_with
returns-then-not-agrees_with c = λ x from payloads h all.
    let inv = c.loop-k.invariant in
    let k = c.loop-k.k in
    let i = get_or c.args.pending.now k 0 in
    rw (c.start.ensures, c.truncate.ensures.items)
    (put_none x from c.args.place c.loop-k.items.items c.args.pending.now payloads c.args.digests.now k i c.index.result.now _ _
    (inv.tiles x from payloads h all) all (omega arith) (omega arith) refl c.index.ensures refl
    (λ agrees. differ (c.if-not-agrees_with.ensures.1 agrees)))

pub returns : goal.returns
returns c = λ x from payloads h all.
    let inv = c.loop-k.invariant in
    let k = c.loop-k.k in
    let held = inv.tiles x from payloads h all in
    let size : length c.args.digests.now ≡ length payloads = ap length all ∙ length-map payloads sha256 in
    let pending = drop_all k c.args.pending.now (omega (arith, size, h.count)) in
    let rest = drop_all k payloads (omega (arith, size, h.count)) in
    let tiled = tiles_all x from c.args.place c.loop-k.items.items (rw (pending, rest) at held) in
    (tiled, (omega arith, λ less. absurd (omega (arith, less))))
