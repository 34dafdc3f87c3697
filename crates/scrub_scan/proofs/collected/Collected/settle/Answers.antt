-- The digests of the pending items stand between others.
use Rattle.std.proofs.Common.{◌++◌, ◌∙◌, ap, arith, length, refl}
use Rattle.std.proofs.lemmas.List.{length-map}
use Rattle.sha2.specs.Sha256.{sha256}
use Rattle.scrub_scan.specs.Extent.{Extent}
use Rattle.scrub_scan.specs.steps.Gathering.{IsLeft, IsRightTo, TiledTo}
use Rattle.scrub_scan.proofs.Gathering.{digests_between, grows_none}
use Rattle.scrub_scan.proofs.collected.Collected.settle.Goals as goal

put : (c : goal.After-self-2-1) (x : Extent) → IsLeft x c.args.place c.args.payloads.now c.args.self.now
    → TiledTo x c.put_digests-right.result c.put_digests-right.new.items.items × IsRightTo c.args.place c.args.self.now.trusted_from c.put_digests-right.result
put c x held =
    let self = c.args.self.now in
    let all = c.in_ok-hash.ensures (held.before ++ (held.payloads ++ held.after)) held.has in
    c.put_digests-right.ensures x self.trusted_from held.payloads (rw c.deref.ensures.value held.tiles)
    (c.digests_of-digests.ensures
    ∙ digests_between held.before held.payloads held.after c.hash.new.self.digests.items self.first c.len.result all.0 held.first
    (omega (arith, c.len.ensures, held.tiles.count)))

pub returns-clause-settled : goal.returns-clause-settled
returns-clause-settled c = λ x held.
    let every = held.before ++ (held.payloads ++ held.after) in
    let all = c.in_ok-hash.ensures every held.has in
    record {
      tiled = (put c x held).0;
      none = c.clear.ensures.items;
      before = every;
      has = all.1;
      first = omega (arith, c.len-self.ensures, ap length all.0, length-map every sha256);
      untrusted = refl;
    }

pub returns-clause-right : goal.returns-clause-right
returns-clause-right c = λ x held. (put c x held).1

pub returns-clause-grows : goal.returns-clause-grows
returns-clause-grows c = λ all h. grows_none c.hash.new.self all (c.in_ok-hash.ensures all h).1
