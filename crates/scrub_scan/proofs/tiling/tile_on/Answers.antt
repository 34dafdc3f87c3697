-- One more item, or a return to the first that is none.
use Rattle.std.proofs.Common.{◌≡◌, ◌<◌, ◌≤◌, ◌+◌, ◌*◌, ◌/◌, ◌∙◌, ap, arith, length}
use Rattle.std.proofs.lemmas.Nat.{div_below}
use Rattle.std.proofs.lemmas.Option.{IfSome_then}
use Rattle.list_facts.proofs.Arithmetic.{div_rises}
use Rattle.scrub_scan.specs.steps.Gathering.{AgreesWith, HasReadTo}
use Rattle.scrub_scan.specs.steps.Pages.{target_of}
use Rattle.scrub_scan.proofs.Asked.{calls_so_far, calls_in_all}
use Rattle.scrub_scan.proofs.Gathering.{added_to, grows_none, grows_then, settled_next}
use Rattle.scrub_scan.proofs.Seals.{if_none, numbers_below, numbers_more, read_to, settled_collected, tiles_more, trusted_at}
use Rattle.scrub_scan.proofs.tiling.tile_on.Given.{Over}
use Rattle.scrub_scan.proofs.tiling.tile_on.Goals as goal

pub loop-place-init : goal.loop-place-init
loop-place-init g c =
    let image = g.D.PageSource.image c.args.disk.now in
    let positive : 0 < image.geometry.page = omega (arith, image.geometry.page_least) in
    let settled = c.requires.settled in
    record {
      scans = c.requires.scans;
      collected = settled_collected (target_of image c.args.target.now) c.args.start c.args.payloads.now c.args.collected.now positive settled;
      read = c.requires.read;
      affordable = if_none c.args.collected.now.trusted_from _ settled.untrusted;
      never = λ _. settled.untrusted;
      grows = grows_none c.args.payloads.now;
    }

pub make_room-requires-clause-within : goal.make_room-requires-clause-within
make_room-requires-clause-within g c κs within =
    numbers_below 0 (length c.loop-place.collected.items.items) c.loop-place.collected.pending.items c.loop-place.invariant.collected.tiles.numbers

pub returns-then-right-place-clause-collected : goal.returns-then-right-place-clause-collected
returns-then-right-place-clause-collected g c =
    let image = g.D.PageSource.image c.args.disk.now in
    let positive : 0 < image.geometry.page = omega (arith, image.geometry.page_least) in
    let x = target_of image c.args.target.now in
    settled_collected x c.in_ok-right.right c.make_room.new.payloads c.make_room.new.self positive
    (c.in_ok-right.ensures.settled x c.loop-place.invariant.collected c.if-right-place.true)

pub returns-then-right-place-clause-affordable : goal.returns-then-right-place-clause-affordable
returns-then-right-place-clause-affordable g c =
    let x = target_of (g.D.PageSource.image c.args.disk.now) c.args.target.now in
    if_none c.make_room.new.self.trusted_from _
    (c.in_ok-right.ensures.settled x c.loop-place.invariant.collected c.if-right-place.true).untrusted

pub returns-then-right-place-clause-read : goal.returns-then-right-place-clause-read
returns-then-right-place-clause-read g c =
    let image = g.D.PageSource.image c.args.disk.now in
    let t = c.args.target.now in
    let inv = c.loop-place.invariant in
    read_to image t c.loop-place.scanner.pages c.loop-place.collected.trusted_from c.loop-place.place c.in_ok-right.right inv.read
    inv.affordable (c.in_ok-right.ensures.right (target_of image t) inv.collected)

pub returns-then-right-place-clause-whole : goal.returns-then-right-place-clause-whole
returns-then-right-place-clause-whole g c = λ untrusting.
    let x = target_of (g.D.PageSource.image c.args.disk.now) c.args.target.now in
    let inv = c.loop-place.invariant in
    let right = c.in_ok-right.ensures.right x inv.collected in
    absurd (rw (inv.never untrusting) at (right.1 c.if-right-place.true))

-- what the item cost, and where the next one begins
read_on : (g : Over) (c : goal.In_ok-add g) → HasReadTo (g.D.PageSource.image c.args.disk.now) c.args.target.now c.item_at.new.self.pages c.stop-place.result
read_on g c =
    let image = g.D.PageSource.image c.args.disk.now in
    let t = c.args.target.now in
    let inv = c.loop-place.invariant in
    let q = c.loop-place.place / t.page in
    let k = image.geometry.pages + 5 in
    let asked = inv.read.next c.loop-place-test.true in
    let size : image.geometry.pages * t.page ≡ image.geometry.pages * image.geometry.page =
    ap (λ p. image.geometry.pages * p) c.requires.target.page in
    let below : q < image.geometry.pages =
    div_below c.loop-place.place t.page image.geometry.pages t.positive
    (omega (arith, size, c.requires.target.in_extent, c.loop-place-test.true)) in
    let rises : q ≤ c.stop-place.result / t.page =
    div_rises c.loop-place.place c.stop-place.result t.page t.positive
    (omega (arith, c.stop-place.ensures, c.in_ok-reached.ensures.spans.1)) in
    record {
      asked =
          calls_in_all c.item_at.new.self.pages.asked q image.geometry.pages
          (c.in_ok-reached.ensures.reads.asked (q * k) asked) below;
      read = rw c.stop-place.ensures (c.in_ok-reached.ensures.reads.read inv.read.read);
      next = λ more.
          rw (← (calls_so_far q (c.stop-place.result / t.page) k rises))
          (rw c.stop-place.ensures
          (c.in_ok-reached.ensures.reads.next (q * k) asked (rw c.stop-place.ensures at more)));
    }

pub loop-place-preserved : goal.loop-place-preserved
loop-place-preserved g c =
    let image = g.D.PageSource.image c.args.disk.now in
    let t = c.args.target.now in
    let x = target_of image t in
    let inv = c.loop-place.invariant in
    let place = c.loop-place.place in
    let old = c.trust.new.self in
    let later = c.add.new.self.pending.items in
    let r = c.in_ok-reached.reached in
    let positive : 0 < image.geometry.page = omega (arith, image.geometry.page_least) in
    let right = c.in_ok-right.ensures.right x inv.collected in
    let same : c.in_ok-right.right ≡ place = omega (arith, right.0, c.if-right-place.false) in
    let held = c.trust.ensures.collected x c.make_room.new.payloads (c.in_ok-right.ensures.collected x positive inv.collected same) in
    let is = c.in_ok-reached.ensures.item held.has.rest held.has.gathers in
    let p = c.make_room.new.payloads in
    let more = settled_next old.items.items old.pending.items later held.before held.payloads p c.item_at.new.batch held.has r.item r.is_gathered is.digest held.tiles.count
    (numbers_below 0 (length old.items.items) old.pending.items held.tiles.numbers)
    c.in_ok-add.ensures.gathered c.in_ok-add.ensures.known is.added in
    let rises : place ≤ c.stop-place.result = omega (arith, c.stop-place.ensures, c.in_ok-reached.ensures.spans.1) in
    let tiles = tiles_more x old.trusted_from place c.stop-place.result old.items.items old.pending.items later held.payloads r.item is.digest
    held.tiles c.in_ok-reached.ensures.spans.0 rises c.stop-place.ensures (omega (arith, c.stop-place.ensures, c.in_ok-reached.ensures.spans.2))
    is.item
    (trusted_at old.trusted_from place c.is_some-trusts.result (AgreesWith r.item is.digest) c.is_some-trusts.ensures held.trusted is.compared)
    (numbers_more old.items.items old.pending.items later r.is_gathered held.tiles.numbers c.in_ok-add.ensures.gathered c.in_ok-add.ensures.known)
    more.payloads more.count more.settled_is in
    let now = c.loop-place.scanner.pages.asked in
    let asked = c.in_ok-reached.ensures.reads.asked now (record { most = omega arith; unread = λ _. omega arith }) in
    record {
      scans = c.in_ok-reached.ensures.scans;
      collected = record {
        before = held.before;
        payloads = more.payloads;
        has = more.has;
        first = c.add.ensures.first ∙ held.first;
        tiles = rw (c.add.ensures.trusted, c.in_ok-add.ensures.items) tiles;
        trusted =
            rw c.add.ensures.trusted
            (IfSome_then old.trusted_from held.trusted (λ s le. omega (arith, le, rises)));
      };
      read = read_on g c;
      affordable =
          rw c.add.ensures.trusted
          (IfSome_then old.trusted_from c.trust.ensures.affordable (λ s le. omega (arith, le, asked)));
      never = λ untrusting.
          c.add.ensures.trusted ∙ c.trust.ensures.never untrusting ∙ c.in_ok-right.ensures.never (inv.never untrusting);
      grows =
          grows_then c.args.payloads.now c.loop-place.payloads _ inv.grows
          (grows_then c.loop-place.payloads p _ c.in_ok-right.ensures.grows
          (λ all h.
          let one = c.in_ok-reached.ensures.item h.rest h.gathers in
          added_to p c.item_at.new.batch all h r.is_gathered _ one.digest one.added));
    }

pub returns-then-right-place-clause-grows : goal.returns-then-right-place-clause-grows
returns-then-right-place-clause-grows g c =
    grows_then c.args.payloads.now c.loop-place.payloads c.make_room.new.payloads c.loop-place.invariant.grows c.in_ok-right.ensures.grows

pub returns-clause-whole : goal.returns-clause-whole
returns-clause-whole g c = λ untrusting.
    let inv = c.loop-place.invariant in
    (omega (arith, inv.collected.tiles.within, c.loop-place-test.false), inv.never untrusting)
