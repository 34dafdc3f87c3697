-- What is right once digests were compared, and how far was read.
use Rattle.std.proofs.Common.{◌≡◌, arith, inl, inr, length}
use Rattle.std.proofs.lemmas.Bool.{cases_lt}
use Rattle.std.proofs.lemmas.Result.{IfOk-weaker}
use Rattle.scrub_scan.specs.steps.Gathering.{Grows, HasReadTo, IsRightTo}
use Rattle.scrub_scan.specs.steps.Pages.{target_of}
use Rattle.scrub_scan.proofs.Gathering.{grows_then}
use Rattle.scrub_scan.proofs.Seals.{collected_left, numbers_below, read_to}
use Rattle.scrub_scan.proofs.tiling.tile_from.Goals as goal

pub settle-requires : goal.settle-requires
settle-requires g c = record {
  within =
      numbers_below 0 (length c.tile_on.new.collected.items.items) c.tile_on.new.collected.pending.items
      c.in_ok-place.ensures.collected.tiles.numbers;
}

pub returns-clause-settled : goal.returns-clause-settled
returns-clause-settled g c =
    let x = target_of (g.D.PageSource.image c.args.disk.now) c.args.target.now in
    c.settle.ensures.settled x (collected_left x c.in_ok-place.place c.tile_on.new.payloads c.tile_on.new.collected c.in_ok-place.ensures.collected)

pub returns-clause-read : goal.returns-clause-read
returns-clause-read g c =
    let image = g.D.PageSource.image c.args.disk.now in
    let t = c.args.target.now in
    let from = c.tile_on.new.collected.trusted_from in
    let p = c.tile_on.new.scanner.pages in
    IfOk-weaker c.settle.result (IsRightTo c.in_ok-place.place from) (HasReadTo image t p)
    (λ right is. read_to image t p from c.in_ok-place.place right c.in_ok-place.ensures.read c.in_ok-place.ensures.affordable is)
    (c.settle.ensures.right (target_of image t) (collected_left (target_of image t) c.in_ok-place.place c.tile_on.new.payloads c.tile_on.new.collected c.in_ok-place.ensures.collected))

pub returns-clause-whole : goal.returns-clause-whole
returns-clause-whole g c = λ untrusting.
    let image = g.D.PageSource.image c.args.disk.now in
    let t = c.args.target.now in
    let place = c.in_ok-place.place in
    let from = c.tile_on.new.collected.trusted_from in
    let whole = c.in_ok-place.ensures.whole untrusting in
    IfOk-weaker c.settle.result (IsRightTo place from) (λ right. right ≡ t.pointer)
    (λ right is. elim (cases_lt right place) [
      | inl less ↦ absurd (rw whole.1 at (is.1 less))
      | inr same ↦ omega (arith, same, is.0, whole.0)
    ])
    (c.settle.ensures.right (target_of image t) (collected_left (target_of image t) c.in_ok-place.place c.tile_on.new.payloads c.tile_on.new.collected c.in_ok-place.ensures.collected))

pub returns-clause-grows : goal.returns-clause-grows
returns-clause-grows g c =
    let old = c.args.payloads.now in
    let p = c.tile_on.new.payloads in
    let q = c.settle.new.payloads in
    IfOk-weaker c.settle.result (λ _. Grows p q) (λ _. Grows old q) (λ _ then. grows_then old p q c.in_ok-place.ensures.grows then) c.settle.ensures.grows
