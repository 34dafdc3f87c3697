use Rattle.std.proofs.Common.{◌++◌, ◌∷◌, [], List, take, refl, sym, ◌∙◌, ap}
use Rattle.std.proofs.lemmas.List.{take_all, append-nil}
use Rattle.scrub_scan.specs.declared.item.Item.{Item}
use Rattle.scrub_check.specs.declared.places.chunk_at.ChunkAt.{ChunkAt}
use Rattle.scrub_check.specs.steps.LiveAndOrphans.{orphans_by, AreLiveBy}
use Rattle.scrub_check.proofs.PartedItems.{fits_next, passed_first, passed_next, passed_at, orphans_more, live_next}
use Rattle.scrub_check.proofs.lists.live_and_orphans.live_among.Goals as goal

pub loop-item-init : goal.loop-item-init
loop-item-init c = record {
  known = record { sizes = refl; kept = c.new.ensures.items };
  left = sym (append-nil c.args.orphans.now.items);
  same = refl;
  passed = passed_first c.args.cursor.now c.args.extent c.args.items.now c.requires.passed;
}

pub put_item-requires-clause-passed : goal.put_item-requires-clause-passed
put_item-requires-clause-passed c =
    passed_at c.loop-item.cursor c.args.extent c.args.items.now c.loop-item.item-index c.item-item.result c.item-item.result
    c.loop-item-test.true c.item-item.is c.loop-item.invariant.passed

pub put_item-requires-clause-fits : goal.put_item-requires-clause-fits
put_item-requires-clause-fits c =
    fits_next c.args.cursor.now.starts.now c.args.extent c.args.items.now c.loop-item.item-index c.item-item.result
    c.item-item.result c.loop-item.live c.loop-item-test.true c.item-item.is
    c.loop-item.invariant.known c.requires.sizes

pub returns-in_err-put_item-clause-same : goal.returns-in_err-put_item-clause-same
returns-in_err-put_item-clause-same c = c.put_item.ensures.same ∙ c.loop-item.invariant.same

pub loop-item-preserved : goal.loop-item-preserved
loop-item-preserved c =
    let starts = c.args.cursor.now.starts.now in
    let e = c.args.extent in
    let items = c.args.items.now in
    let i = c.loop-item.item-index in
    let item = c.item-item.result in
    let l = c.loop-item.invariant in
    let put = c.in_ok-put_item.ensures in
    let known : AreLiveBy c.loop-item.cursor.starts.now e (take i items ++ item ∷ []) c.put_item.new.live =
    put.live (take i items) (rw l.same l.known) in
    record {
      known = live_next starts e items i item item c.put_item.new.live c.loop-item-test.true c.item-item.is
          (rw l.same at known);
      left =
          orphans_more starts e items i item item c.args.orphans.now.items c.loop-item.orphans.items
          c.put_item.new.orphans.items c.loop-item-test.true c.item-item.is l.left
          (put.orphans ∙ ap (λ (ss : List ChunkAt). c.loop-item.orphans.items ++ orphans_by ss e (item ∷ [])) l.same);
      same = put.same ∙ l.same;
      passed =
          passed_next c.put_item.new.cursor e items i item item c.requires.rising c.loop-item-test.true c.item-item.is
          put.passed;
    }

pub returns-clause-live : goal.returns-clause-live
returns-clause-live c =
    rw (take_all c.loop-item.item-index c.args.items.now c.loop-item-test.false) at c.loop-item.invariant.known

pub returns-clause-orphans : goal.returns-clause-orphans
returns-clause-orphans c =
    c.loop-item.invariant.left
    ∙ ap (λ (is : List Item). c.args.orphans.now.items ++ orphans_by c.args.cursor.now.starts.now c.args.extent is)
    (take_all c.loop-item.item-index c.args.items.now c.loop-item-test.false)

pub returns-clause-same : goal.returns-clause-same
returns-clause-same c = c.loop-item.invariant.same

pub returns-clause-passed : goal.returns-clause-passed
returns-clause-passed c = c.loop-item.invariant.passed.end
