use Rattle.std.proofs.Common.{◌+◌, ◌++◌, ◌∷◌, [], ◌∙◌, suc, append_assoc, arith}
use Rattle.std.proofs.Math.Numerals.{add-one}
use Rattle.scrub_scan.specs.Scanned.{scanned}
use Rattle.scrub_check.proofs.PartedPlaces.{passed_further}
use Rattle.scrub_check.proofs.PartedExtents.{none_reclaimable}
use Rattle.scrub_check.proofs.lists.live_and_orphans.part_chunks.Goals as goal

pub loop-found-init : goal.loop-found-init
loop-found-init g c =
    let left = c.into_iter-found-iterator.ensures.into_iter_gives in
    record {
      so_far = λ checked locators. (
        [],
        left ∙ c.results-found-items.ensures.results,
        record {
          sizes = c.in_ok-with_capacity.ensures.items;
          garbage = c.new.ensures.items;
          candidates = c.new-2.ensures.items ∙ none_reclaimable c.args.geometry checked;
        },
      );
      over = c.new-cursor.ensures.over;
      rising = rw (left ∙ c.results-found-items.ensures.results) c.results-found-items.ensures.scanned.rising;
      passed = λ f fs is.
          passed_further c.new-cursor.result 0 0 f.extent 0 c.new-cursor.ensures.passed (omega arith) (λ same. omega arith);
    }

pub add_extent-requires-clause-over : goal.add_extent-requires-clause-over
add_extent-requires-clause-over g c κs within = c.loop-found.invariant.over

pub add_extent-requires-clause-passed : goal.add_extent-requires-clause-passed
add_extent-requires-clause-passed g c κs within =
    c.loop-found.invariant.passed (scanned c.in-Some.found.now) c.next.new.self c.in-Some.ensures.steps

pub loop-found-preserved : goal.loop-found-preserved
loop-found-preserved g c =
    let f = scanned c.in-Some.found.now in
    let step = c.in-Some.ensures.steps in
    let l = c.loop-found.invariant in
    let rising = rw step at l.rising in
    let added = c.in_ok-add_extent.ensures in
    record {
      so_far = λ checked locators.
          let (before, whole, known) = l.so_far checked locators in (
            before ++ f ∷ [],
            append_assoc before (f ∷ []) c.next.new.self ∙ (rw step at whole),
            added.so_far checked before locators known,
          );
      over = added.same ∙ l.over;
      rising = λ k more. rw add-one (rw add-one at (rising (suc k) (omega (arith, more))));
      passed = λ n ns is.
          passed_further c.add_extent.new.cursor (f.extent + 1) 0 n.extent 0 added.passed
          (omega (arith, (rw is at rising) 0 (omega arith)))
          (λ same. omega arith);
    }
