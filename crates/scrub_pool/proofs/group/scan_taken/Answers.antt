-- One more result, of the extent that is held.
use Rattle.std.proofs.Common.{rules, ◌≡◌, ◌+◌, ◌++◌, ◌∷◌, ◌∙◌, [], List, ℕ, Some, ap, append_assoc, arith, drop, length, refl, sym, take}
use Rattle.std.specs.Vec.Iter.{into_iter_items, into_iter_len}
use Rattle.std.proofs.lemmas.List.Elements.{All-rest}
use Rattle.std.proofs.lemmas.Option.{slice_get_past}
use Rattle.list_facts.proofs.Elements.{All-first, length_of_one_more}
use Rattle.scrub_super.specs.Plan.{pointer_of}
use Rattle.scrub_scan.specs.declared.extent_result.ExtentResult.{ExtentResult}
use Rattle.scrub_scan.specs.Scanned.{result_image}
use Rattle.scrub_book.specs.Extents.{extents_in}
use Rattle.scrub_book.specs.Worker.{results_of, taken_by}
use Rattle.scrub_pool.proofs.Crews.{results_push}
use Rattle.scrub_pool.proofs.Groups.{next_of, one_then}
use Rattle.scrub_pool.proofs.group.scan_taken.Goals as goal

pub done-requires-after_bounds : goal.done-requires-after_bounds
done-requires-after_bounds g c = λ κs within.
    let h = c.loop-found.invariant in
    let now : List (ExtentResult g.row.D.Denot g.D.PageSource) = into_iter_items c.loop-found.found-iterator in
    let rest : List (ExtentResult g.row.D.Denot g.D.PageSource) = into_iter_items c.next.new.self in
    let next : now ≡ c.in-Some.found ∷ rest = search rules in
    h.held
    ∙ (next_of c.args.group.now c.loop-found.done c.in-Some.found.extent (extents_in rest)
    (sym (ap (λ (l : List (ExtentResult g.row.D.Denot g.D.PageSource)). extents_in l) next) ∙ h.extents)).0

pub loop-found-preserved : goal.loop-found-preserved
loop-found-preserved g c =
    let h = c.loop-found.invariant in
    let image = g.D.PageSource.image c.args.disk.now in
    let plan = c.args.job.now.plan.now in
    let group = c.args.group.now in
    let done = c.loop-found.done in
    let found : ExtentResult g.row.D.Denot g.D.PageSource = c.in-Some.found in
    let now : List (ExtentResult g.row.D.Denot g.D.PageSource) = into_iter_items c.loop-found.found-iterator in
    let rest : List (ExtentResult g.row.D.Denot g.D.PageSource) = into_iter_items c.next.new.self in
    let next : now ≡ found ∷ rest = search rules in
    let size : length now ≡ length (found ∷ rest) = ap (λ (l : List (ExtentResult g.row.D.Denot g.D.PageSource)). length l) next in
    let step = next_of group done found.extent (extents_in rest)
    (sym (ap (λ (l : List (ExtentResult g.row.D.Denot g.D.PageSource)). extents_in l) next) ∙ h.extents) in
    let taken = taken_by c.loop-found.core in
    let more : results_of c.hold.new.core ≡ results_of c.loop-found.core ++ found ∷ [] = c.hold.ensures.results ∙ c.done.ensures.results in
    let count : done + 1 + into_iter_len c.next.new.self ≡ length group = search rules in
    record {
      extents = step.1;
      count = count;
      long = omega (arith, count, h.count, h.long, size);
      held = c.hold.ensures.held;
      taken =
          ap (λ (l : List ℕ). l ++ drop (done + 1 + 1) group)
          (c.hold.ensures.taken ∙ ap (λ (l : List ℕ). l ++ take 1 (drop (done + 1) group)) c.done.ensures.taken)
          ∙ append_assoc taken (take 1 (drop (done + 1) group)) (drop (done + 1 + 1) group)
          ∙ ap (λ (l : List ℕ). taken ++ l) (one_then group (done + 1)) ∙ h.taken;
      room = omega (arith, h.room, size, c.hold.ensures.spare, c.done.ensures.spare);
      left = (
        All-rest (λ r. result_image r ≡ image) found rest now next h.left.0,
        All-rest (λ r. pointer_of plan r.extent ≡ Some r.pointer) found rest now next h.left.1,
      );
      results =
          results_push image plan (results_of c.loop-found.core) (results_of c.hold.new.core) found found.extent more h.results
          (All-first (λ r. result_image r ≡ image) now rest found next h.left.0) refl
          (All-first (λ r. pointer_of plan r.extent ≡ Some r.pointer) now rest found next h.left.1);
      part = c.in-Some-count.ensures.parts ∙ h.part;
      counted = omega (
        arith,
        length_of_one_more (results_of c.loop-found.core) (results_of c.hold.new.core) found more,
        c.in-Some-count.ensures.moved,
        h.counted,
      );
    }

pub returns-in_default-clause-results : goal.returns-in_default-clause-results
returns-in_default-clause-results g c =
    let h = c.loop-found.invariant in
    let image = g.D.PageSource.image c.args.disk.now in
    let plan = c.args.job.now.plan.now in
    let found : ExtentResult g.row.D.Denot g.D.PageSource = c.in-Some.found in
    let now : List (ExtentResult g.row.D.Denot g.D.PageSource) = into_iter_items c.loop-found.found-iterator in
    let rest : List (ExtentResult g.row.D.Denot g.D.PageSource) = into_iter_items c.next.new.self in
    let next : now ≡ found ∷ rest = search rules in
    results_push image plan (results_of c.loop-found.core) (results_of c.hold.new.core) found found.extent
    (c.hold.ensures.results ∙ c.done.ensures.results) h.results
    (All-first (λ r. result_image r ≡ image) now rest found next h.left.0) refl
    (All-first (λ r. pointer_of plan r.extent ≡ Some r.pointer) now rest found next h.left.1)

pub returns-clause-free : goal.returns-clause-free
returns-clause-free g c =
    let h = c.loop-found.invariant in
    let none : into_iter_len c.loop-found.found-iterator ≡ 0 = search rules in
    h.held ∙ slice_get_past c.args.group.now c.loop-found.done (omega (arith, h.count, none))
