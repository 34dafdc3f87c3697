use Rattle.std.proofs.Common.{rules, ◌≡◌, ◌∷◌, ◌∙◌, map, length, arith, sym, ap}
use Rattle.std.specs.Vec.Iter.{into_iter_items}
use Rattle.std.proofs.lemmas.List.Elements.{All-rest}
use Rattle.list_facts.proofs.Elements.{All-first, sum_by-first_and_rest}
use Rattle.scrub_book.specs.Worker.{results_of}
use Rattle.scrub_pool.specs.Passes.{one_list}
use Rattle.scrub_pool.specs.steps.Working.{AreResults, IsThrough}
use Rattle.scrub_pool.proofs.Joined.{one_list_push, items_push, one_more_joined, no_results, extents_append, long_append, results_append}
use Rattle.scrub_pool.proofs.scanning.join_members.Goals as goal

pub loop-member-init : goal.loop-member-init
loop-member-init g c = let same : c.args.members.items ≡ into_iter_items c.into_iter-member-iterator.result = search rules in record {
  first = search rules;
  queue = search rules;
  is_first = search rules;
  count = search rules;
  through = search rules;
  found = search rules;
  sum = search rules;
  results = λ image plan are. (no_results image plan _ c.requires.nothing, rw same at are);
}

pub returns-clause-results : goal.returns-clause-results
returns-clause-results g c = λ image plan are. (c.loop-member.invariant.results image plan are).0

pub loop-member-preserved : goal.loop-member-preserved
loop-member-preserved g c =
    let inv = c.loop-member.invariant in
    let member = c.in-Some.member in
    let own = member.pass.own in
    let now = into_iter_items c.loop-member.member-iterator in
    let rest = into_iter_items c.next.new.self in
    let next : now ≡ member ∷ rest = search rules in
    let lists = map (λ v. v.items) c.loop-member.lists.items in
    let took = c.in_ok-join_member.ensures in
    let through = All-first (λ m. IsThrough c.args.queue.now m) now rest member next inv.through in
    let pushed =
    items_push c.loop-member.lists.items c.push.new.self.items c.in_ok-join_member.field-0 own
    c.in_ok-push.ensures.items (took.list ∙ sym through.2) in
    record {
      first = one_more_joined _ _ _ lists _ _ _ own inv.first (search rules) pushed (search rules);
      queue = search rules;
      is_first = search rules;
      count = search rules;
      through = All-rest (λ m. IsThrough c.args.queue.now m) member rest now next inv.through;
      found =
          extents_append _ _ (results_of member.core) (one_list lists) own took.found inv.found
          (took.matched ∙ sym through.2)
          ∙ sym (one_list_push lists own) ∙ ap one_list (sym pushed);
      sum = omega (
        arith,
        inv.sum,
        sum_by-first_and_rest (λ m. length (results_of m.core)) now rest member next,
        long_append _ _ (results_of member.core) took.found,
      );
      results = λ image plan are.
          let so_far = inv.results image plan are in (
            results_append image plan _ _ (results_of member.core) took.found so_far.0
                (All-first (λ m. AreResults image plan (results_of m.core)) now rest member next so_far.1),
            All-rest (λ m. AreResults image plan (results_of m.core)) member rest now next so_far.1,
          );
    }
