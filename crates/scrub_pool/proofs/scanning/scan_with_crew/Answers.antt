use Rattle.std.proofs.Common.{rules, ◌≡◌, ◌++◌, ◌∷◌, ◌∙◌, [], List, ℕ, length, arith, sym, ap, subst}
use Rattle.std.specs.List.Sorted.{IsPermutation}
use Rattle.scrub_book.specs.Worker.{results_of}
use Rattle.scrub_pool.specs.Passes.{one_list, taken_in}
use Rattle.scrub_pool.specs.steps.Working.{lists_in}
use Rattle.scrub_pool.proofs.Joined.{items_push, results_append, all_scanned, long_append, partition_of}
use Rattle.scrub_pool.proofs.scanning.scan_with_crew.Goals as goal

pub returns-clause-workers : goal.returns-clause-workers
returns-clause-workers g c = search rules

pub returns-clause-lists : goal.returns-clause-lists
returns-clause-lists g c =
    let pass = c.take_until_empty.new.pass in
    let joined : pass.joined ≡ lists_in c.in_ok-lists.lists.items = search rules in
    items_push c.in_ok-lists.lists.items c.push.new.self.items c.in_ok-own.own pass.own c.in_ok-push.ensures.items
    (c.in_ok-own.ensures.list ∙ sym (c.in_ok-take_until_empty.ensures.working.1 c.in_ok-take_until_empty.ensures.free))
    ∙ ap (λ l. l ++ pass.own ∷ []) (sym joined)

pub returns-clause-partition : goal.returns-clause-partition
returns-clause-partition g c =
    let pass = c.take_until_empty.new.pass in
    let ended = c.in_ok-take_until_empty.ensures in
    let joined : pass.joined ≡ lists_in c.in_ok-lists.lists.items = search rules in
    let pushed =
    items_push c.in_ok-lists.lists.items c.push.new.self.items c.in_ok-own.own pass.own c.in_ok-push.ensures.items
    (c.in_ok-own.ensures.list ∙ sym (ended.working.1 ended.free)) in
    partition_of c.args.job.now.plan.now.planned pass.own pass.joined (lists_in c.push.new.self.items)
    (pushed ∙ ap (λ l. l ++ pass.own ∷ []) (sym joined)) ended.rising.0 ended.rising.1
    (subst (λ (l : List ℕ). IsPermutation (taken_in pass) l) (search rules)
    (ended.all (search rules) (search rules)))

pub returns-clause-found : goal.returns-clause-found
returns-clause-found g c =
    let image = g.D.PageSource.image c.args.disk.now in
    let plan = c.args.job.now.plan.now in
    let theirs =
    c.in_ok-lists.ensures.results image plan
    (λ k d below. (c.run_crew_and_worker-members.ensures.members k d below).1.2) in
    results_append image plan c.retire_worker.new.found.items c.join_members.new.found.items
    (results_of c.take_until_empty.new.core)
    c.in_ok-own.ensures.found theirs c.in_ok-take_until_empty.ensures.working.2

pub returns-clause-extents : goal.returns-clause-extents
returns-clause-extents g c =
    let pass = c.take_until_empty.new.pass in
    let joined : pass.joined ≡ lists_in c.in_ok-lists.lists.items = search rules in
    all_scanned pass c.retire_worker.new.found.items c.join_members.new.found.items
    (results_of c.take_until_empty.new.core)
    c.args.job.now.plan.now.planned c.in_ok-own.ensures.found
    (c.in_ok-lists.ensures.found ∙ ap one_list (sym joined))
    (c.in_ok-own.ensures.matched ∙ sym (c.in_ok-take_until_empty.ensures.working.1 c.in_ok-take_until_empty.ensures.free)) (search rules)
    (c.in_ok-take_until_empty.ensures.all (search rules) (search rules))

pub returns-clause-counted : goal.returns-clause-counted
returns-clause-counted g c =
    let core = c.take_until_empty.new.core in
    let own : c.take_until_empty.new.share.amount ≡ length (results_of core) =
    c.in_ok-take_until_empty.ensures.counted in
    let others : c.in-Some-Some.theirs.amount ≡ length c.join_members.new.found.items = search rules in
    omega (
      arith,
      c.audit-counted.ensures,
      own,
      others,
      long_append c.retire_worker.new.found.items c.join_members.new.found.items (results_of core)
          c.in_ok-own.ensures.found,
    )
