use Rattle.std.proofs.Common.{◌≡◌, ◌+◌, ◌-◌, ◌++◌, true, All, map, length, sum_by, vec_len}
use Rattle.std.specs.Vec.Iter.{into_iter_items, into_iter_len}
use Rattle.scrub_disk.specs.Image.{Image}
use Rattle.scrub_super.specs.Plan.{PlanValue}
use Rattle.scrub_book.specs.Extents.{extents_in}
use Rattle.scrub_book.specs.Worker.{results_of}
use Rattle.scrub_pool.specs.Passes.{one_list}
use Rattle.scrub_pool.specs.steps.Working.{AreResults, IsThrough}
use Rattle.scrub_pool.proofs.scanning.join_members.Given as goal

-- the members so far are joined, and the others are still to come
abbrev pub invariant-loop-member : goal.invariant-loop-member
invariant-loop-member g l =
    let lists = map (λ v. v.items) l.lists.items in
    let was = l.initial.first in record {
      first : l.first ≡ record was { joined = was.joined ++ lists; out = was.out - vec_len l.lists };
      queue : l.first.queue ≡ l.queue;
      is_first : l.first.first ≡ true;
      count : vec_len l.lists + into_iter_len l.member-iterator ≡ vec_len l.fn.members;
      through : All (λ m. IsThrough l.queue m) (into_iter_items l.member-iterator);
      found : extents_in l.found.items ≡ one_list lists;
      sum : length l.found.items + sum_by (λ m. length (results_of m.core)) (into_iter_items l.member-iterator) ≡ sum_by (λ m. length (results_of m.core)) l.fn.members.items;
      results : (image : Image) (plan : PlanValue) →
          All (λ m. AreResults image plan (results_of m.core)) l.fn.members.items →
          AreResults image plan l.found.items × All (λ m. AreResults image plan (results_of m.core)) (into_iter_items l.member-iterator);
    }
