-- The lists of the restricted plan are planned extents and copies of the plan's own.
use Rattle.std.proofs.Common.{◌≡◌, ◌∙◌, All, true}
use Rattle.std.specs.List.{Contains}
use Rattle.list_facts.proofs.Elements.{All-of_contained}
use Rattle.scrub_super.specs.Planned.{is_in_use}
use Rattle.scrub_super.proofs.Plans.{some_planned}
use Rattle.scrub_super.proofs.plan.Plan.restrict.Goals as goal

pub invariant_of-result : goal.invariant_of-result
invariant_of-result c =
    let each : All (Contains c.self.inside.planned.items) c.args.extents.now =
    rw (← c.self.view_is) at c.requires.each_planned in
    record {
      extents = rw c.in_ok-from_slice.ensures.items (some_planned c.self.invariant.extents c.requires.rising each);
      retired = rw (c.in_ok-from_slice-2.ensures.items ∙ c.deref.ensures.value) c.self.invariant.retired;
      in_use = rw (c.in_ok-from_slice.ensures.items, c.in_ok-from_slice-2.ensures.items ∙ c.deref.ensures.value)
          (All-of_contained (λ e. is_in_use c.self.inside.retired.items e ≡ true) c.self.inside.planned.items c.args.extents.now
          c.self.invariant.in_use each);
      within = rw (c.in_ok-from_slice-3.ensures.items ∙ c.deref-2.ensures.value) c.self.invariant.within;
      located = rw (c.in_ok-from_slice-4.ensures.items ∙ c.deref-3.ensures.value) c.self.invariant.located;
    }
