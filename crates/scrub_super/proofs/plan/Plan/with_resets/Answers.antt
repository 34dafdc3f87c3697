-- All but the write pointers is copied.
use Rattle.std.proofs.Common.{◌∙◌, ap}
use Rattle.scrub_super.specs.Reset.{pointers_reset}
use Rattle.scrub_super.proofs.Resets.{reset_within}
use Rattle.scrub_super.proofs.plan.Plan.with_resets.Goals as goal

pub invariant_of-result : goal.invariant_of-result
invariant_of-result c =
    record {
      extents = rw (c.in_ok-from_slice.ensures.items ∙ c.deref.ensures.value) c.self.invariant.extents;
      retired = rw (c.in_ok-from_slice-2.ensures.items ∙ c.deref-2.ensures.value) c.self.invariant.retired;
      in_use = rw (c.in_ok-from_slice.ensures.items ∙ c.deref.ensures.value, c.in_ok-from_slice-2.ensures.items ∙ c.deref-2.ensures.value) c.self.invariant.in_use;
      within =
          rw (c.in_ok-pointers_reset.ensures ∙ ap (pointers_reset c.args.extents.now) c.deref-3.ensures.value)
          (reset_within c.self.inside.geometry c.args.extents.now c.self.inside.pointers.items c.self.invariant.within);
      located = rw (c.in_ok-from_slice-3.ensures.items ∙ c.deref-4.ensures.value) c.self.invariant.located;
    }
