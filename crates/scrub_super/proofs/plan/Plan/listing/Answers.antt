-- What holds of the lists of a plan by given runs.
use Rattle.std.proofs.Common.{◌-◌, arith, refl, []}
use Rattle.scrub_super.proofs.Plans.{in_use_planned, all_in_use, full_pointers, none_retired}
use Rattle.scrub_super.proofs.plan.Plan.listing.Goals as goal

pub invariant_of-result : goal.invariant_of-result
invariant_of-result c = record {
  extents = rw (c.in_ok-all_in_use.ensures, c.extents.ensures) (in_use_planned c.args.geometry.extents []);
  retired = none_retired c.args.geometry.extents c.new.result.items c.new.ensures.items;
  in_use =
      rw (c.in_ok-all_in_use.ensures, c.extents.ensures, c.new.ensures.items)
      (all_in_use c.args.geometry.extents []);
  within =
      rw (
        c.in_ok-vec.ensures.items_if_clones_equal (λ _ e. e),
        c.extent_bytes.ensures,
        c.extents-2.ensures,
      )
      (full_pointers c.args.geometry (c.args.geometry.extents - 1) _ (omega (arith, c.args.geometry.extents_least)) refl);
  located = record { count = c.requires.few; each = c.requires.located };
}
