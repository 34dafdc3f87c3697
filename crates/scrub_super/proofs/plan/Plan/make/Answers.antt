-- What holds of the lists of a plan, with a superblock and without one.
use Rattle.std.proofs.Common.{◌-◌, arith, refl, []}
use Rattle.scrub_super.specs.Record.{AreContents}
use Rattle.scrub_super.proofs.Listed.{listed_extents, pointers_in, runs_in}
use Rattle.scrub_super.proofs.Plans.{in_use_planned, all_in_use, full_pointers, no_runs, none_retired, chosen_fits}
use Rattle.scrub_super.proofs.plan.Plan.make.Goals as goal

pub invariant_of-result : goal.invariant_of-result
invariant_of-result c =
    let fits : AreContents c.args.geometry c.in-Some.superblock.now =
    chosen_fits c.in-Some.ensures.value c.requires.same_geometry c.in-Some.ensures.fits in
    record {
      extents =
          rw (c.in_ok-all_in_use-in-Some.ensures, c.extents.ensures)
          (in_use_planned c.args.geometry.extents c.retired.result.now);
      retired =
          rw (c.in_ok-from_slice-in-Some.ensures.items, c.retired-in-Some.ensures)
          (listed_extents c.args.geometry.extents c.in-Some.superblock.now.retired fits.retired);
      in_use =
          rw (
            c.in_ok-all_in_use-in-Some.ensures,
            c.extents.ensures,
            c.in_ok-from_slice-in-Some.ensures.items,
            c.retired-in-Some.ensures,
            c.retired.ensures,
          )
          (all_in_use c.args.geometry.extents _);
      within = rw (c.in_ok-from_slice-in-Some-2.ensures.items, c.pointers.ensures) (pointers_in fits);
      located = rw (c.in_ok-from_slice-in-Some-3.ensures.items, c.runs.ensures) (runs_in fits);
    }

pub invariant_of-result-in-None : goal.invariant_of-result-in-None
invariant_of-result-in-None c = record {
  extents =
      rw (c.in_ok-all_in_use-in-None.ensures, c.extents-in-None.ensures) (in_use_planned c.args.geometry.extents []);
  retired = none_retired c.args.geometry.extents c.new.result.items c.new.ensures.items;
  in_use =
      rw (c.in_ok-all_in_use-in-None.ensures, c.extents-in-None.ensures, c.new.ensures.items)
      (all_in_use c.args.geometry.extents []);
  within =
      rw (
        c.in_ok-vec-in-None.ensures.items_if_clones_equal (λ _ e. e),
        c.extent_bytes.ensures,
        c.extents-in-None-2.ensures,
      )
      (full_pointers c.args.geometry (c.args.geometry.extents - 1) _ (omega (arith, c.args.geometry.extents_least)) refl);
  located = no_runs c.new-in-None.ensures.items;
}
