-- The numbers of index runs that the code counts are those of what was found.
use Rattle.std.proofs.Common.{◌≡◌, ◌&&◌, Bool, ap, is_none}
use Rattle.std.specs.List.{count_by}
use Rattle.std.proofs.Math.Path.{fun_ext}
use Rattle.scrub_check.specs.declared.named.Owner.{Owner}
use Rattle.scrub_check.specs.declared.statuses.checked.Checked.{Checked}
use Rattle.scrub_check.specs.Checked.{is_hidden}
use Rattle.scrub_found.specs.declared.judging.Judged.{Judged}
use Rattle.scrub_found.specs.Judged.{AreRowsOf, Beside, found_in}
use Rattle.scrub_listings.specs.Manifest.{hidden_runs, lost_run_count}
use Rattle.scrub_listings.specs.steps.Manifest.{is_of_read_row}
use Rattle.scrub_listings.proofs.ReadRows.{lost_found, read_found}

module _ {D : Type 0} (j : Judged D) (b : Beside) (rows : AreRowsOf j.scan.plan.runs b.read j.runs.items) where
  -- As many index runs are lost as rows have no entries.
  pub lost_is : count_by (λ r. is_none r.entries) j.runs.items ≡ lost_run_count (found_in j b)
  lost_is = lost_found j.scan.plan.runs b.read j.runs.items rows

  -- As many index runs are hidden as hidden locators belong to rows that were read.
  pub hidden_is : count_by (λ c. is_hidden c.status && is_of_read_row j.runs.items c.owner) j.checked.items ≡ hidden_runs (found_in j b)
  hidden_is =
      ap (λ (f : Owner → Bool). count_by (λ (one : Checked). is_hidden one.status && f one.owner) j.checked.items)
      (fun_ext (read_found j.scan.plan.runs b.read j.runs.items rows))
