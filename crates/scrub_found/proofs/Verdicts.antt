-- The verdict by the rows of the runs is that of what is found.
use Rattle.std.proofs.Common.{◌≡◌, ◌&&◌, ◌∷◌, [], List, Some, None, is_some, length, map, not, option_map, refl, sym, ap, ◌∙◌}
use Rattle.std.specs.Prelude.{◌==◌}
use Rattle.std.specs.List.{list_all}
use Rattle.std.proofs.lemmas.List.Folds.{list_all-map}
use Rattle.scrub_merge.specs.Binding.{BindingValue, Runs}
use Rattle.scrub_check.specs.declared.statuses.checked.Checked.{Checked}
use Rattle.scrub_check.specs.Checked.{is_sound}
use Rattle.scrub_found.specs.declared.runs.RunRow.{RunRow}
use Rattle.scrub_found.specs.declared.scanning.Scan.{Scan}
use Rattle.scrub_found.specs.Judged.{AreRowsOf, Beside, found_with, is_clean_by}
use Rattle.scrub_found.specs.Scrubbed.{is_clean_disk, is_clean_extent}

-- a run is read if it has a number of entries
all_counted : (runs : Runs) → list_all is_some (map (option_map length) runs) ≡ list_all is_some runs
all_counted [] = refl
all_counted (None ∷ rs) = refl
all_counted (Some es ∷ rs) = all_counted rs

module _ {D : Type 0} (s : Scan D) (rows : List RunRow) (bindings : List BindingValue) (checked : List Checked) (b : Beside)
    (are : AreRowsOf s.plan.runs b.read rows) where
  counted : list_all (λ r. is_some r.entries) rows ≡ list_all is_some b.read.runs
  counted = sym (list_all-map is_some (λ r. r.entries) rows) ∙ ap (list_all is_some) are.entries_are ∙ all_counted b.read.runs

  -- by whether each locator is sound
  pub clean_by_sound :
      is_clean_by s rows (list_all (λ c. is_sound c.status) checked) b.shared ≡ is_clean_disk (found_with s bindings checked b)
  clean_by_sound = ap
      (λ read. is_some s.chosen.superblock && not s.chosen.tie && length s.chosen.bad_pages == 0
      && list_all is_clean_extent s.all.extents && read && list_all (λ c. is_sound c.status) checked && length b.shared == 0)
      counted
