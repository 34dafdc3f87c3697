-- By the rows of the runs as many are lost, and the same are read, as by the runs.
use Rattle.std.proofs.Common.{◌≡◌, ◌∷◌, [], ℕ, zero, suc, Bool, false, List, Option, Some, None, is_none, is_some, length, map, refl, sym, ap, ◌∙◌}
use Rattle.std.specs.List.{count_by, slice_get}
use Rattle.std.specs.Option.{option_map, option_map_or}
use Rattle.std.proofs.Math.Path.{fun_ext}
use Rattle.list_facts.proofs.Counts.{count_map}
use Rattle.scrub_run.specs.Entry.{EntryValue}
use Rattle.scrub_merge.specs.Binding.{Runs}
use Rattle.scrub_frame.specs.declared.locator.Locator.{Locator}
use Rattle.scrub_check.specs.declared.named.Owner.{Owner}
use Rattle.scrub_check.specs.declared.named.Owner.TheVariants.{Run, Shard}
use Rattle.scrub_check.specs.Runs.{ReadRunsValue}
use Rattle.scrub_found.specs.declared.runs.RunRow.{RunRow}
use Rattle.scrub_found.specs.Judged.{AreRowsOf}
use Rattle.scrub_listings.specs.Manifest.{is_of_read_run}
use Rattle.scrub_listings.specs.steps.Manifest.{is_of_read_row}

-- a run is lost if it has no number of entries
none_counted : (runs : Runs) → count_by is_none (map (option_map length) runs) ≡ count_by is_none runs
none_counted runs =
    count_map is_none (option_map (λ (es : List EntryValue). length es)) runs
    ∙ ap (λ (p : Option (List EntryValue) → Bool). count_by p runs) (fun_ext same)
  where
    same : (r : Option (List EntryValue)) → is_none (option_map (λ (es : List EntryValue). length es) r) ≡ is_none r
    same None = refl
    same (Some es) = refl

-- of one number, a run and its row are read or aren't
read_number : (runs : Runs) (k : ℕ) →
    option_map_or is_some (slice_get (map (option_map length) runs) k) false ≡ option_map_or is_some (slice_get runs k) false
read_number [] k = refl
read_number (None ∷ rs) zero = refl
read_number (Some es ∷ rs) zero = refl
read_number (r ∷ rs) (suc k) = read_number rs k

row_number : (rows : List RunRow) (k : ℕ) →
    option_map_or (λ r. is_some r.entries) (slice_get rows k) false ≡ option_map_or is_some (slice_get (map (λ r. r.entries) rows) k) false
row_number [] k = refl
row_number (r ∷ rs) zero = refl
row_number (r ∷ rs) (suc k) = row_number rs k

module _ (locators : List Locator) (read : ReadRunsValue) (rows : List RunRow) (are : AreRowsOf locators read rows) where
  -- as many rows as runs are of lost runs
  pub lost_found : count_by (λ r. is_none r.entries) rows ≡ count_by is_none read.runs
  lost_found = sym (count_map is_none (λ (r : RunRow). r.entries) rows) ∙ ap (count_by is_none) are.entries_are ∙ none_counted read.runs

  -- a run that is read names the locator by the rows as by the runs
  pub read_found : (o : Owner) → is_of_read_row rows o ≡ is_of_read_run read.runs o
  read_found (Run k) =
      row_number rows k ∙ ap (λ (es : List (Option ℕ)). option_map_or is_some (slice_get es k) false) are.entries_are ∙ read_number read.runs k
  read_found (Shard id) = refl
