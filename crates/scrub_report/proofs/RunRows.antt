-- The rows of index runs, and what they are of the runs that were read.
use Rattle.std.proofs.Common.{◌≡◌, ◌∷◌, [], List, map, refl, ap}
use Rattle.std.specs.List.{zip}
use Rattle.scrub_found.specs.declared.runs.RunRow.{RunRow}
use Rattle.scrub_found.specs.Judged.{run_states}
use Rattle.scrub_report.specs.steps.Values.{row_data, run_data}

-- Rows are shown as their locators, numbers of entries and states side by side.
pub rows_shown : (rows : List RunRow) → map row_data rows
    ≡ map (λ r. run_data r.0 r.1.0 r.1.1)
    (zip (map (λ r. r.locator) rows) (zip (map (λ r. r.entries) rows) (run_states rows)))
rows_shown [] = refl
rows_shown (r ∷ rs) = ap (λ ds. row_data r ∷ ds) (rows_shown rs)
