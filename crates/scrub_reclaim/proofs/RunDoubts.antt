-- The doubts that lost index runs make, by their rows.
use Rattle.std.proofs.Common.{◌≡◌, ◌+◌, ◌∷◌, [], ℕ, List, refl}
use Rattle.std.specs.List.{enumerate_from, filter_map}
use Rattle.scrub_found.specs.declared.runs.RunRow.{RunRow}
use Rattle.scrub_found.specs.Judged.{run_states}
use Rattle.scrub_reclaim.specs.Doubts.{run_lost}

-- the doubts of rows are those of their states
pub rows_doubted : (n : ℕ) (rows : List RunRow) → filter_map (λ r. run_lost r.0 r.1.state) (enumerate_from n rows)
    ≡ filter_map (λ s. run_lost s.0 s.1) (enumerate_from n (run_states rows))
rows_doubted n [] = refl
rows_doubted n (r ∷ rs) = rw (rows_doubted (n + 1) rs)
