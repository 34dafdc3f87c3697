-- Scanned extents beside their live bytes.
use Rattle.std.proofs.Common.{◌≡◌, ℕ, List, [], ◌∷◌, map, refl, ap, ◌∙◌}
use Rattle.std.specs.List.{zip}
use Rattle.scrub_scan.specs.Scanned.{Scanned}
use Rattle.scrub_check.specs.declared.statuses.checked.Checked.{Checked}
use Rattle.scrub_check.specs.Live.{live_bytes}
use Rattle.serde_json.specs.Data.{Data}
use Rattle.scrub_report.specs.steps.Values.{extent_data}

each_beside : (checked : List Checked) (all : List Scanned) →
    map (λ (p : Scanned × ℕ). extent_data p.1 p.0) (zip all (map (live_bytes checked) all)) ≡ map (λ f. extent_data (live_bytes checked f) f) all
each_beside checked [] = refl
each_beside checked (f ∷ all) =
    ap (λ (ds : List Data). extent_data (live_bytes checked f) f ∷ ds) (each_beside checked all)

-- each pair has the value of an extent with its live bytes
pub beside_scanned : (checked : List Checked) (all : List Scanned) (live : List ℕ) →
    live ≡ map (live_bytes checked) all →
    map (λ (p : Scanned × ℕ). extent_data p.1 p.0) (zip all live) ≡ map (λ f. extent_data (live_bytes checked f) f) all
beside_scanned checked all live same =
    ap (λ (ns : List ℕ). map (λ (p : Scanned × ℕ). extent_data p.1 p.0) (zip all ns)) same ∙ each_beside checked all
