-- The extents that results are of.
use Rattle.std.specs.Prelude.{ℕ, List, map}
use Rattle.scrub_scan.specs.Scanned.{scanned}
use Rattle.scrub_scan.specs.declared.extent_result.ExtentResult.{ExtentResult}

module _ {D : Type 0} {s : _} where
  -- the numbers of the extents that these are results of
  abbrev pub extents_in : List (ExtentResult D s) → List ℕ
  extents_in results = map (λ r. (scanned r).extent) results
