-- How the places of locators are found in extent 0.
use Rattle.std.specs.Prelude.{◌↔◌, ◌<◌, ℕ, List, All, Contains, map}
use Rattle.std.specs.List.Sorted.{IsStrictlyIncreasing, IsStrictlySortedBy}
use Rattle.scrub_disk.specs.Image.{AreBytesAt}
use Rattle.scrub_frame.specs.declared.locator.Locator.{Locator}
use Rattle.scrub_frame.specs.Locator.{IsLocator, locator_bytes}
use Rattle.scrub_scan.specs.Extent.{Extent}
use Rattle.scrub_loose.specs.Listed.{ListedValue}
use Rattle.scrub_loose.specs.Outer.{locator_of, run_cmp}

-- the locator of a listed run
abbrev pub locator_in : ListedValue → Locator
locator_in v = locator_of v.run.frame

-- the runs are in strictly ascending order, and each has a locator
pub record AreSortedRuns (listed : List ListedValue) : Type 0 where
  pub rise : IsStrictlySortedBy run_cmp (map (λ v. v.run) listed)
  pub locators : All (λ v. IsLocator (locator_in v)) listed

-- the places of a locator among the first n bytes of an extent
pub record ArePlacesBefore (x : Extent) (n : ℕ) (l : Locator) (places : List ℕ) : Type 0 where
  pub rise : IsStrictlyIncreasing places
  pub each : (p : ℕ) → Contains places p ↔ ((p < n) × AreBytesAt x.byte p (locator_bytes l))

-- each run has those of its locator
abbrev pub AreListedBefore : Extent → ℕ → List ListedValue → Type 0
AreListedBefore x n listed = All (λ v. ArePlacesBefore x n (locator_in v) v.places) listed
