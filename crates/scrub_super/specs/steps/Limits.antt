-- Limits of parts of a record's contents, and of a plan.
use Rattle.std.specs.Prelude.{◌≡◌, ◌≤◌, ◌<◌, ◌+◌, ◌*◌, ◌^◌, ℕ, List, All}
use Rattle.std.specs.Prelude.{length as len}
use Rattle.scrub_disk.specs.declared.geometry.Geometry.{Geometry}
use Rattle.scrub_frame.specs.declared.locator.Locator.{Locator}
use Rattle.scrub_frame.specs.Locator.{IsLocator}

-- one pointer for each extent but extent 0, none past the extent's end
pub record ArePointers (g : Geometry) (pointers : List ℕ) : Type 0 where
  pub count : len pointers + 1 ≡ g.extents
  pub within : All (λ pointer. pointer ≤ g.page * g.pages) pointers

-- locators of index runs, fewer than 2^32: a record has at most 32 of them, but more can be given
pub record AreRunLocators (runs : List Locator) : Type 0 where
  pub count : len runs < 2 ^ 32
  pub each : All IsLocator runs
