-- The locators that an entry holds.
use Rattle.std.specs.Prelude.{List, [], ◌∷◌}
use Rattle.scrub_frame.specs.declared.locator.Locator.{Locator}
use Rattle.scrub_run.specs.declared.locators.Locators.{Locators}
use Rattle.scrub_run.specs.declared.locators.Locators.TheVariants.{One, Many}

-- the locators of an entry as a list
abbrev pub listed : Locators → List Locator
listed (One l) = l ∷ []
listed (Many ls) = ls.items
