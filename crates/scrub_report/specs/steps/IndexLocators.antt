-- The locators in the recovered index, which the code counts.
use Rattle.std.specs.Prelude.{List}
use Rattle.std.specs.List.{flat_map}
use Rattle.scrub_frame.specs.declared.locator.Locator.{Locator}
use Rattle.scrub_run.specs.Entry.{EntryValue}

-- the locators of some entries, one after another
abbrev pub all_locators : List EntryValue → List Locator
all_locators entries = flat_map (λ e. e.locators) entries
