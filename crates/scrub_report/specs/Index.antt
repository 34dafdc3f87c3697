-- The recovered index: the run of the shards of the map that aren't broken.
use Rattle.std.specs.Prelude.{List, not, map}
use Rattle.std.specs.List.{filter}
use Rattle.scrub_run.specs.Entry.{EntryValue}
use Rattle.scrub_merge.specs.Binding.{BindingValue}
use Rattle.scrub_check.specs.declared.statuses.checked.Checked.{Checked}
use Rattle.scrub_check.specs.Checked.{is_broken}

-- the bindings of the shards that aren't broken, in their order, as entries with the same identifiers and locators
abbrev pub index_entries : List Checked → List BindingValue → List EntryValue
index_entries checked bindings =
    map (λ (b : BindingValue). record { id = b.id; locators = b.locators }) (filter (λ b. not (is_broken checked b.id)) bindings)
