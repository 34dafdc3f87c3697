-- The locators that a disk names: those of the index runs, lost ones too, then those of the shard map.
use Rattle.std.specs.Prelude.{ℕ, List, ◌++◌, map}
use Rattle.std.specs.List.{enumerate_from, flat_map}
use Rattle.scrub_frame.specs.declared.locator.Locator.{Locator}
use Rattle.scrub_merge.specs.Binding.{BindingValue}
use Rattle.scrub_check.specs.declared.named.Owner.TheVariants.{Run, Shard}
use Rattle.scrub_check.specs.declared.named.Named.{Named}

-- the locators of runs, each owned by its run, numbered from k on
abbrev pub named_by_runs : ℕ → List Locator → List Named
named_by_runs k runs = map (λ p. record { owner = Run p.0; locator = p.1 }) (enumerate_from k runs)

-- the locators of a shard, each owned by that shard
abbrev pub named_by_shard : BindingValue → List Named
named_by_shard b = map (λ l. record { owner = Shard b.id; locator = l }) b.locators

-- the named locators, each with its owner: those of the runs, numbered from 0, and then those of the shards, by identifier and in
-- the binding's order
abbrev pub named_locators : List Locator → List BindingValue → List Named
named_locators runs bindings =
    map (λ p. record { owner = Run p.0; locator = p.1 }) (enumerate_from 0 runs)
    ++ flat_map (λ b. map (λ l. record { owner = Shard b.id; locator = l }) b.locators) bindings
