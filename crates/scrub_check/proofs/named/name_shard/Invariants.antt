use Rattle.std.proofs.Common.{◌≡◌, ◌++◌, map, take}
use Rattle.scrub_check.specs.declared.named.Owner.TheVariants.{Shard}
use Rattle.scrub_check.proofs.named.name_shard.Given as goal

-- the locators of the shard so far are named
abbrev pub invariant-loop-locator : goal.invariant-loop-locator
invariant-loop-locator l =
    l.named.items ≡ l.initial.named.items ++ map (λ x. record { owner = Shard l.binding.id; locator = x })
    (take l.locator-index l.locator-items)
