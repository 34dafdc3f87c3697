use Rattle.std.proofs.Common.{◌≡◌, ◌++◌, take}
use Rattle.std.specs.List.{flat_map}
use Rattle.scrub_check.specs.Named.{named_by_shard}
use Rattle.scrub_check.proofs.named.named_locators.Given as goal

-- after the runs the shards so far are named
abbrev pub invariant-loop-binding : goal.invariant-loop-binding
invariant-loop-binding l =
    l.named.items ≡ l.initial.named.items ++ flat_map named_by_shard (take l.binding-index l.binding-items)
