-- The locators of the first bindings are put to none.
use Rattle.std.proofs.Common.{take}
use Rattle.std.specs.List.{flat_map}
use Rattle.scrub_check.specs.Named.{named_by_shard}
use Rattle.scrub_check.specs.steps.SoundAndOthers.{AreApart}
use Rattle.scrub_check.proofs.statuses.sound_and_others.bindings_apart.Given as goal

abbrev pub invariant-loop-binding : goal.invariant-loop-binding
invariant-loop-binding g l =
    AreApart (g.D.PageSource.image l.fn.scan.disk.now) l.fn.scan.plan.now (flat_map named_by_shard (take l.binding-index l.fn.bindings))
    l.apart.sound.items l.apart.others.items l.apart.known.items
