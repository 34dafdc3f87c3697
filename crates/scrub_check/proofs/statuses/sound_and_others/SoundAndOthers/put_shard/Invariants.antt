-- The first locators of the shard are put to those that were there.
use Rattle.std.proofs.Common.{◌++◌, List, map, take}
use Rattle.scrub_check.specs.declared.named.Named.{Named}
use Rattle.scrub_check.specs.declared.named.Owner.TheVariants.{Shard}
use Rattle.scrub_check.specs.steps.SoundAndOthers.{AreApart}
use Rattle.scrub_check.proofs.statuses.sound_and_others.SoundAndOthers.put_shard.Given as goal

abbrev pub invariant-loop-locator : goal.invariant-loop-locator
invariant-loop-locator g l =
    (named : List Named) →
    AreApart (g.D.PageSource.image l.fn.scan.disk.now) l.fn.scan.plan.now named l.initial.self.sound.items l.initial.self.others.items l.initial.self.known.items →
    AreApart (g.D.PageSource.image l.fn.scan.disk.now) l.fn.scan.plan.now
    (named ++ map (λ x. record { owner = Shard l.fn.binding.id; locator = x }) (take l.locator-index l.locator-items))
    l.self.sound.items l.self.others.items l.self.known.items
