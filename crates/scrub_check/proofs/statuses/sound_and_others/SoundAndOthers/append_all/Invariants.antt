-- The locators of the first blocks are behind those that were there.
use Rattle.std.proofs.Common.{◌++◌, List, take}
use Rattle.std.specs.List.{AllZip, flat_map}
use Rattle.scrub_disk.specs.Image.{Image}
use Rattle.scrub_super.specs.Plan.{PlanValue}
use Rattle.scrub_check.specs.declared.named.Named.{Named}
use Rattle.scrub_check.specs.steps.SoundAndOthers.{AreApart}
use Rattle.scrub_check.proofs.statuses.sound_and_others.SoundAndOthers.append_all.Given as goal

abbrev pub invariant-loop-block : goal.invariant-loop-block
invariant-loop-block l =
    (image : Image) (plan : PlanValue) (named : List Named) (parts : List (List Named)) →
    AreApart image plan named l.initial.self.sound.items l.initial.self.others.items l.initial.self.known.items →
    AllZip (λ names a. AreApart image plan names a.sound.items a.others.items a.known.items) parts l.fn.blocks →
    AreApart image plan (named ++ flat_map (λ part. part) (take l.block-index parts)) l.self.sound.items l.self.others.items l.self.known.items
