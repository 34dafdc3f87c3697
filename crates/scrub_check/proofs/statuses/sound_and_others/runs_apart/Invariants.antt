-- The first index runs are put to none.
use Rattle.std.proofs.Common.{take}
use Rattle.scrub_disk.specs.Image.{Image}
use Rattle.scrub_check.specs.Named.{named_by_runs}
use Rattle.scrub_check.specs.Runs.{AreRunStatuses}
use Rattle.scrub_check.specs.steps.SoundAndOthers.{AreApart}
use Rattle.scrub_check.proofs.statuses.sound_and_others.runs_apart.Given as goal

abbrev pub invariant-loop-number : goal.invariant-loop-number
invariant-loop-number l =
    (image : Image) → AreRunStatuses image l.fn.plan l.fn.statuses →
    AreApart image l.fn.plan (named_by_runs 0 (take l.number l.fn.plan.runs)) l.apart.sound.items l.apart.others.items l.apart.known.items
