-- Those that were there, and the others behind them.
use Rattle.std.proofs.Common.{◌++◌, ◌≡◌, ◌∙◌, ap, rules}
use Rattle.scrub_check.proofs.SoundAndOthers.{both_apart}
use Rattle.scrub_check.proofs.statuses.sound_and_others.SoundAndOthers.append.Goals as goal

pub returns : goal.returns
returns c = λ image plan named more start behind.
    rw (
      c.in_ok-extend_from_slice.ensures.items,
      c.in_ok-extend_from_slice-2.ensures.items,
      c.in_ok-extend_from_slice-3.ensures.items,
      c.deref.ensures.value,
      c.deref-2.ensures.value,
      c.deref-3.ensures.value,
    )
    (both_apart image plan named more _ _ _ _ _ _ start behind)
