use Rattle.std.proofs.Common.{◌≡◌, [], take}
use Rattle.crossbeam_queue.specs.Passes.{IsSamePass, IsPassOf}
use Rattle.scrub_pool.specs.steps.Account.{view_of}
use Rattle.scrub_pool.specs.steps.PassModel.{known}
use Rattle.scrub_pool.proofs.extent_queue.fill.Given as goal

abbrev pub invariant-loop-number : goal.invariant-loop-number
invariant-loop-number g l =
    IsSamePass l.initial.pass l.pass × IsPassOf l.queue l.pass ×
    (known l.pass ≡ view_of 1 0 0 (take l.number l.extents) [] [])
