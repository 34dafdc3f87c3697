-- All that was taken since is behind the first extent of the group.
use Rattle.std.proofs.Common.{◌≡◌, ◌≤◌, ◌++◌, ◌∷◌, All, drop, length}
use Rattle.std.specs.Prelude.{Contains}
use Rattle.scrub_pool.specs.steps.Working.{IsPassFor, IsSamePart}
use Rattle.scrub_pool.proofs.group.take_more.Given as goal

abbrev pub invariant-loop-taken : goal.invariant-loop-taken
invariant-loop-taken g l = record {
  part : IsSamePart l.initial.pass l.pass;
  same : IsPassFor l.job.queue.now l.job.plan.now.planned l.pass;
  first : l.group.items ≡ l.extent ∷ drop 1 l.group.items;
  own : l.pass.own ≡ l.initial.pass.own ++ drop 1 l.group.items;
  planned : All (λ e. Contains l.job.plan.now.planned e) l.group.items;
  count : length l.group.items ≡ l.taken;
  few : length l.group.items ≤ 8;
}
