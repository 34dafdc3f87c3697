-- The payloads for the first locators.
use Rattle.std.proofs.Common.{take}
use Rattle.scrub_shard.specs.steps.Payloads.{AreBytesBy}
use Rattle.scrub_shard.proofs.payloads.bytes_for.Given as goal

abbrev pub invariant-loop-one : goal.invariant-loop-one
invariant-loop-one g l = AreBytesBy (g.D.PageSource.image l.disk) l.copies (take l.one-index l.own) l.bytes.items
