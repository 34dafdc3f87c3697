use Rattle.std.proofs.Common.{◌≡◌, map, take}
use Rattle.sha2.specs.Sha256.{sha256}
use Rattle.sha_lanes.specs.Gathered.{message_of}
use Rattle.sha_lanes.proofs.alone.one_by_one.Given as goal

abbrev pub invariant-spans : goal.invariant-spans
invariant-spans l = l.digests.items ≡ map (λ s. sha256 (message_of l.bytes s)) (take l.span-index l.spans)
