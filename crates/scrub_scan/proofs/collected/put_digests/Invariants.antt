-- The items with the digests so far tile the extent, if the others agree with the seals.
use Rattle.std.proofs.Common.{◌≡◌, ℕ, List, Option, length, drop, map}
use Rattle.sha2.specs.Sha256.{sha256}
use Rattle.scrub_scan.specs.Extent.{Extent}
use Rattle.scrub_scan.specs.steps.Gathering.{TilesIfSealed}
use Rattle.scrub_scan.proofs.collected.put_digests.Given as goal

abbrev pub invariant-loop-k : goal.invariant-loop-k
invariant-loop-k l = record {
  size : length l.items.items ≡ length l.fn.items.items;
  tiles : (x : Extent) (from : Option ℕ) (payloads : List (List ℕ)) →
      TilesIfSealed x l.place from l.fn.items.items l.pending payloads → l.digests ≡ map sha256 payloads →
      TilesIfSealed x l.place from l.items.items (drop l.k l.pending) (drop l.k payloads);
}
