-- The sizes that are found, from what the parts give.
use Rattle.std.proofs.Common.{◌≡◌, ℕ, Bool, List, Option, None, Some, IfSome, MatchOption}
use Rattle.scrub_disk.specs.declared.geometry.Geometry.{Geometry as Sizes}
use Rattle.scrub_listings.specs.Sizes.{AreSizesOf}
use Rattle.scrub_listings.specs.declared.sizes_listing.SizesFound.{SizesFound}
use Rattle.scrub_map.specs.declared.block.MapBlock.{MapBlock}
use Rattle.scrub_map.specs.declared.map.RescueMap.{RescueMap}
use Rattle.scrub_super.specs.declared.unknown_sizes.front.Front.{Front}
use Rattle.scrub_super.specs.UnknownSizes.{IsFrontOf}
use Rattle.scrub_cli.specs.DiskGeometry.{AreSizesFoundBy, AreSizesWithout}
use Rattle.scrub_cli.specs.KnownFiles.{KnownRaw}
use Rattle.scrub_cli.specs.Rescue.{IsFrontRead}

-- what the records in a front say of the sizes is found in the raw image
pub sizes_by_front : (known : KnownRaw) (blocks : Option (List MapBlock)) (front : Front) (found : SizesFound) → IsFrontRead known blocks front →
    ((raw : Option (List ℕ)) (lacking : ℕ → Bool) (fails : ℕ → ℕ → Bool) (failures : ℕ) → IsFrontOf raw lacking fails failures front →
    AreSizesOf raw lacking fails failures found) →
    AreSizesWithout known blocks found
sizes_by_front known blocks front found f sizes = record {
  failures = f.failures;
  few = f.few;
  lacking = f.lacking;
  lacks = f.lacks;
  sizes = sizes known.bytes f.lacking known.fails f.failures f.is_front;
}

-- if the sizes are left out, those that were found with a map that was read before are found with the same map now
pub found_again : {O Given : Type 0} (known : KnownRaw) (g : Sizes) (opened : Option O) (map_of : O → Option RescueMap) (map : Option RescueMap) →
    MatchOption opened (Given → ⊥) (λ o. AreSizesFoundBy known (map_of o) g) → IfSome opened (λ o. map ≡ map_of o) → Given →
    AreSizesFoundBy known map g
found_again known g None map_of map found same left = absurd (found left)
found_again known g (Some o) map_of map found same left = λ blocks keeps. found blocks (rw same at keeps)
