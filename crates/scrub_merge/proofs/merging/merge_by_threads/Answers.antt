-- Both halves are the whole.
use Rattle.scrub_merge.proofs.Maps.{bindings_of}
use Rattle.scrub_merge.proofs.Parted.{maps_joined}
use Rattle.scrub_merge.proofs.merging.merge_by_threads.Goals as goal

pub join_maps-requires : goal.join_maps-requires
join_maps-requires g c =
    bindings_of (maps_joined c.args.runs.now c.in-Some.at.middle _ _ c.in_ok-first.ensures.first c.in_ok-first.ensures.rest)

pub returns : goal.returns
returns g c =
    c.join_maps.ensures c.args.runs.now c.in_ok-first.ensures.first c.in_ok-first.ensures.rest
