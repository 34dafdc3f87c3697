-- Both parts are the half.
use Rattle.scrub_merge.specs.steps.Parts.{is_on, kept}
use Rattle.scrub_merge.proofs.Maps.{bindings_of}
use Rattle.scrub_merge.proofs.Parted.{maps_joined}
use Rattle.scrub_merge.proofs.merging.merge_half.Goals as goal

pub join_maps-requires : goal.join_maps-requires
join_maps-requires g c =
    bindings_of (maps_joined (kept (is_on c.args.half) c.args.runs.now) c.args.id _ _ c.in_ok-first.ensures.first c.in_ok-first.ensures.rest)

pub returns : goal.returns
returns g c =
    c.join_maps.ensures (kept (is_on c.args.half) c.args.runs.now) c.in_ok-first.ensures.first c.in_ok-first.ensures.rest
