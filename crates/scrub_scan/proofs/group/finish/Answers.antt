-- The tiling goes on from where digests agreed.
use Rattle.std.proofs.Common.{length}
use Rattle.scrub_scan.specs.steps.Pages.{target_of}
use Rattle.scrub_scan.proofs.Gathering.{grows_then}
use Rattle.scrub_scan.proofs.Seals.{numbers_below, read_to}
use Rattle.scrub_scan.proofs.group.finish.Goals as goal

pub settle-requires : goal.settle-requires
settle-requires g c = record {
  within =
      numbers_below 0 (length c.args.tiled.collected.items.items) c.args.tiled.collected.pending.items
      c.requires.left.tiles.numbers;
}

pub tile_from-requires-clause-settled : goal.tile_from-requires-clause-settled
tile_from-requires-clause-settled g c = λ κs within.
    rw c.requires.same
    (c.in_ok-right.ensures.settled (target_of (g.D.PageSource.image c.args.source.now) c.args.tiled.target) c.requires.left)

pub tile_from-requires-clause-read : goal.tile_from-requires-clause-read
tile_from-requires-clause-read g c = λ κs within.
    let image = g.D.PageSource.image c.args.source.now in
    let tiled = c.args.tiled in
    rw c.requires.same
    (read_to image tiled.target tiled.scanner.pages tiled.collected.trusted_from tiled.place c.in_ok-right.right c.requires.tiled.read
    c.requires.tiled.affordable (c.in_ok-right.ensures.right (target_of image tiled.target) c.requires.left))

pub returns-clause-grows : goal.returns-clause-grows
returns-clause-grows g c =
    grows_then c.args.workspace.now.payloads c.settle.new.payloads c.tile_from.new.payloads c.in_ok-right.ensures.grows c.in_ok-tile_from.ensures.grows
