-- The lines are those of the disk whose extent 0 was loaded.
use Rattle.scrub_disk.specs.OneExtent.{image_of}
use Rattle.scrub_cli.proofs.commands.scan.superblocks.Goals as goal

pub returns : goal.returns
returns g c = record {
  image = image_of c.in_ok-disk.disk;
  disk = c.in_ok-disk.ensures;
  answered = c.in_ok-superblock_listing.ensures;
}
