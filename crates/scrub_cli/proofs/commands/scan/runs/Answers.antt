-- The lines are those of the runs of the disk that was loaded.
use Rattle.scrub_disk.specs.Parted.{image_of}
use Rattle.scrub_cli.proofs.commands.scan.runs.Goals as goal

pub returns : goal.returns
returns g c = (
  image_of c.in_ok-disk.disk,
  record {
    disk = c.in_ok-disk.ensures;
    answered = (c.in_ok-listing.listing.is_clean, rw c.new.ensures.text c.in_ok-listing.ensures, c.new.ensures.outcome);
  },
)
