-- The answer is that of the disk that was loaded.
use Rattle.scrub_disk.specs.Parted.{image_of}
use Rattle.scrub_cli.proofs.commands.scan.scan.Goals as goal

pub returns : goal.returns
returns g c = (
  image_of c.in_ok-disk.disk,
  record { disk = c.in_ok-disk.ensures; answered = c.in_ok-disk_answer.ensures.answer },
  c.in_ok-disk_answer.ensures.takings,
)
