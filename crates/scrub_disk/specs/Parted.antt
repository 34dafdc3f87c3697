-- The image of a disk in memory whose pages lie in blocks.
use Rattle.scrub_disk.specs.declared.parts.PartedDisk.{PartedDisk}
use Rattle.scrub_disk.specs.Image.{Image}
use Rattle.scrub_disk.specs.BytesAndMarks.{held}
use Rattle.scrub_disk.specs.Joined.{joined}

-- the image that the blocks, one after another, and the marks of a disk in memory hold
abbrev pub image_of : PartedDisk → Image
image_of d = held d.geometry (joined d.geometry.page d.blocks.items) d.unreadable.items
