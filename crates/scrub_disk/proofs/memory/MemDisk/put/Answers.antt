-- The bytes were written into the middle of all the disk's bytes.
use Rattle.scrub_disk.proofs.HeldBytes.{put_all}
use Rattle.scrub_disk.proofs.memory.MemDisk.put.Goals as goal

pub returns : goal.returns
returns c =
    put_all c.args.self.now.geometry c.args.self.now.bytes c.args.bytes.now c.deref_mut.result.now
    c.copy_from_slice.new.self c.args.self.now.unreadable.items c.args.extent c.args.offset c.extent_bytes.result
    c.args.self.now.whole c.requires.in_extents c.requires.fits c.extent_bytes.ensures c.deref_mut.ensures.value
    c.copy_from_slice.ensures.after
