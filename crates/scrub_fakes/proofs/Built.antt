-- The sizes of a small disk, and a record that is put.
use Rattle.std.proofs.Common.{rules, arith, ◌≡◌, ◌*◌, ◌++◌, ℕ, List, [], length}
use Rattle.scrub_disk.specs.declared.geometry.Geometry.{Geometry}
use Rattle.scrub_disk.specs.declared.geometry.GeometryFault.{GeometryFault}
use Rattle.scrub_disk.specs.declared.geometry.GeometryFault.TheVariants.{PageSize, Pages, Extents, ExtentBytes, TotalBytes}
use Rattle.scrub_disk.specs.Faults.{IsFirstBroken}
use Rattle.scrub_disk.specs.Image.{Image}
use Rattle.scrub_disk.specs.Memory.{Puts}
use Rattle.scrub_super.specs.Contents.{Contents}
use Rattle.scrub_super.specs.Record.{record_bytes}
use Rattle.scrub_fakes.specs.Builders.{PutsRecord}

-- three extents of four pages of 64 bytes break no limit
pub small_fits : (fault : GeometryFault) → IsFirstBroken 64 4 3 fault → ⊥
unfolding lib.Count.ones
small_fits PageSize broken = broken (record { least = omega arith; most = omega arith; power = search rules })
small_fits Pages broken = broken.1 (record { least = omega arith; most = omega arith })
small_fits Extents broken = broken.2 (record { least = omega arith; most = omega arith })
small_fits ExtentBytes broken = omega (arith, broken.3)
small_fits TotalBytes broken = omega (arith, broken.4)

-- what is put is the record that was written to an empty list
pub puts_record : {old new : Image} {page size n : ℕ} {g : Geometry} {c d : Contents} {bytes items before : List ℕ} →
    g ≡ old.geometry → size ≡ g.page → d ≡ c → before ≡ [] → items ≡ before ++ record_bytes g d → bytes ≡ items →
    n ≡ length items → Puts old new 0 (page * size) bytes → PutsRecord old new page c n
puts_record hg hs hd none written same count puts = record {
  put = rw (same, written, none, hs, hd, hg) at puts;
  size_is = rw (written, none, hd, hg) at count;
}
