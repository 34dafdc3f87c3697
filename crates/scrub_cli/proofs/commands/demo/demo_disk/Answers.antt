-- The sizes keep the limits, and each part is where the definition has it.
use Rattle.std.proofs.Common.{ap, refl, sym, ◌∙◌, lit≤}
use Rattle.scrub_disk.specs.Memory.{image_of}
use Rattle.scrub_cli.specs.Demo.{located}
use Rattle.scrub_cli.proofs.DemoAnswers.{demo_made}
use Rattle.scrub_cli.proofs.commands.demo.demo_disk.Goals as goal

pub invariant_of-geometry : goal.invariant_of-geometry
unfolding lib.Count.ones
invariant_of-geometry c = record {
  page_least = lit≤ tt;
  page_most = lit≤ tt;
  page_power = refl;
  pages_least = lit≤ tt;
  pages_most = lit≤ tt;
  extents_least = lit≤ tt;
  extents_most = lit≤ tt;
  extent_fits = lit≤ tt;
  total_fits = lit≤ tt;
}

pub returns : goal.returns
returns c =
    demo_made (image_of c.in_ok-disk.disk) (image_of c.put.new.self) (image_of c.put-2.new.self) (image_of c.put-3.new.self) _
    c.from_bytes-ones.result c.from_bytes-twos.result _ c.deref-2.result.now c.deref.result.now c.deref-3.result.now
    c.deref-5.result.now
    c.locate.result c.locate-2.result c.in_ok-disk.ensures (record { page = refl; pages = refl; extents = refl })
    c.from_bytes-ones.ensures c.from_bytes-twos.ensures refl
    (c.deref.ensures.value ∙ c.in_ok-chunk.ensures) c.locate.ensures (c.deref-2.ensures.value ∙ c.in_ok-payload.ensures.bytes)
    (c.deref-3.ensures.value ∙ c.in_ok-run.ensures)
    (c.locate-2.ensures ∙ ap (located 2 c.from_bytes-twos.result) (c.deref-4.ensures.value ∙ sym c.deref-2.ensures.value))
    (c.deref-5.ensures.value ∙ c.in_ok-superblock.ensures.bytes)
    c.put.ensures c.put-2.ensures c.put-3.ensures
