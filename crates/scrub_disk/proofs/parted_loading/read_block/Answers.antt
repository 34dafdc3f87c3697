-- The block has the pages that were read.
use Rattle.std.proofs.Common.{rules, ◌≡◌, ◌*◌, ◌-◌, ◌∷◌, [], min}
use Rattle.scrub_disk.specs.Joined.{first_page}
use Rattle.scrub_disk.proofs.JoinedBlocks.{one_block, one_block_read}
use Rattle.scrub_disk.proofs.parted_loading.read_block.Goals as goal

pub returns-clause-shape : goal.returns-clause-shape
returns-clause-shape g c =
    let geometry = c.args.division.geometry in
    let first : c.min-first.result ≡ first_page geometry c.args.division.stride c.args.number = search rules in
    let count : c.min-count.result ≡ min c.args.division.stride (geometry.pages * geometry.extents - c.min-first.result) = search rules in
    let only : c.in_ok-from_array.field-0.items ≡ c.in_ok-block.block ∷ [] = search rules in
    one_block geometry c.args.division.stride c.args.number c.min-first.result c.min-count.result c.in_ok-block.block _
    c.in_ok-block.marks.items first count only c.in_ok-block.ensures.pages c.in_ok-block.ensures.size c.in_ok-block.ensures.each_page

pub returns-clause-read : goal.returns-clause-read
returns-clause-read g c =
    let geometry = c.args.division.geometry in
    let first : c.min-first.result ≡ first_page geometry c.args.division.stride c.args.number = search rules in
    let only : c.in_ok-from_array.field-0.items ≡ c.in_ok-block.block ∷ [] = search rules in
    one_block_read (g.R.RawImage.bytes c.args.raw.now) (g.R.RawImage.fails c.args.raw.now) c.min-first.result _ geometry.page _ c.in_ok-block.block _ c.in_ok-block.marks.items
    first only c.in_ok-block.ensures.read
