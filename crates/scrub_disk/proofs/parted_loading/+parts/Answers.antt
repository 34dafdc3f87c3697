-- The first shares, which the other readers read, and the last one.
use Rattle.std.proofs.Common.{rules, arith, ◌≡◌, ◌+◌, ◌*◌, ◌++◌, ◌∷◌, [], ◌∙◌, ap, refl, vec_len, sum_by}
use Rattle.scrub_disk.specs.steps.Ahead.{IsReadFrom}
use Rattle.scrub_disk.specs.Joined.{AreBlocks, first_page, joined}
use Rattle.scrub_disk.proofs.JoinedBlocks.{blocks_read, more_blocks}
use Rattle.scrub_disk.proofs.PartsRead.{all_ends, nothing_read, sum_ends}
use Rattle.scrub_disk.proofs.parted_loading.+parts.Goals as goal

pub read_all-returns-clause-shape : goal.read_all-returns-clause-shape
read_all-returns-clause-shape g t c =
    let d = c.args.division in
    let parts = c.in_ok-parts.parts in
    let part = c.in_ok-part.field-0 in
    let all = c.add.new.self in
    let count = vec_len c.pop.new.self in
    let number : vec_len c.args.readers ≡ count + 1 = search rules in
    let times : vec_len c.args.readers * d.share ≡ (count + 1) * d.share = ap (λ m. m * d.share) number in
    let shape : AreBlocks d.geometry d.stride 0 (count * d.share) parts.filled.items parts.marks.items = search rules in
    let behind : AreBlocks d.geometry d.stride (count * d.share) d.share part.filled.items part.marks.items = search rules in
    let blocks : all.filled.items ≡ parts.filled.items ++ part.filled.items = search rules in
    let marks : all.marks.items ≡ parts.marks.items ++ part.marks.items = search rules in
    more_blocks d.geometry d.stride 0 (count * d.share) (count * d.share) d.share (vec_len c.args.readers * d.share)
    parts.filled.items part.filled.items all.filled.items parts.marks.items part.marks.items all.marks.items
    (omega arith) (omega (arith, times)) shape behind blocks marks

pub read_all-returns-clause-read : goal.read_all-returns-clause-read
read_all-returns-clause-read g t c known every fails all_fail =
    let d = c.args.division in
    let parts = c.in_ok-parts.parts in
    let part = c.in_ok-part.field-0 in
    let all = c.add.new.self in
    let count = vec_len c.pop.new.self in
    let front = c.pop.new.self.items in
    let is : c.args.readers.items ≡ front ++ c.in-Some.last ∷ [] = search rules in
    let ends = all_ends (λ r. g.R.RawImage.bytes r ≡ known) front c.args.readers.items c.in-Some.last is every in
    let faults = all_ends (λ r. g.R.RawImage.fails r ≡ fails) front c.args.readers.items c.in-Some.last is all_fail in
    let shape : AreBlocks d.geometry d.stride 0 (count * d.share) parts.filled.items parts.marks.items = search rules in
    let behind : AreBlocks d.geometry d.stride (count * d.share) d.share part.filled.items part.marks.items = search rules in
    let blocks : all.filled.items ≡ parts.filled.items ++ part.filled.items = search rules in
    let marks : all.marks.items ≡ parts.marks.items ++ part.marks.items = search rules in
    let before : IsReadFrom known fails 0 d.geometry.page (sum_by (λ r. g.R.RawImage.most_failures r) front) (joined d.geometry.page parts.filled.items) parts.marks.items =
    (rw c.in_ok-parts.was at c.read_beside-parts.ensures.read) known ends.0 fails faults.0 in
    let rest : IsReadFrom (g.R.RawImage.bytes c.in-Some.last) (g.R.RawImage.fails c.in-Some.last) (first_page d.geometry d.stride (count * d.share)) d.geometry.page (g.R.RawImage.most_failures c.in-Some.last) (joined d.geometry.page part.filled.items) part.marks.items =
    rw c.in_ok-part.was at c.read_beside-parts.ensures.part_read in
    blocks_read d.geometry d.stride 0 (count * d.share) (count * d.share) d.share 0 (first_page d.geometry d.stride (count * d.share))
    (sum_by (λ r. g.R.RawImage.most_failures r) front) (g.R.RawImage.most_failures c.in-Some.last)
    (sum_by (λ r. g.R.RawImage.most_failures r) c.args.readers.items)
    known fails parts.filled.items part.filled.items all.filled.items parts.marks.items part.marks.items
    all.marks.items (omega arith) (omega arith) refl
    (sum_ends (λ r. g.R.RawImage.most_failures r) front c.args.readers.items c.in-Some.last is)
    shape behind blocks marks before (rw (ends.1, faults.1) at rest)

pub read_all-returns-clause-same_bytes : goal.read_all-returns-clause-same_bytes
read_all-returns-clause-same_bytes g t c known every =
    let front = c.pop.new.self.items in
    let is : c.args.readers.items ≡ front ++ c.in-Some.last ∷ [] = search rules in
    c.read_beside-parts.ensures.same_bytes
    ∙ (all_ends (λ r. g.R.RawImage.bytes r ≡ known) front c.args.readers.items c.in-Some.last is every).1

pub read_all-returns-clause-same_fails : goal.read_all-returns-clause-same_fails
read_all-returns-clause-same_fails g t c fails all_fail =
    let front = c.pop.new.self.items in
    let is : c.args.readers.items ≡ front ++ c.in-Some.last ∷ [] = search rules in
    c.read_beside-parts.ensures.same_fails
    ∙ (all_ends (λ r. g.R.RawImage.fails r ≡ fails) front c.args.readers.items c.in-Some.last is all_fail).1

pub read_parts-returns-then-is_empty-clause-read : goal.read_parts-returns-then-is_empty-clause-read
read_parts-returns-then-is_empty-clause-read g t c known every fails all_fail =
    rw (c.new.ensures.blocks, c.new.ensures.marks)
    (nothing_read known fails 0 c.args.division.geometry.page (sum_by (λ r. g.R.RawImage.most_failures r) c.args.readers.items))
