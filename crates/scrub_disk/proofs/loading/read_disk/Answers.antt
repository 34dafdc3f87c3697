-- The reads of all pages are few.
use Rattle.std.proofs.Common.{rules, arith, ◌≡◌, ◌≤◌, ◌*◌, length}
use Rattle.std.proofs.Math.Nat.{mul-le-mul_right}
use Rattle.scrub_disk.proofs.loading.read_disk.Goals as goal

pub read_pages-requires-clause-few_reads : goal.read_pages-requires-clause-few_reads
read_pages-requires-clause-few_reads g c =
    let sizes = c.args.geometry in
    let rows : 64 * (sizes.pages * sizes.extents) ≤ sizes.page * (sizes.pages * sizes.extents) =
    mul-le-mul_right (sizes.pages * sizes.extents) sizes.page_least in
    let marks : length c.deref_mut-2.result.now ≡ sizes.pages * sizes.extents = search rules in
    let page : c.page-page.result ≡ sizes.page = search rules in
    rw (marks, page) (omega (arith, rows, sizes.total_fits))
