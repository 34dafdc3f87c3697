-- The copies are between the first frame that isn't below what the locator asks for and the first that is above it.
use Rattle.std.proofs.Common.{◌≡◌, ◌≤◌, ◌-◌, ◌∙◌, List, ap, drop, is_lt, is_le, rules, take}
use Rattle.std.specs.List.Sorted.{IsSorted}
use Rattle.std.proofs.lemmas.List.Sorted.{IsPartitionPoint-from_clause}
use Rattle.list_facts.proofs.Sorted.{BelowAt, ThroughAt, below_through, parted_below, parted_through}
use Rattle.scrub_scan.specs.declared.standing.Standing.{Standing}
use Rattle.scrub_check.proofs.SpareCopies.{copies_between, frame_cmp, frame_total, probe}
use Rattle.scrub_check.proofs.lists.spares.Spares.copies.Goals as goal

pub slice_bounds-result-count : goal.slice_bounds-result-count
slice_bounds-result-count c =
    let ys = c.args.self.now in
    let x = probe c.args.locator.now in
    let read : c.deref.result.now ≡ ys = search rules in
    let again : c.deref-2.result.now ≡ ys = search rules in
    let sorted : IsSorted frame_cmp c.deref.result.now = search rules in
    let sorted_again : IsSorted frame_cmp c.deref-2.result.now = search rules in
    let below : BelowAt frame_cmp c.deref.result.now x c.partition_point-below.result = IsPartitionPoint-from_clause (λ y. is_lt (frame_cmp y x)) c.deref.result.now c.partition_point-below.result c.partition_point-below.ensures.partitioned (parted_below frame_total c.deref.result.now x sorted) (λ a r f' called. search rules) in
    let through : ThroughAt frame_cmp c.deref-2.result.now x c.partition_point-through.result = IsPartitionPoint-from_clause (λ y. is_le (frame_cmp y x)) c.deref-2.result.now c.partition_point-through.result c.partition_point-through.ensures.partitioned (parted_through frame_total c.deref-2.result.now x sorted_again) (λ a r f' called. search rules) in
    below_through frame_cmp ys x c.partition_point-below.result c.partition_point-through.result (rw read at below) (rw again at through) (rw read at c.partition_point-below.ensures.bound)

pub slice_bounds-result-start : goal.slice_bounds-result-start
slice_bounds-result-start c = slice_bounds-result-count c

pub returns : goal.returns
returns c =
    let ys = c.args.self.now in
    let x = probe c.args.locator.now in
    let read : c.deref.result.now ≡ ys = search rules in
    let again : c.deref-2.result.now ≡ ys = search rules in
    let thrice : c.deref-3.result.now ≡ ys = search rules in
    let sorted : IsSorted frame_cmp c.deref.result.now = search rules in
    let sorted_again : IsSorted frame_cmp c.deref-2.result.now = search rules in
    let below : BelowAt frame_cmp c.deref.result.now x c.partition_point-below.result = IsPartitionPoint-from_clause (λ y. is_lt (frame_cmp y x)) c.deref.result.now c.partition_point-below.result c.partition_point-below.ensures.partitioned (parted_below frame_total c.deref.result.now x sorted) (λ a r f' called. search rules) in
    let through : ThroughAt frame_cmp c.deref-2.result.now x c.partition_point-through.result = IsPartitionPoint-from_clause (λ y. is_le (frame_cmp y x)) c.deref-2.result.now c.partition_point-through.result c.partition_point-through.ensures.partitioned (parted_through frame_total c.deref-2.result.now x sorted_again) (λ a r f' called. search rules) in
    let order : c.partition_point-below.result ≤ c.partition_point-through.result = below_through frame_cmp ys x c.partition_point-below.result c.partition_point-through.result (rw read at below) (rw again at through) (rw read at c.partition_point-below.ensures.bound) in
    ap (λ (zs : List Standing). take (c.partition_point-through.result - c.partition_point-below.result) (drop c.partition_point-below.result zs)) thrice
    ∙ copies_between ys c.args.locator.now c.partition_point-below.result c.partition_point-through.result (rw read at below) (rw again at through) order (rw again at c.partition_point-through.ensures.bound)
