-- The locators of a place are between the first that isn't below it and the first that is above it.
use Rattle.std.proofs.Common.{is_lt, is_le, rules}
use Rattle.std.proofs.lemmas.List.Sorted.{IsPartitionPoint-from_clause}
use Rattle.list_facts.proofs.Sorted.{BelowAt, ThroughAt, below_through, parted_below, parted_through}
use Rattle.scrub_reclaim.proofs.ByPlace.{part_there, probe, shown_cmp, shown_total}
use Rattle.scrub_reclaim.proofs.moves.pointing_to.Goals as goal

pub slice_bounds-result-count : goal.slice_bounds-result-count
slice_bounds-result-count c =
    let ys = c.args.sorted.now in
    let x = probe c.args.extent c.args.offset in
    let below : BelowAt shown_cmp ys x c.partition_point-below.result = IsPartitionPoint-from_clause (λ y. is_lt (shown_cmp y x)) ys c.partition_point-below.result c.partition_point-below.ensures.partitioned (parted_below shown_total ys x c.requires) (λ a r f' called. search rules) in
    let through : ThroughAt shown_cmp ys x c.partition_point-through.result = IsPartitionPoint-from_clause (λ y. is_le (shown_cmp y x)) ys c.partition_point-through.result c.partition_point-through.ensures.partitioned (parted_through shown_total ys x c.requires) (λ a r f' called. search rules) in
    below_through shown_cmp ys x c.partition_point-below.result c.partition_point-through.result below through c.partition_point-below.ensures.bound

pub slice_bounds-result-start : goal.slice_bounds-result-start
slice_bounds-result-start c = slice_bounds-result-count c

pub returns : goal.returns
returns c checked same =
    let ys = c.args.sorted.now in
    let x = probe c.args.extent c.args.offset in
    let below : BelowAt shown_cmp ys x c.partition_point-below.result = IsPartitionPoint-from_clause (λ y. is_lt (shown_cmp y x)) ys c.partition_point-below.result c.partition_point-below.ensures.partitioned (parted_below shown_total ys x c.requires) (λ a r f' called. search rules) in
    let through : ThroughAt shown_cmp ys x c.partition_point-through.result = IsPartitionPoint-from_clause (λ y. is_le (shown_cmp y x)) ys c.partition_point-through.result c.partition_point-through.ensures.partitioned (parted_through shown_total ys x c.requires) (λ a r f' called. search rules) in
    part_there checked ys c.args.extent c.args.offset c.partition_point-below.result c.partition_point-through.result below through
    (below_through shown_cmp ys x c.partition_point-below.result c.partition_point-through.result below through c.partition_point-below.ensures.bound) c.partition_point-through.ensures.bound same
