-- The locators of a shard are between the first whose owner isn't below it and the first whose owner is above it.
use Rattle.std.proofs.Common.{◌≡◌, true, false, is_lt, is_le, rules}
use Rattle.std.specs.List.Sorted.{IsPartitionPoint}
use Rattle.std.proofs.lemmas.List.Sorted.{IsPartitionPoint-from_clause}
use Rattle.scrub_compare.specs.steps.Rows.{owner_cmp}
use Rattle.scrub_compare.proofs.OwnedBy.{in_order, own_part}
use Rattle.scrub_compare.proofs.rows.owned_by.Goals as goal

pub slice_bounds-result-count : goal.slice_bounds-result-count
slice_bounds-result-count c =
    let ys = c.args.shards.now in
    let id = c.args.id in
    let lows : IsPartitionPoint (λ y. is_lt (owner_cmp y.owner id) ≡ true) (λ y. is_lt (owner_cmp y.owner id) ≡ false) ys c.partition_point-below.result = IsPartitionPoint-from_clause (λ y. is_lt (owner_cmp y.owner id)) ys c.partition_point-below.result c.partition_point-below.ensures.partitioned (c.requires id).0 (λ a r f' called. search rules) in
    let highs : IsPartitionPoint (λ y. is_le (owner_cmp y.owner id) ≡ true) (λ y. is_le (owner_cmp y.owner id) ≡ false) ys c.partition_point-through.result = IsPartitionPoint-from_clause (λ y. is_le (owner_cmp y.owner id)) ys c.partition_point-through.result c.partition_point-through.ensures.partitioned (c.requires id).1 (λ a r f' called. search rules) in
    in_order ys id c.partition_point-below.result c.partition_point-through.result lows highs c.partition_point-below.ensures.bound

pub slice_bounds-result-start : goal.slice_bounds-result-start
slice_bounds-result-start c = slice_bounds-result-count c

pub returns : goal.returns
returns c =
    let ys = c.args.shards.now in
    let id = c.args.id in
    let lows : IsPartitionPoint (λ y. is_lt (owner_cmp y.owner id) ≡ true) (λ y. is_lt (owner_cmp y.owner id) ≡ false) ys c.partition_point-below.result = IsPartitionPoint-from_clause (λ y. is_lt (owner_cmp y.owner id)) ys c.partition_point-below.result c.partition_point-below.ensures.partitioned (c.requires id).0 (λ a r f' called. search rules) in
    let highs : IsPartitionPoint (λ y. is_le (owner_cmp y.owner id) ≡ true) (λ y. is_le (owner_cmp y.owner id) ≡ false) ys c.partition_point-through.result = IsPartitionPoint-from_clause (λ y. is_le (owner_cmp y.owner id)) ys c.partition_point-through.result c.partition_point-through.ensures.partitioned (c.requires id).1 (λ a r f' called. search rules) in
    own_part ys id c.partition_point-below.result c.partition_point-through.result lows highs
    (in_order ys id c.partition_point-below.result c.partition_point-through.result lows highs c.partition_point-below.ensures.bound) c.partition_point-through.ensures.bound
