use Rattle.std.proofs.Common.{rules, sym}
use Rattle.std.specs.Ordering.{is_lt, is_le}
use Rattle.std.proofs.lemmas.List.Sorted.{IsPartitionPoint-from_clause}
use Rattle.list_facts.proofs.Sorted.{BelowAt, ThroughAt, below_through, counted_between, parted_below, parted_through}
use Rattle.scrub_check.proofs.places.sorted_list.count_of.Goals as goal

pub overflow_sub-result : goal.overflow_sub-result
overflow_sub-result g c =
    let xs = c.args.sorted.now in
    let x = c.args.one.now in
    let o = g.met.T.Ord.total in
    let below : BelowAt g.T.Ord.cmp xs x c.partition_point-below.result =
    IsPartitionPoint-from_clause (λ y. is_lt (g.T.Ord.cmp y x)) xs c.partition_point-below.result
    c.partition_point-below.ensures.partitioned (parted_below o xs x c.requires) (λ a r f' called. search rules) in
    let through : ThroughAt g.T.Ord.cmp xs x c.partition_point-through.result =
    IsPartitionPoint-from_clause (λ y. is_le (g.T.Ord.cmp y x)) xs c.partition_point-through.result
    c.partition_point-through.ensures.partitioned (parted_through o xs x c.requires) (λ a r f' called. search rules) in
    below_through g.T.Ord.cmp xs x c.partition_point-below.result c.partition_point-through.result below through
    c.partition_point-below.ensures.bound

pub returns : goal.returns
returns g c =
    let xs = c.args.sorted.now in
    let x = c.args.one.now in
    let o = g.met.T.Ord.total in
    let below : BelowAt g.T.Ord.cmp xs x c.partition_point-below.result =
    IsPartitionPoint-from_clause (λ y. is_lt (g.T.Ord.cmp y x)) xs c.partition_point-below.result
    c.partition_point-below.ensures.partitioned (parted_below o xs x c.requires) (λ a r f' called. search rules) in
    let through : ThroughAt g.T.Ord.cmp xs x c.partition_point-through.result =
    IsPartitionPoint-from_clause (λ y. is_le (g.T.Ord.cmp y x)) xs c.partition_point-through.result
    c.partition_point-through.ensures.partitioned (parted_through o xs x c.requires) (λ a r f' called. search rules) in
    sym
    (counted_between g.T.Ord.cmp xs x c.partition_point-below.result c.partition_point-through.result below through (below_through g.T.Ord.cmp xs x c.partition_point-below.result c.partition_point-through.result below through c.partition_point-below.ensures.bound) c.partition_point-through.ensures.bound)
