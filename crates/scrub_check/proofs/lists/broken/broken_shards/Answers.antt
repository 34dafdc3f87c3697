use Rattle.std.specs.List.{filter_map}
use Rattle.scrub_merge.proofs.Identifiers.{id_cmp_total, id_cmp_exact}
use Rattle.scrub_check.specs.steps.BrokenShards.{broken_owner}
use Rattle.scrub_check.proofs.Distinct.{distinct_made}
use Rattle.scrub_check.proofs.BrokenShards.{id_ties, broken_found}
use Rattle.scrub_check.proofs.lists.broken.broken_shards.Goals as goal

pub returns : goal.returns
returns c =
    let owners = filter_map broken_owner c.args.checked.now in
    let sorted = c.sort.new.self.items in
    broken_found c.args.checked.now c.dedup.new.self.items
    (distinct_made id_cmp_total id_cmp_exact id_ties owners sorted c.dedup.new.self.items
    (rw c.in_ok-shards.ensures at c.in_ok-sort.ensures.permutation)
    c.in_ok-sort.ensures.sorted c.dedup.ensures.filtered)
