-- The identifiers of both, sorted, and each once.
use Rattle.std.proofs.Common.{◌≡◌, ◌++◌, map, rules}
use Rattle.scrub_merge.proofs.Identifiers.{id_cmp_exact, id_cmp_total}
use Rattle.scrub_check.proofs.BrokenShards.{id_ties}
use Rattle.scrub_check.proofs.Distinct.{distinct_made}
use Rattle.scrub_compare.proofs.BoundIds.{bound_found}
use Rattle.scrub_compare.proofs.ids.bound_ids.Goals as goal

pub returns : goal.returns
returns c =
    let both = map (λ b. b.id) c.args.old.now ++ map (λ b. b.id) c.args.new.now in
    let sorted = c.sort.new.self.items in
    let same : c.extend_from_slice.new.self.items ≡ both = search rules in
    bound_found c.args.old.now c.args.new.now c.dedup.new.self.items
    (distinct_made id_cmp_total id_cmp_exact id_ties both sorted c.dedup.new.self.items
    (rw same at c.in_ok-sort.ensures.permutation)
    c.in_ok-sort.ensures.sorted c.dedup.ensures.filtered)
