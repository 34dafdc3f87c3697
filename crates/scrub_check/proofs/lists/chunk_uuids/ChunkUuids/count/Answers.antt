use Rattle.std.proofs.Common.{◌≡◌, ◌∙◌, ap, is_eq, rules}
use Rattle.std.specs.Ordering.{nat_cmp}
use Rattle.std.specs.List.{count_by}
use Rattle.list_facts.proofs.Orders.{is_eq-nat_cmp}
use Rattle.scrub_check.proofs.lists.chunk_uuids.ChunkUuids.count.Goals as goal

pub returns : goal.returns
returns c =
    let read : c.deref.result.now ≡ c.args.self.now = search rules in
    c.count_of.ensures
    ∙ ap (count_by (λ other. is_eq (nat_cmp other c.args.number))) read
    ∙ ap (λ test. count_by test c.args.self.now) (λ i other. is_eq-nat_cmp other c.args.number i)
