-- Nothing was to be compared before.
use Rattle.std.proofs.Common.{arith, sym, ◌∙◌}
use Rattle.list_facts.proofs.Options.{None_from_not_some}
use Rattle.scrub_scan.proofs.Seals.{tiles_trusted}
use Rattle.scrub_scan.proofs.collected.Collected.trust.Goals as goal

pub returns-then-may_return-clause-collected : goal.returns-then-may_return-clause-collected
returns-then-may_return-clause-collected g c = λ x payloads held.
    let self = c.args.self.now in
    record {
      before = held.before;
      payloads = held.payloads;
      has = held.has;
      first = held.first;
      tiles = tiles_trusted x c.args.place self.trusted_from _ self.items.items self.pending.items held.payloads
          (None_from_not_some self.trusted_from (sym c.is_some.ensures ∙ c.if-is_some.false)) held.tiles;
      trusted = omega arith;
    }
