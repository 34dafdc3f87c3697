-- A chunk at risk doesn't stay.
use Rattle.std.proofs.Common.{◌≡◌, ◌++◌, ◌∷◌, [], rules}
use Rattle.scrub_reclaim.proofs.SpareDoubts.{at_risk_not_kept, stays_too}
use Rattle.scrub_reclaim.proofs.spare_doubts.add_safe_spare.Goals as goal

pub returns-then-is_at_risk : goal.returns-then-is_at_risk
returns-then-is_at_risk c checked same =
    at_risk_not_kept checked c.args.extents.now c.args.spare.now c.is_at_risk.result c.args.stay.now.items (c.is_at_risk.ensures checked same) c.if-is_at_risk.true

pub returns : goal.returns
returns c checked same =
    let grown : c.push.new.self.items ≡ c.args.stay.now.items ++ c.args.spare.now ∷ [] = search rules in
    stays_too checked c.args.extents.now c.args.spare.now c.is_at_risk.result c.args.stay.now.items c.push.new.self.items
    (c.is_at_risk.ensures checked same) c.if-is_at_risk.false grown
