-- Neither live nor outside the candidates.
use Rattle.std.proofs.Common.{◌∙◌, ◌&&◌, Bool, not}
use Rattle.std.proofs.Math.Path.{ap₂}
use Rattle.scrub_reclaim.proofs.spare_doubts.is_at_risk.Goals as goal

pub returns : goal.returns
returns c checked locators =
    c.is_risk.ensures ∙ ap₂ (λ (a b : Bool). not a && b) (c.has_sound-is_live.ensures checked locators) c.has.ensures
