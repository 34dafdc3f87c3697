use Rattle.std.proofs.Common.{◌==◌, ℕ, not, ap, sym, ◌∙◌}
use Rattle.std.specs.List.{list_any}
use Rattle.scrub_check.proofs.Reclaimable.{named_by_sound_alone}
use Rattle.scrub_check.proofs.lists.reclaiming.has_sound_alone.Goals as goal

pub returns : goal.returns
returns g c checked locators =
    ap not (c.has.ensures ∙ ap (λ (e : ℕ). list_any (λ x. x == e) c.args.locators.now.barred) c.extent.ensures)
    ∙ sym (named_by_sound_alone checked c.args.locators.now.barred c.args.found.now.extent locators.barred)
