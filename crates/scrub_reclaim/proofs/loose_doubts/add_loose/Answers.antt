-- The listed extents say what all candidates say, and the kept copies what all loose frames say.
use Rattle.std.proofs.Common.{◌≡◌, ◌++◌, ◌∙◌, List, OnOk, ap, map, subst}
use Rattle.scrub_reclaim.specs.Doubts.{outside}
use Rattle.scrub_reclaim.specs.declared.doubts.Doubt.{Doubt}
use Rattle.scrub_reclaim.proofs.LooseDoubts.{all_loose_alike}
use Rattle.scrub_reclaim.proofs.loose_doubts.add_loose.Goals as goal

pub returns : goal.returns
returns g c loose kept =
    let parts = c.args.parts.now in
    let all = parts.judged.scan.all.extents in
    let checked = parts.judged.checked.items in
    let safe : c.in_ok-safe.safe.items ≡ outside parts.listed parts.copies.loose =
    c.in_ok-safe.ensures ∙ ap (outside parts.listed) (c.all.ensures ∙ c.all_loose.ensures) in
    subst (λ (ds : List Doubt). OnOk c.add_all.result (c.add_all.new.doubts.items ≡ c.args.doubts.now.items ++ ds))
    (all_loose_alike all checked loose parts.copies kept (map (λ a. a.extent) parts.candidates.items) parts.listed c.requires.listed
    c.in_ok-safe.safe.items c.in_ok-stay.stay safe c.in_ok-stay.ensures)
    (rw c.deref.ensures.value at c.add_all.ensures)
