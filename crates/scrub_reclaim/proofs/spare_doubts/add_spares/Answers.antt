-- The index and the listed extents say what all locators and candidates say.
use Rattle.std.proofs.Common.{◌≡◌, ◌++◌, ◌∙◌, List, OnOk, ap, map, subst, sym}
use Rattle.scrub_scan.specs.declared.standing.Standing.{Standing}
use Rattle.scrub_check.specs.Spares.{AreSpares}
use Rattle.scrub_reclaim.specs.Doubts.{safe_spares}
use Rattle.scrub_reclaim.specs.declared.doubts.Doubt.{Doubt}
use Rattle.scrub_reclaim.proofs.SpareDoubts.{all_alike}
use Rattle.scrub_reclaim.proofs.spare_doubts.add_spares.Goals as goal

pub returns : goal.returns
returns g c all are =
    let parts = c.args.parts.now in
    let checked = parts.judged.checked.items in
    let found : List Standing = c.all_spares-spares.result.now in
    let same : found ≡ parts.copies.spares = c.all_spares-spares.ensures in
    let of_these : AreSpares all checked found = subst (λ (ss : List Standing). AreSpares all checked ss) (sym same) are in
    let safe : c.in_ok-safe.safe.items ≡ safe_spares checked parts.listed found =
    c.in_ok-safe.ensures checked c.requires.locators ∙ ap (safe_spares checked parts.listed) c.all.ensures in
    subst (λ (ds : List Doubt). OnOk c.add_all.result (c.add_all.new.doubts.items ≡ c.args.doubts.now.items ++ ds))
    (all_alike all checked found of_these (map (λ a. a.extent) parts.candidates.items) parts.listed c.requires.listed
    c.in_ok-safe.safe.items c.in_ok-stay.stay safe c.in_ok-stay.ensures)
    (rw c.deref.ensures.value at c.add_all.ensures)
