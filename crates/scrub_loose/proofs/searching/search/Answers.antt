-- The extents that are searched are of the disk, and ascend.
use Rattle.std.proofs.Common.{◌<◌, ◌==◌, ◌∙◌, List, ℕ, not, subst, sym}
use Rattle.std.specs.List.{All, list_any}
use Rattle.std.proofs.lemmas.List.Elements.{All-filter}
use Rattle.scrub_check.specs.Spares.{is_wanted}
use Rattle.scrub_loose.specs.Loose.{LooseValue}
use Rattle.scrub_loose.specs.steps.Search.{AreFoundInEach, searched}
use Rattle.scrub_loose.proofs.SearchedExtents.{searched_rise}
use Rattle.scrub_loose.proofs.searching.search.Goals as goal

pub search_each-requires-clause-in_disk : goal.search_each-requires-clause-in_disk
search_each-requires-clause-in_disk g c κs within =
    let extents = c.args.extents.now in
    let resets = c.args.resets.now in
    let InDisk : ℕ → Type 0 = λ e. e < (g.D.PageSource.image c.args.disk.now).geometry.extents in
    subst (λ (es : List ℕ). All InDisk es) (sym (c.deref.ensures.value ∙ c.in_ok-extents.ensures))
    (All-filter (λ e. not (list_any (λ r. r == e) resets)) InDisk extents c.requires.planned.below)

pub returns : goal.returns
returns g c =
    let image = g.D.PageSource.image c.args.disk.now in
    let test = is_wanted c.args.asked.now.contents.items in
    let es = searched c.args.resets.now c.args.extents.now in
    c.joined.ensures test image es (searched_rise c.args.resets.now c.args.extents.now c.requires.planned.rising)
    (subst (λ (vs : List LooseValue). AreFoundInEach test image es vs) (sym c.deref-2.ensures.value)
    (subst (λ (fs : List ℕ). AreFoundInEach test image fs c.in_ok-each.each.items) (c.deref.ensures.value ∙ c.in_ok-extents.ensures) c.in_ok-each.ensures))
