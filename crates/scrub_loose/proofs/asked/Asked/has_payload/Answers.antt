-- The search finds the content if it is there.
use Rattle.std.proofs.Common.{◌∙◌, Bool, ap, is_eq, refl, subst, sym}
use Rattle.std.specs.List.{list_any}
use Rattle.std.specs.List.Sorted.{IsSorted}
use Rattle.list_facts.proofs.Counts.{any_counts}
use Rattle.scrub_check.specs.declared.lists.spares.Content.{Content}
use Rattle.scrub_check.specs.Spares.{content_cmp, content_of}
use Rattle.scrub_check.proofs.SpareCopies.{content_total}
use Rattle.scrub_loose.proofs.AskedContents.{found_in_order}
use Rattle.scrub_loose.proofs.asked.Asked.has_payload.Goals as goal

pub returns : goal.returns
returns c =
    let content = content_of c.args.frame.now in
    let same : Content → Bool = λ other. is_eq (content_cmp other content) in
    c.is_ok.ensures.value
    ∙ found_in_order content_total c.deref.result.now content same c.binary_search.result (λ other. refl)
    (subst (IsSorted content_cmp) (sym c.deref.ensures.value) c.requires.contents) c.binary_search.ensures.bound c.binary_search.ensures.position
    ∙ ap (list_any same) c.deref.ensures.value
    ∙ any_counts same c.args.self.now.contents.items
