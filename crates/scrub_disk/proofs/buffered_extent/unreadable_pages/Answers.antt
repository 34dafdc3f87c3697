-- One more page, readable or not.
use Rattle.std.proofs.Common.{sym, ◌∙◌, ap, ◌++◌, ◌∷◌, [], not, false, get_or}
use Rattle.list_facts.proofs.Filters.{filter_range-no, filter_range-yes}
use Rattle.scrub_disk.proofs.buffered_extent.unreadable_pages.Goals as goal
use Rattle.scrub_disk.proofs.buffered_extent.unreadable_pages.Goals.{then-not-readable-page+in_ok-push, else-not-readable-page}

pub loop-page-preserved : goal.loop-page-preserved
loop-page-preserved c =
    elim c.if-not-readable-page.branch [
      | then-not-readable-page+in_ok-push w ↦
          ap (λ v. v.items) w.unreadable-is ∙ w.in_ok-push.ensures.items
          ∙ ap (λ xs. xs ++ c.loop-page.page ∷ []) c.loop-page.invariant
          ∙ sym
          (filter_range-yes (λ g. not (get_or c.args.readable.now g false)) c.loop-page.page (ap not w.if-not-readable-page.true))
      | else-not-readable-page w ↦
          ap (λ v. v.items) w.unreadable-is ∙ c.loop-page.invariant
          ∙ sym
          (filter_range-no (λ g. not (get_or c.args.readable.now g false)) c.loop-page.page (ap not w.if-not-readable-page.false))
    ]
