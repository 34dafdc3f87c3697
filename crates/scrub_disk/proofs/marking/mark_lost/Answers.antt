-- One more page, which is marked if it is lost.
use Rattle.std.proofs.Common.{rules, ◌≡◌, ◌∙◌, ap, get_or, true, false}
use Rattle.scrub_disk.proofs.RawImages.{marks_lost_more, marks_lost_same}
use Rattle.scrub_disk.proofs.marking.mark_lost.Goals as goal
use Rattle.scrub_disk.proofs.marking.mark_lost.Goals.{then-is_lost, else-is_lost}

pub loop-number-preserved : goal.loop-number-preserved
loop-number-preserved g c =
    let pages : c.pages-pages.result ≡ (g.D.PageSource.image c.args.disk.now).geometry.pages =
    c.pages-pages.ensures ∙ ap (λ x. x.pages) c.geometry.ensures in
    elim c.if-is_lost.branch [
      | then-is_lost w ↦
          let lost : get_or c.args.lost.now c.loop-number.number false ≡ true = search rules in
          rw w.disk-is
          (marks_lost_more c.args.lost.now c.loop-number.number c.pages-pages.result _ _ _ pages lost c.loop-number.invariant w.mark_bad.ensures)
      | else-is_lost w ↦
          let kept : get_or c.args.lost.now c.loop-number.number false ≡ false = search rules in
          rw w.disk-is (marks_lost_same c.args.lost.now c.loop-number.number _ _ kept c.loop-number.invariant)
    ]
