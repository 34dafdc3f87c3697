-- Slices that are the same have the same bytes.
use Rattle.std.proofs.Common.{◌≡◌, Bool, true, false, not, get_or, refl, sym, ◌∙◌}
use Rattle.std.specs.Bool.{beq}
use Rattle.std.proofs.lemmas.Bool.{false≢true}
use Rattle.scrub_compare.proofs.ChangedBytes.{same_marks, same_part}
use Rattle.scrub_compare.proofs.bytes.is_same_page.Goals as goal

pub returns : goal.returns
returns c same place low high =
    let marked : c.index.result.now ≡ c.index-2.result.now = by c.index.result.now c.index-2.result.now c.if-index.false in
    let marks : get_or c.args.old.now.readable.items c.args.page false ≡ get_or c.args.new.now.readable.items c.args.page false =
    same_marks c.args.old.now.readable.items c.args.new.now.readable.items c.args.page c.index.result.now c.index-2.result.now c.index.ensures c.index-2.ensures
    c.requires.old_page c.requires.new_page marked in
    same_part c.args.old.now c.args.new.now c.args.page c.args.start c.args.end marks
    (rw (c.deref.ensures.value, c.deref-2.ensures.value) at (sym c.are_same.ensures ∙ same)) place low high
  where
    by : (a b : Bool) → not (beq a b) ≡ false → a ≡ b
    by true true is = refl
    by true false is = absurd (false≢true (sym is))
    by false true is = absurd (false≢true (sym is))
    by false false is = refl
