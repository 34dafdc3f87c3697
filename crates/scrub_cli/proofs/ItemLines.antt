-- The lines of items, one item at a time.
use Rattle.std.proofs.Common.{◌≡◌, ◌<◌, ◌+◌, ℕ, List, [], ◌∷◌, ◌++◌, length, take, get_or, refl, sym, ◌∙◌, ap, append_assoc, add-one}
use Rattle.std.proofs.Math.Seq.{take-suc}
use Rattle.scrub_scan.specs.declared.item.Item.{Item}
use Rattle.scrub_scan.specs.Line.{line_of}
use Rattle.scrub_cli.specs.Lines.{lines_of}

lines_of-append : (items : List Item) (item : Item) → lines_of (items ++ item ∷ []) ≡ lines_of items ++ line_of item ++ 10 ∷ []
lines_of-append [] item = refl
lines_of-append (first ∷ items) item =
    let regrouped : line_of first ++ (10 ∷ (lines_of items ++ line_of item ++ 10 ∷ []))
    ≡ (line_of first ++ (10 ∷ lines_of items)) ++ line_of item ++ 10 ∷ [] = simp append_assoc refl in
    ap (λ t. line_of first ++ 10 ∷ t) (lines_of-append items item) ∙ regrouped

-- one more line
pub lines_of-more : (items : List Item) (item : Item) (i : ℕ) (text line : List ℕ) → i < length items →
    item ≡ get_or items i item → text ≡ lines_of (take i items) → line ≡ line_of item →
    (text ++ line) ++ 10 ∷ [] ≡ lines_of (take (i + 1) items)
lines_of-more items item i text line below is so_far line_is =
    ap (λ t. (t ++ line) ++ 10 ∷ []) so_far ∙ ap (λ t. (lines_of (take i items) ++ t) ++ 10 ∷ []) line_is
    ∙ sym (lines_of-append (take i items) item)
    ∙ ap (λ x. lines_of (take i items ++ x ∷ [])) is
    ∙ ap lines_of (sym (take-suc items i item below) ∙ ap (λ n. take n items) (sym (add-one i)))
