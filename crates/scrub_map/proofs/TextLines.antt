-- The first line of a text, and the lines after it.
use Rattle.std.proofs.Common.{◌≡◌, ◌<◌, ◌≤◌, ◌+◌, ◌-◌, ◌==◌, ℕ, not, List, [], ◌∷◌, length, take, drop, arith, rules, refl, sym, ◌∙◌, ap}
use Rattle.std.specs.List.{position_or_len, slice_split}
use Rattle.std.proofs.lemmas.List.Splits.{slice_split_first, slice_split_none, length-slice_split}
use Rattle.std.proofs.lemmas.List.Sums.{prefix_len_passes}
use Rattle.std.proofs.lemmas.Bool.{not-true}
use Rattle.std.proofs.lemmas.List.{drop_all, take_rest}
use Rattle.scrub_map.specs.Lines.{map_lines, without_empty_end}

-- a part that isn't the last one is a line
part_kept : (part : List ℕ) (parts : List (List ℕ)) → 0 < length parts →
    without_empty_end (part ∷ parts) ≡ part ∷ without_empty_end parts
part_kept part [] some = absurd (omega (arith, some))
part_kept part (next ∷ parts) some = refl

-- a line that a line feed ends
pub ended_line : (text : List ℕ) (end : ℕ) → end ≡ position_or_len (λ byte. byte == 10) text → end < length text →
    map_lines text ≡ take end text ∷ map_lines (take (length text - (end + 1)) (drop (end + 1) text))
unfolding map_lines
ended_line text end e below =
    let inside : position_or_len (λ byte. byte == 10) text < length text = omega (arith, e, below) in
    let split : slice_split (λ byte. byte == 10) text ≡ take end text ∷ slice_split (λ byte. byte == 10) (drop (end + 1) text) =
    rw e (slice_split_first (λ byte. byte == 10) text 0 inside) in
    ap without_empty_end split
    ∙ part_kept (take end text) _ (omega (arith, length-slice_split (λ byte. byte == 10) (drop (end + 1) text)))
    ∙ ap (λ behind. take end text ∷ without_empty_end (slice_split (λ byte. byte == 10) behind))
    (sym (take_rest text (end + 1)))

-- a last line without a line feed
pub open_line : (text : List ℕ) (end : ℕ) → end ≡ position_or_len (λ byte. byte == 10) text → length text ≤ end →
    0 < length text →
    map_lines text ≡ text ∷ map_lines (take (length text - end) (drop end text))
unfolding map_lines
open_line text end e whole some =
    let split : slice_split (λ byte. byte == 10) text ≡ text ∷ [] =
    slice_split_none (λ byte. byte == 10) text
    (λ k d below. not-true _ (prefix_len_passes (λ byte. not (byte == 10)) text k d (omega (arith, below, whole, e)))) in
    ap without_empty_end split ∙ one text some
    ∙ ap (λ behind. text ∷ without_empty_end (slice_split (λ byte. byte == 10) behind)) (sym (take_rest text end ∙ drop_all end text whole))
  where
    one : (part : List ℕ) → 0 < length part → without_empty_end (part ∷ []) ≡ part ∷ []
    one [] none = absurd (omega (arith, none))
    one (byte ∷ bytes) part = search rules
