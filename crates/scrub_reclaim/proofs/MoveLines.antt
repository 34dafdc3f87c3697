-- The lines of a candidate's moves are those that the code writes chunk by chunk.
use Rattle.std.proofs.Common.{◌≡◌, ◌==◌, ◌++◌, ℕ, true, List, [], ◌∷◌, get_or, map, arith, refl, sym, ap, ◌∙◌}
use Rattle.std.specs.List.{flat_map, list_any}
use Rattle.std.specs.List.Sorted.{IsPermutation}
use Rattle.std.proofs.lemmas.Bool.{and_parts, eq-eqb, eqb-true}
use Rattle.std.proofs.lemmas.List.{get_or-map, length-map}
use Rattle.std.proofs.lemmas.List.Sorted.{list_any-IsPermutation}
use Rattle.std.proofs.lemmas.Grind.{flat_map-append}
use Rattle.std.proofs.lemmas.List.Folds.{flat_map-map, list_any_at}
use Rattle.list_facts.proofs.Filters.{filter_of_weaker}
use Rattle.scrub_check.specs.declared.lists.kept_chunk.KeptChunk.{KeptChunk}
use Rattle.scrub_check.specs.declared.statuses.checked.Checked.{Checked}
use Rattle.scrub_check.specs.Candidates.{CandidateValue}
use Rattle.scrub_listings.proofs.SpareLines.{flat_same}
use Rattle.scrub_reclaim.specs.Reclaimable.{MoveValue, all_candidate_lines, candidate_lines, move_line, moves, moves_of, pointing_to, points_to, reclaim_line}
use Rattle.scrub_reclaim.specs.steps.Moves.{kept_lines, named_in}

-- the named locators to a chunk of one of these extents are among those into these
pointing_in : (extents : List ℕ) (checked : List Checked) (e p : ℕ) → list_any (λ n. n == e) extents ≡ true →
    pointing_to (named_in extents checked) e p ≡ pointing_to checked e p
pointing_in extents checked e p among =
    filter_of_weaker (points_to e p) (λ (c : Checked). list_any (λ n. n == c.locator.extent) extents) checked
    (λ (c : Checked) there.
    ap (λ (x : ℕ). list_any (λ n. n == x) extents) (eqb-true c.locator.extent e (and_parts (c.locator.extent == e) (c.locator.offset == p) there).0)
    ∙ among)

-- so a candidate of one of these extents has the same moves among them
lines_in : (extents : List ℕ) (checked : List Checked) (a : CandidateValue) → list_any (λ n. n == a.extent) extents ≡ true →
    candidate_lines (named_in extents checked) a ≡ candidate_lines checked a
lines_in extents checked a among =
    λ i. reclaim_line a ++ flat_map move_line (flat_map (λ (k : KeptChunk). map (named k) (pointing_in extents checked a.extent k.start among i)) a.chunks)
  where
    named : KeptChunk → Checked → MoveValue
    named k c = record { named = c; bytes = k.bytes }

-- and so have all candidates, if these are their extents
pub all_lines_in : (extents : List ℕ) (checked : List Checked) (candidates : List CandidateValue) →
    IsPermutation (map (λ a. a.extent) candidates) extents →
    all_candidate_lines (named_in extents checked) candidates ≡ all_candidate_lines checked candidates
all_lines_in extents checked candidates same =
    flat_same (candidate_lines (named_in extents checked)) (candidate_lines checked) candidates
    (λ i d below.
    let a : CandidateValue = get_or candidates i d in
    lines_in extents checked a
    (sym (list_any-IsPermutation (λ n. n == a.extent) (map (λ b. b.extent) candidates) extents same)
    ∙ list_any_at (λ n. n == a.extent) (map (λ b. b.extent) candidates) i a.extent (omega (arith, below, length-map candidates (λ b. b.extent)))
    (ap (λ (n : ℕ). n == a.extent) (get_or-map (λ b. b.extent) candidates i d a.extent below) ∙ eq-eqb a.extent a.extent refl)))

-- The parts of parts, put together.
pub flat_parts : {X Y Z : Type 0} (f : Y → List Z) (g : X → List Y) (xs : List X) →
    flat_map f (flat_map g xs) ≡ flat_map (λ x. flat_map f (g x)) xs
flat_parts f g [] = refl
flat_parts {X} {Y} {Z} f g (x ∷ xs) = flat_map-append f (g x) (flat_map g xs) ∙ ap (λ (u : List Z). flat_map f (g x) ++ u) (flat_parts f g xs)

-- The lines of a candidate's moves are those of its chunks to keep, one chunk after another.
pub by_chunk : (checked : List Checked) (a : CandidateValue) →
    flat_map (kept_lines checked a.extent) a.chunks ≡ flat_map move_line (moves checked a)
by_chunk checked a =
    sym
    (flat_parts move_line (moves_of checked a.extent) a.chunks
    ∙ λ i. flat_map (λ (k : KeptChunk). of_chunk k i) a.chunks)
  where
    named : KeptChunk → Checked → MoveValue
    named k c = record { named = c; bytes = k.bytes }

    of_chunk : (k : KeptChunk) → flat_map move_line (moves_of checked a.extent k) ≡ kept_lines checked a.extent k
    of_chunk k = flat_map-map move_line (named k) (pointing_to checked a.extent k.start)
