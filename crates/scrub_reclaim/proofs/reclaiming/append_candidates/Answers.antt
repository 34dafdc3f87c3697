-- At the end all are written, and the locators into their extents are all that point to their chunks.
use Rattle.std.proofs.Common.{◌++◌, List, ℕ, ap, ◌∙◌}
use Rattle.std.specs.Prelude.{string_bytes}
use Rattle.scrub_listings.proofs.FlatLists.{flat_all}
use Rattle.scrub_reclaim.specs.Reclaimable.{candidate_lines}
use Rattle.scrub_reclaim.specs.steps.Moves.{named_in}
use Rattle.scrub_reclaim.proofs.MoveLines.{all_lines_in}
use Rattle.scrub_reclaim.proofs.reclaiming.append_candidates.Goals as goal

pub returns : goal.returns
returns c =
    let checked = c.args.checked.now in
    let listed = c.args.listed.now in
    flat_all (candidate_lines (named_in listed checked)) (string_bytes c.args.text.now) (string_bytes c.loop-candidate.text) c.args.candidates.now c.loop-candidate.candidate-index c.loop-candidate-test.false c.loop-candidate.invariant
    ∙ ap (λ (u : List ℕ). string_bytes c.args.text.now ++ u) (all_lines_in listed checked c.args.candidates.now c.requires)
