-- At the end all are written.
use Rattle.std.proofs.Common.{◌++◌, List, ℕ, sym, ap, ◌∙◌}
use Rattle.std.specs.Prelude.{string_bytes}
use Rattle.std.specs.Borrow.{Bor}
use Rattle.std.proofs.lemmas.List.Folds.{flat_map-map}
use Rattle.scrub_check.specs.declared.statuses.checked.Checked.{Checked}
use Rattle.scrub_listings.proofs.FlatLists.{flat_all}
use Rattle.scrub_reclaim.specs.steps.Moves.{move_text}
use Rattle.scrub_reclaim.proofs.reclaiming.append_moves.Goals as goal

pub returns : goal.returns
returns c =
    flat_all (λ (one : Bor Checked). move_text c.args.bytes one.now) (string_bytes c.args.text.now) (string_bytes c.loop-one.text) c.args.some.now c.loop-one.one-index c.loop-one-test.false c.loop-one.invariant
    ∙ ap (λ (u : List ℕ). string_bytes c.args.text.now ++ u) (sym (flat_map-map (move_text c.args.bytes) (λ (one : Bor Checked). one.now) c.args.some.now))
