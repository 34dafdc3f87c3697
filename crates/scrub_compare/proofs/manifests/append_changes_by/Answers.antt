-- The lines of the retired extents, those of the index runs, and those of shards.
use Rattle.std.proofs.Common.{◌≡◌, ◌++◌, ℕ, List, ap, ◌∙◌, append_assoc}
use Rattle.std.specs.Prelude.{string_bytes}
use Rattle.scrub_found.specs.Judged.{found_in}
use Rattle.scrub_listings.specs.Manifest.{hidden_runs, lost_run_count, of_shards}
use Rattle.scrub_compare.specs.Compare.{AreBoundIds, retired_change, row_in, runs_change, shard_changes}
use Rattle.scrub_compare.proofs.ExtentLines.{on_ok}
use Rattle.scrub_compare.proofs.ManifestCounts.{hidden_is, lost_is}
use Rattle.scrub_compare.proofs.manifests.append_changes_by.Goals as goal

pub returns : goal.returns
returns g c b d loose loose_now rows rows_now best best_now =
    let found_before = found_in c.args.old.now b in
    let found_after_resets = found_in c.args.new.now d in
    let ids = c.in_ok-ids.ids.items in
    let old = string_bytes c.args.text.now in
    let retired = retired_change found_before.plan.retired found_after_resets.plan.retired in
    let runs = runs_change (lost_run_count found_before) (hidden_runs found_before) (lost_run_count found_after_resets) (hidden_runs found_after_resets) in
    let shards = shard_changes (row_in found_before loose) (row_in found_after_resets loose_now) (of_shards found_before.checked) (of_shards found_after_resets.checked) ids in
    let bound : AreBoundIds c.args.old.now.map c.args.new.now.map ids = rw (c.bindings.ensures.bindings, c.bindings-2.ensures.bindings) at c.in_ok-ids.ensures in
    let first : string_bytes c.append_retired_change.new.text ≡ old ++ retired =
    c.in_ok-append_retired_change.ensures ∙ (λ i. old ++ retired_change (c.retired.ensures.retired i) (c.retired-2.ensures.retired i)) in
    let second : string_bytes c.append_runs_change.new.text ≡ old ++ retired ++ runs =
    c.in_ok-append_runs_change.ensures
    ∙ (λ i. string_bytes c.append_retired_change.new.text ++ runs_change ((c.run_counts.ensures.lost ∙ lost_is c.args.old.now b rows) i) ((c.run_counts.ensures.hidden ∙ hidden_is c.args.old.now b rows) i) ((c.run_counts-2.ensures.lost ∙ lost_is c.args.new.now d rows_now) i) ((c.run_counts-2.ensures.hidden ∙ hidden_is c.args.new.now d rows_now) i))
    ∙ ap (λ (u : List ℕ). u ++ runs) first in
    on_ok c.append_shard_changes.result _ _ (c.append_shard_changes.ensures loose loose_now best best_now) (λ same. (
      ids,
      bound,
      rw c.deref.ensures.value at same
          ∙ ap (λ (u : List ℕ). u ++ shards) (second ∙ append_assoc old retired runs)
          ∙ append_assoc old (retired ++ runs) shards,
    ))
