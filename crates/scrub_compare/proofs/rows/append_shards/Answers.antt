-- One more shard.
use Rattle.std.proofs.Common.{◌++◌, List, ℕ, refl, ◌∙◌}
use Rattle.std.proofs.Math.Path.{ap₂}
use Rattle.std.specs.Prelude.{string_bytes}
use Rattle.scrub_run.specs.declared.shard_id.ShardId.{ShardId}
use Rattle.scrub_check.specs.declared.statuses.checked.Checked.{Checked}
use Rattle.scrub_listings.proofs.FlatLists.{flat_more}
use Rattle.scrub_compare.specs.Compare.{owned_by, shard_change}
use Rattle.scrub_compare.specs.steps.Rows.{row_among}
use Rattle.scrub_compare.proofs.rows.append_shards.Goals as goal

pub loop-id-preserved : goal.loop-id-preserved
loop-id-preserved g c =
    let row = row_among c.args.before.now.all.now.extents c.args.before.now.copies.now in
    let row_now = row_among c.args.after.now.all.now.extents c.args.after.now.copies.now in
    let part : ShardId → List ℕ = λ id. shard_change row row_now (owned_by id c.args.before.now.shards.now) (owned_by id c.args.after.now.shards.now) in
    flat_more part (string_bytes c.args.text.now) (string_bytes c.loop-id.text) (string_bytes c.append_shard.new.text) c.args.ids.now c.loop-id.id-index _ _
    c.loop-id-test.true refl c.loop-id.invariant
    (c.in_ok-append_shard.ensures
    ∙ ap₂ (λ (own own_now : List Checked). string_bytes c.loop-id.text ++ shard_change row row_now own own_now) c.owned_by-own.ensures c.owned_by-own_now.ensures)
