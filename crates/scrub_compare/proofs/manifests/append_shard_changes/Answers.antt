-- The best copies that were found are those of the definition.
use Rattle.std.proofs.Common.{◌≡◌, ◌++◌, ℕ, List, OnOk, subst, ◌∙◌}
use Rattle.std.specs.Prelude.{string_bytes}
use Rattle.scrub_loose.specs.Loose.{best_of}
use Rattle.scrub_listings.specs.Manifest.{of_shards}
use Rattle.scrub_compare.specs.Compare.{row_by, shard_changes}
use Rattle.scrub_compare.specs.steps.Rows.{row_among}
use Rattle.scrub_compare.proofs.RowsAlike.{best_agree, changes_agree}
use Rattle.scrub_compare.proofs.manifests.append_shard_changes.Goals as goal

pub returns : goal.returns
returns g c loose loose_now best best_now =
    let all = c.args.old.now.scan.all.extents in
    let all_now = c.args.new.now.scan.all.extents in
    let checked = c.args.old.now.checked.items in
    let checked_now = c.args.new.now.checked.items in
    let row = row_among all c.args.copies.now in
    let row_now = row_among all_now c.args.copies_now.now in
    subst (λ (u : List ℕ). OnOk c.append_shards.result (string_bytes c.append_shards.new.text ≡ string_bytes c.args.text.now ++ u))
    ((λ i. shard_changes row row_now (c.shards_of.ensures.shards i) (c.shards_of-2.ensures.shards i) c.args.ids.now)
    ∙ changes_agree row (row_by (best_of all loose) all) row_now (row_by (best_of all_now loose_now) all_now) (of_shards checked) (of_shards checked_now) c.args.ids.now
    (best_agree all checked loose c.args.copies.now best) (best_agree all_now checked_now loose_now c.args.copies_now.now best_now))
    c.append_shards.ensures
