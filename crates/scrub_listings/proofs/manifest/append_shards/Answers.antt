-- The locators of the next shard are the first ones that are left. At the end none is left.
use Rattle.std.proofs.Common.{◌+◌, List, drop, length, take, ap, ◌∙◌}
use Rattle.std.specs.Prelude.{string_bytes}
use Rattle.scrub_frame.specs.declared.locator.Locator.{Locator}
use Rattle.scrub_listings.specs.steps.Manifest.{after_status_by}
use Rattle.scrub_listings.proofs.ShardLines.{along_at, along_fits, along_more, shard_more, shards_all}
use Rattle.scrub_listings.proofs.manifest.append_shards.Goals as goal

pub split_at-requires : goal.split_at-requires
split_at-requires g c =
    let i = c.loop-binding.binding-index in
    let b = c.binding-item.result in
    rw c.locators.ensures
    (along_fits b (drop (i + 1) c.args.bindings.now) c.loop-binding.rest.now (along_at c.args.bindings.now i b c.loop-binding-test.true c.binding-item.is c.loop-binding.rest.now c.loop-binding.invariant.along))

pub loop-binding-preserved : goal.loop-binding-preserved
loop-binding-preserved g c =
    let i = c.loop-binding.binding-index in
    let b = c.binding-item.result in
    let rest = c.loop-binding.rest.now in
    let front = c.split_at.ensures.front ∙ ap (λ (ls : List Locator). take (length ls) rest) c.locators.ensures in
    let back = c.split_at.ensures.back ∙ ap (λ (ls : List Locator). drop (length ls) rest) c.locators.ensures in
    record {
      along =
          along_more c.args.bindings.now i b c.loop-binding-test.true c.binding-item.is rest c.split_at.result.1.now
          c.loop-binding.invariant.along back;
      lines =
          shard_more c.args.bindings.now i b c.loop-binding-test.true c.binding-item.is
          (after_status_by c.args.all.now.extents c.args.copies.now) rest c.split_at.result.0.now
          c.split_at.result.1.now _ (string_bytes c.loop-binding.text) (string_bytes c.append_shard.new.text) front back
          c.loop-binding.invariant.lines c.in_ok-append_shard.ensures;
    }

pub returns : goal.returns
returns g c =
    shards_all (after_status_by c.args.all.now.extents c.args.copies.now) c.args.bindings.now c.args.checked.now c.loop-binding.rest.now c.loop-binding.binding-index (string_bytes c.args.text.now) (string_bytes c.loop-binding.text) c.requires.rising c.requires.along c.loop-binding-test.false c.loop-binding.invariant.lines
