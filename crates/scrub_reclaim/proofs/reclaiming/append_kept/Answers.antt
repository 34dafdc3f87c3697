-- One more chunk, and at the end all.
use Rattle.std.proofs.Common.{◌++◌, List, get_or, refl, ap, ◌∙◌}
use Rattle.std.specs.Prelude.{string_bytes}
use Rattle.std.specs.List.{flat_map}
use Rattle.scrub_check.specs.declared.lists.kept_chunk.KeptChunk.{KeptChunk}
use Rattle.scrub_check.specs.declared.statuses.checked.Checked.{Checked}
use Rattle.scrub_listings.proofs.FlatLists.{flat_all, flat_more}
use Rattle.scrub_reclaim.specs.steps.Moves.{kept_lines, move_text}
use Rattle.scrub_reclaim.proofs.reclaiming.append_kept.Goals as goal

pub loop-chunk-preserved : goal.loop-chunk-preserved
loop-chunk-preserved c checked same =
    let keep = c.args.keep.now in
    let i = c.loop-chunk.chunk-index in
    let chunk : KeptChunk = get_or keep i (record { start = 0; bytes = 0 }) in
    let f = kept_lines checked c.args.extent in
    flat_more f (string_bytes c.args.text.now) (string_bytes c.loop-chunk.text) (string_bytes c.append_moves.new.text) keep i (record { start = 0; bytes = 0 }) (f chunk) c.loop-chunk-test.true refl (c.loop-chunk.invariant checked same)
    (c.in_ok-append_moves.ensures ∙ ap (λ (cs : List Checked). string_bytes c.loop-chunk.text ++ flat_map (move_text chunk.bytes) cs) (c.pointing_to-some.ensures checked same))

pub returns : goal.returns
returns c checked same =
    flat_all (kept_lines checked c.args.extent) (string_bytes c.args.text.now) (string_bytes c.loop-chunk.text) c.args.keep.now c.loop-chunk.chunk-index
    c.loop-chunk-test.false (c.loop-chunk.invariant checked same)
