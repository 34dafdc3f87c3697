-- There is a live number for each extent, so that there are as many values as extents.
use Rattle.std.proofs.Common.{◌≡◌, arith, length}
use Rattle.std.specs.List.{zip}
use Rattle.std.proofs.lemmas.List.{length-map}
use Rattle.std.proofs.lemmas.Slice.Zip.{length-zip}
use Rattle.scrub_report.specs.steps.Tokens.{extent_values, pair_data}
use Rattle.scrub_report.proofs.PieceTexts.{pieces_made}
use Rattle.scrub_report.proofs.extents.extents_texts.Goals as goal

pub returns : goal.returns
returns g c =
    let all = c.args.all.now.extents in
    let live = c.args.live.now in
    let long : length (extent_values all live) ≡ length all =
    omega (arith, length-map (zip all live) pair_data, length-zip all live, c.requires.count) in
    pieces_made (extent_values all live) c.args.size long c.nth_texts.result c.nth_texts.ensures.count c.nth_texts.ensures.each
