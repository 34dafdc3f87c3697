-- At the end, all of them.
use Rattle.std.proofs.Common.{◌++◌, ap, ap₂, ◌∙◌}
use Rattle.std.specs.List.{zip}
use Rattle.std.proofs.lemmas.Iterator.{YieldsList-from_slice, YieldsList-from_take, YieldsList-from_zip}
use Rattle.std.proofs.lemmas.Iterator.Adapters.{YieldsList-from_skip}
use Rattle.std.proofs.lemmas.Iterator.Consumers.{YieldsList-at, YieldsList-end, YieldsList-from_first}
use Rattle.json.specs.Print.{print}
use Rattle.scrub_scan.specs.Scanned.{scanned}
use Rattle.scrub_report.specs.steps.Tokens.{pair_data, shown_tokens}
use Rattle.scrub_report.proofs.PieceTexts.{part_shown}
use Rattle.scrub_report.proofs.extents.extents_text.Goals as goal

pub returns : goal.returns
returns g c =
    let all = YieldsList-from_first (λ r. scanned r.now) (λ left. left) c.args.all.now.extents (c.zip.ensures.first ∙ c.results.ensures.results) in
    let pairs = YieldsList-from_zip all (YieldsList-from_slice c.args.live.now (cc)) in
    let rest = YieldsList-from_skip c.args.from (YieldsList-at c.skip.ensures.source pairs) c.skip.ensures.count in
    let piece = YieldsList-from_take c.args.size (YieldsList-at c.take-found-items.ensures.source rest) c.take-found-items.ensures.count in
    let whole =
    YieldsList-end (YieldsList-at c.into_iter-found-iterator.ensures.into_iter_gives piece) c.loop-found.yielded c.loop-found.found-iterator c.loop-found.yielded_by c.next.result c.next.new.self c.in-None.is c.next.ensures.steps in
    c.into_inner.ensures.items
    ∙ ap₂ (λ b ts. b ++ print ts) (c.loop-found.invariant.before ∙ c.new-out.ensures.before ∙ c.in_ok-comma_if.ensures)
    (c.loop-found.invariant.tokens ∙ ap (λ ps. shown_tokens pair_data ps) whole.0
    ∙ part_shown pair_data (zip c.args.all.now.extents c.args.live.now) c.args.from c.args.size)
