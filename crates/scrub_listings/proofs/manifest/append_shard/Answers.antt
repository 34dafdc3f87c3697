-- One more locator, and at the end all.
use Rattle.std.proofs.Common.{◌≡◌, ◌+◌, get_or, arith, sym, ap, ◌∙◌}
use Rattle.std.specs.Prelude.{string_bytes}
use Rattle.std.specs.List.{enumerate_from}
use Rattle.std.proofs.lemmas.List.FromFn.{get_or-enumerate_from, length-enumerate_from}
use Rattle.scrub_check.specs.declared.statuses.checked.Checked.{Checked}
use Rattle.scrub_listings.specs.Manifest.{numbered_line}
use Rattle.scrub_listings.specs.steps.Manifest.{after_status_by}
use Rattle.scrub_listings.proofs.FlatLists.{flat_all, flat_more}
use Rattle.scrub_listings.proofs.ShardLines.{line_of}
use Rattle.scrub_listings.proofs.manifest.append_shard.Goals as goal

pub loop-number-preserved : goal.loop-number-preserved
loop-number-preserved g c =
    let i = c.loop-number.number in
    let own = c.args.own.now in
    let one : Checked = c.index-own-number.result in
    let after = after_status_by c.args.all.now.extents c.args.copies.now in
    let here : (0 + i, get_or own i one) ≡ get_or (enumerate_from 0 own) i (0, one) = sym (get_or-enumerate_from 0 own i (0, one) c.loop-number-test.true) in
    let number : i ≡ 0 + i = omega arith in
    flat_more (line_of after) (string_bytes c.args.text.now) (string_bytes c.loop-number.text) (string_bytes c.append_numbered.new.text)
    (enumerate_from 0 own) i (0, one) (numbered_line after i one)
    (omega (arith, c.loop-number-test.true, length-enumerate_from 0 own))
    ((λ j. numbered_line after (number j) (c.index-own-number.is j)) ∙ ap (line_of after) here)
    c.loop-number.invariant c.in_ok-append_numbered.ensures

pub returns : goal.returns
returns g c =
    flat_all (line_of (after_status_by c.args.all.now.extents c.args.copies.now)) (string_bytes c.args.text.now) (string_bytes c.loop-number.text)
    (enumerate_from 0 c.args.own.now) c.loop-number.number
    (omega (arith, c.loop-number-test.false, length-enumerate_from 0 c.args.own.now)) c.loop-number.invariant
