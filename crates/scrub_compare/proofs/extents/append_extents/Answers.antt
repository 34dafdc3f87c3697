-- One more extent, and at the end all.
use Rattle.std.proofs.Common.{◌≡◌, ◌≤◌, arith, ap, ◌∙◌}
use Rattle.std.specs.Prelude.{string_bytes}
use Rattle.scrub_check.specs.steps.LocatorIndex.{AreBarredExtents}
use Rattle.scrub_found.specs.Judged.{found_in}
use Rattle.scrub_compare.proofs.ExtentLines.{all_lines, more_lines, no_lines}
use Rattle.scrub_compare.proofs.extents.append_extents.Goals as goal

pub loop-extent-init : goal.loop-extent-init
loop-extent-init g c b d =
    no_lines (g.D.PageSource.image c.args.before.now) (g.E.PageSource.image c.args.after.now) c.args.resets.now (found_in c.args.found_before.now b)
    (found_in c.args.found_after.now d) (string_bytes c.args.text.now)

pub loop-extent-preserved : goal.loop-extent-preserved
loop-extent-preserved g c b d =
    let checked = c.args.found_before.now.checked.items in
    let barred : AreBarredExtents checked c.in_ok-barred.barred =
    rw c.deref.ensures.value at c.in_ok-barred.ensures in
    let one = c.in_ok-append_extent.ensures checked barred in
    more_lines (g.D.PageSource.image c.args.before.now) (g.E.PageSource.image c.args.after.now) c.args.resets.now (found_in c.args.found_before.now b)
    (found_in c.args.found_after.now d) (string_bytes c.args.text.now) (string_bytes c.loop-extent.text) (string_bytes c.append_extent.new.text) c.loop-extent.extent
    (c.loop-extent.invariant b d) (record { first = one.0; least = one.1; text_is = one.2 })

pub returns : goal.returns
returns g c b d =
    let before = g.D.PageSource.image c.args.before.now in
    let most : c.extents-extent-end.result ≡ before.geometry.extents = c.extents-extent-end.ensures ∙ ap (λ h. h.extents) c.geometry.ensures in
    let some = before.geometry.extents_least in
    let last : c.loop-extent.extent ≤ c.extents-extent-end.result = c.loop-extent.auto.extent-end (omega (arith, most, some)) in
    let end : c.loop-extent.extent ≡ before.geometry.extents = omega (arith, most, last, c.loop-extent-test.false) in
    all_lines before (g.E.PageSource.image c.args.after.now) c.args.resets.now (found_in c.args.found_before.now b)
    (found_in c.args.found_after.now d) (string_bytes c.args.text.now) (string_bytes c.loop-extent.text) c.loop-extent.extent end (c.loop-extent.invariant b d)
