-- The text and the verdict are those of what was found.
use Rattle.std.proofs.Common.{◌≡◌, ◌++◌, [], ℕ, List, None, is_none, ap, ◌∙◌, Vec, Global}
use Rattle.std.specs.List.{count_by, list_all}
use Rattle.scrub_check.specs.declared.statuses.checked.Checked.{Checked}
use Rattle.scrub_check.specs.Checked.{is_sound}
use Rattle.scrub_found.specs.Judged.{Beside, IsFoundBut, found_in, is_clean_by}
use Rattle.scrub_found.specs.Scrubbed.{Scrubbed, is_clean_disk}
use Rattle.scrub_found.proofs.FoundBeside.{with_lists}
use Rattle.scrub_found.proofs.Verdicts.{clean_by_sound}
use Rattle.scrub_loose.specs.Loose.{AreCopies}
use Rattle.scrub_listings.specs.Summary.{is_sound_verdict, number_lines, numbers_by, verdict, verdict_by, verdict_line}
use Rattle.scrub_listings.specs.steps.Summary.{beside_lists}
use Rattle.scrub_listings.proofs.summary.summary_of.Goals as goal

pub judged_of-requires-after_bounds : goal.judged_of-requires-after_bounds
judged_of-requires-after_bounds g c κs within = c.requires.scan.whole

pub of-requires-after_bounds : goal.of-requires-after_bounds
of-requires-after_bounds g c κs within = (c.in_ok-judged.ensures.judged None [] c.requires.scan).scanned.whole

pub returns : goal.returns
returns g c =
    let image = g.D.PageSource.image c.args.scan.disk.now in
    let judged = c.in_ok-judged.judged in
    let lists = c.in_ok-lists.lists in
    let pages = c.args.pages.now in
    let are = c.in_ok-judged.ensures.judged None [] c.requires.scan in
    let b : Beside = beside_lists are.read lists in
    let is : IsFoundBut [] image judged b =
    with_lists [] image judged are lists.liveness.shared.items lists.broken.items lists.liveness.candidates.items
    c.in_ok-lists.ensures.liveness_is.shared c.in_ok-lists.ensures.broken_are c.in_ok-lists.ensures.liveness_is.candidates in
    let found : Scrubbed = found_in judged b in
    let copies_are : AreCopies [] image judged.scan.plan judged.scan.all.extents judged.checked.items c.in_ok-copies.copies =
    rw c.deref-4.ensures.value at c.in_ok-copies.ensures in
    let clean_is : c.is_clean-is_clean.result ≡ is_clean_disk found = c.is_clean-is_clean.ensures
    ∙ (λ i. is_clean_by judged.scan (c.deref-2.ensures.value i)
    ((c.are_sound-are_sound.ensures ∙ ap (list_all (λ (one : Checked). is_sound one.status)) c.deref.ensures.value) i)
    (c.deref-3.ensures.value i))
    ∙ clean_by_sound judged.scan judged.runs.items judged.map judged.checked.items b is.rows in
    let verdict_is : c.verdict_by-verdict.result ≡ verdict c.args.last found pages =
    c.verdict_by-verdict.ensures ∙ (λ i. verdict_by (clean_is i) (c.has_doubt-has_doubt.ensures i)) in
    record {
      found = found;
      scrubbed = is.scrubbed;
      pages = pages;
      held = c.requires.pages;
      loose = copies_are.found;
      are_loose = copies_are.are;
      text_is =
          ap (λ (v : Vec ℕ Global). v.items) c.into_bytes.ensures.value
          ∙ c.in_ok-append_all.ensures are.read image copies_are are.rows
          ∙ ap (λ (u : List ℕ). u ++ number_lines (numbers_by pages found copies_are.found.frames (count_by is_none are.read.runs)))
          (c.in_ok-append_verdict.ensures ∙ (λ i. c.new-text.ensures.bytes i ++ verdict_line (verdict_is i)));
      verdict_is = c.is_sound_verdict.ensures ∙ ap is_sound_verdict verdict_is;
    }
