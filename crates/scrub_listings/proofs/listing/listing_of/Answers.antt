-- The text and the verdict are those of what was found.
use Rattle.std.proofs.Common.{[], None, ap, ◌∙◌}
use Rattle.std.specs.List.{flat_map, list_all}
use Rattle.scrub_check.specs.declared.statuses.checked.Checked.{Checked}
use Rattle.scrub_check.specs.Checked.{is_sound}
use Rattle.scrub_check.proofs.OneList.{the_broken}
use Rattle.scrub_found.specs.Judged.{found_in, is_clean_by}
use Rattle.scrub_found.proofs.FoundBeside.{beside, some_candidates_of, with_lists}
use Rattle.scrub_found.proofs.Verdicts.{clean_by_sound}
use Rattle.scrub_loose.specs.Loose.{AreCopies}
use Rattle.scrub_listings.specs.Locators.{lines_by}
use Rattle.scrub_listings.proofs.SpareLines.{all_with_copies}
use Rattle.scrub_listings.proofs.listing.listing_of.Goals as goal

pub judged_of-requires-after_bounds : goal.judged_of-requires-after_bounds
judged_of-requires-after_bounds g c κs within = c.requires.whole

pub of-requires-after_bounds : goal.of-requires-after_bounds
of-requires-after_bounds g c κs within = (c.in_ok-judged.ensures.judged None [] c.requires).scanned.whole

pub returns : goal.returns
returns g c =
    let image = g.D.PageSource.image c.args.scan.disk.now in
    let judged = c.in_ok-judged.judged in
    let are = c.in_ok-judged.ensures.judged None [] c.requires in
    let broken = the_broken judged.checked.items in
    let candidates = some_candidates_of [] image judged are in
    let shared = c.in_ok-shared_places.shared_places.items in
    let b = beside [] image judged are shared broken.answer candidates.0 in
    let copies = c.in_ok-copies.copies in
    let copies_are : AreCopies [] image judged.scan.plan judged.scan.all.extents judged.checked.items copies =
    rw c.deref-2.ensures.value at c.in_ok-copies.ensures in
    let found = with_lists [] image judged are shared broken.answer candidates.0
    (rw c.deref.ensures.value at c.in_ok-shared_places.ensures) broken.meets candidates.1 in
    record {
      found = found_in judged b;
      scrubbed = found.scrubbed;
      loose = copies_are.found;
      are_loose = copies_are.are;
      text_is =
          c.in_ok-text.ensures
          ∙ ap (flat_map (lines_by copies)) c.deref-3.ensures.value
          ∙ all_with_copies [] image judged.scan.plan judged.scan.all.extents judged.checked.items copies copies_are;
      verdict =
          c.is_clean-is_clean.ensures
          ∙ (λ i. is_clean_by judged.scan (c.deref-5.ensures.value i)
          ((c.are_sound-are_sound.ensures ∙ ap (list_all (λ (one : Checked). is_sound one.status)) c.deref-4.ensures.value) i)
          (c.deref-6.ensures.value i))
          ∙ clean_by_sound judged.scan judged.runs.items judged.map judged.checked.items b found.rows;
    }
