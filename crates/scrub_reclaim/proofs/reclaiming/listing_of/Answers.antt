-- The text and the verdict are those of what was found.
use Rattle.std.proofs.Common.{◌≡◌, ◌++◌, ℕ, List, ap, ◌∙◌, rules, Vec, Global}
use Rattle.std.specs.Prelude.{string_bytes}
use Rattle.scrub_reclaim.specs.Doubts.{accepted_on, are_accepted}
use Rattle.scrub_reclaim.specs.Reclaimable.{doubt_lines}
use Rattle.scrub_reclaim.specs.declared.doubts.Doubt.{Doubt}
use Rattle.scrub_reclaim.specs.steps.ReclaimParts.{doubts_of, lines_if}
use Rattle.scrub_reclaim.proofs.Clear.{clear_found, found_by, found_of_parts, kept_of_parts, lines_found, loose_of_parts}
use Rattle.scrub_reclaim.proofs.reclaiming.listing_of.Goals as goal

pub returns : goal.returns
returns g c =
    let image = g.D.PageSource.image c.args.scan.disk.now in
    let parts = c.in_ok-parts.parts in
    let are = c.in_ok-parts.ensures in
    let pages = c.args.pages.now in
    let acceptance = c.args.acceptance.now in
    let accepted = accepted_on acceptance parts.judged.scan.chosen in
    let list : List Doubt = c.in_ok-doubts.doubts.items in
    let lines = c.in_ok-lines.lines in
    let loose = loose_of_parts image parts are pages acceptance in
    let kept = kept_of_parts image parts are pages acceptance in
    let listed : list ≡ doubts_of acceptance.last pages loose parts = rw c.last.ensures at c.in_ok-doubts.ensures loose kept in
    let is : lines.is_clear ≡ are_accepted accepted list = search rules in
    let first : string_bytes lines.text ≡ doubt_lines accepted list = search rules in
    let all : string_bytes c.append_reclaimed.new.text ≡ string_bytes lines.text ++ lines_if lines.is_clear loose parts =
    c.in_ok-append_reclaimed.ensures loose kept in
    record {
      found = found_by image parts are pages acceptance;
      scrubbed = (found_of_parts image parts are pages acceptance).scrubbed;
      pages = pages;
      held = c.requires.pages;
      loose = loose;
      are_loose = are.copies.are;
      text_is =
          ap (λ (v : Vec ℕ Global). v.items) c.into_bytes.ensures.value
          ∙ lines_found image parts are pages acceptance list lines.is_clear (string_bytes lines.text) (string_bytes c.append_reclaimed.new.text) listed is first all;
      verdict = clear_found image parts are pages acceptance list lines.is_clear listed is;
    }
