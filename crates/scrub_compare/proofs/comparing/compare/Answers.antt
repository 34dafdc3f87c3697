-- What is found in both images, and the texts made of it, are those of the definitions.
use Rattle.std.proofs.Common.{◌≡◌, ◌++◌, [], ℕ, List, ap, codes, ◌∙◌}
use Rattle.std.specs.Prelude.{string_bytes}
use Rattle.scrub_disk.specs.Image.{Image}
use Rattle.scrub_found.specs.Judged.{AreJudgedBut, Beside, IsFoundBut, found_in}
use Rattle.scrub_found.proofs.FoundBeside.{all_beside, found_beside}
use Rattle.scrub_compare.specs.Compare.{Compared, both_of, changes, doubts_of_both, firm_lines, generations_in, is_safe_by, manifest_changes, whole_text}
use Rattle.scrub_compare.proofs.comparing.compare.Goals as goal

pub append_manifest_changes-requires-clause-old : goal.append_manifest_changes-requires-clause-old
append_manifest_changes-requires-clause-old g c κs within = c.in_ok-found_before.ensures.judged

pub append_manifest_changes-requires-clause-new : goal.append_manifest_changes-requires-clause-new
append_manifest_changes-requires-clause-new g c κs within = c.in_ok-found_after_resets.ensures

pub returns-clause-comparison : goal.returns-clause-comparison
returns-clause-comparison g c =
    let resets = c.args.resets.now in
    let before : Image = g.D.PageSource.image c.args.before.now in
    let after : Image = g.E.PageSource.image c.args.after.now in
    let p : AreJudgedBut [] before c.in_ok-found_before.found_before = c.in_ok-found_before.ensures.judged in
    let q : AreJudgedBut [] after c.in_ok-found_after.found_after = c.in_ok-found_after.ensures.judged in
    let r : AreJudgedBut resets after c.in_ok-found_after_resets.found_after_resets = c.in_ok-found_after_resets.ensures in
    let beside_p : Beside = all_beside [] before c.in_ok-found_before.found_before p in
    let beside_q : Beside = all_beside [] after c.in_ok-found_after.found_after q in
    let beside_r : Beside = all_beside resets after c.in_ok-found_after_resets.found_after_resets r in
    let found_p : IsFoundBut [] before c.in_ok-found_before.found_before beside_p = found_beside [] before c.in_ok-found_before.found_before p in
    let found_q : IsFoundBut [] after c.in_ok-found_after.found_after beside_q = found_beside [] after c.in_ok-found_after.found_after q in
    let found_r : IsFoundBut resets after c.in_ok-found_after_resets.found_after_resets beside_r = found_beside resets after c.in_ok-found_after_resets.found_after_resets r in
    let extents = c.in_ok-others.ensures beside_p beside_q in
    let manifest = c.in_ok-append_manifest_changes.ensures beside_p beside_r found_p.rows found_r.rows in
    let compared : Compared = record {
      before = found_in c.in_ok-found_before.found_before beside_p;
      after = found_in c.in_ok-found_after.found_after beside_q;
      after_resets = found_in c.in_ok-found_after_resets.found_after_resets beside_r;
      loose = manifest.0;
      loose_now = manifest.2;
      pages = c.in_ok-found_before.pages.items;
      pages_now = c.in_ok-found_after.pages_now.items;
      first = extents.0;
      firsts = extents.2;
      ids = manifest.4;
    } in
    let doubts : string_bytes c.in_ok-doubts.doubts ≡ doubts_of_both compared =
    c.in_ok-doubts.ensures before after beside_p beside_q found_p found_q
    ∙ (λ i. firm_lines (codes "before") (c.deref.ensures.value i) compared.before ++ firm_lines (codes "after") (c.deref-2.ensures.value i) compared.after) in
    let others : c.deref-4.result.now ≡ changes resets compared =
    c.deref-4.ensures
    ∙ manifest.6
    ∙ ap (λ (u : List ℕ). u ++ manifest_changes compared.before compared.after_resets compared.loose.frames compared.loose_now.frames compared.ids) extents.4 in
    let generations : c.both_of-generations.result ≡ generations_in compared =
    c.both_of-generations.ensures ∙ (λ i. both_of (c.generation_of.ensures i) (c.generation_of-2.ensures i)) in
    record {
      compared = compared;
      are = record {
        scrubbed_before = found_p.scrubbed;
        scrubbed_after = found_q.scrubbed;
        scrubbed_after_resets = found_r.scrubbed;
        loose = manifest.1;
        loose_now = manifest.3;
        pages = c.in_ok-found_before.ensures.pages;
        pages_now = c.in_ok-found_after.ensures.pages;
        first = extents.1;
        firsts = extents.3;
        ids = manifest.5;
      };
      text_is = c.in_ok-listing.ensures.text ∙ (λ i. whole_text (doubts i) (others i) (generations i));
      verdict = c.in_ok-listing.ensures.safe ∙ (λ i. is_safe_by (doubts i) (others i) (generations i));
    }
