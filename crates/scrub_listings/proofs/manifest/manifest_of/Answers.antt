-- The text and the verdict are those of what was found.
use Rattle.std.proofs.Common.{◌≡◌, ◌&&◌, Bool, drop, is_none, length, ap, sym, ◌∙◌, Vec, Global, ℕ}
use Rattle.std.specs.List.{count_by}
use Rattle.std.proofs.Math.Path.{fun_ext}
use Rattle.scrub_check.specs.declared.named.Owner.{Owner}
use Rattle.scrub_check.specs.declared.statuses.checked.Checked.{Checked}
use Rattle.scrub_check.specs.Checked.{is_hidden}
use Rattle.scrub_found.specs.declared.runs.RunRow.{RunRow}
use Rattle.scrub_found.specs.Judged.{Beside, IsFoundFrom, found_in}
use Rattle.scrub_found.specs.Scrubbed.{Scrubbed}
use Rattle.scrub_found.proofs.FoundBeside.{all_beside_from, found_beside_from}
use Rattle.scrub_loose.specs.Loose.{AreCopies}
use Rattle.scrub_listings.specs.Manifest.{after_status_in, hidden_runs, is_whole_by, lost_run_count, of_shards, text_by}
use Rattle.scrub_listings.specs.steps.Manifest.{after_status_by, is_of_read_row}
use Rattle.scrub_listings.proofs.AfterStatus.{AreAfterAlike, found_alike, text_alike}
use Rattle.scrub_listings.proofs.ReadRows.{lost_found, read_found}
use Rattle.scrub_listings.proofs.ShardLines.{along_runs, runs_fit, shards_part}
use Rattle.scrub_listings.proofs.manifest.manifest_of.Goals as goal

pub judged_of-requires-after_bounds : goal.judged_of-requires-after_bounds
judged_of-requires-after_bounds g c κs within = c.requires.1.whole

pub of-requires-after_bounds : goal.of-requires-after_bounds
of-requires-after_bounds g c κs within = (c.in_ok-judged.ensures.judged c.requires.0 c.args.resets.now c.requires.1).scanned.whole

pub split_at-requires : goal.split_at-requires
split_at-requires g c =
    let judged = c.in_ok-judged.judged in
    rw (c.runs.ensures.runs, c.deref.ensures.value)
    (runs_fit judged.scan.plan.runs judged.map judged.checked.items (c.in_ok-judged.ensures.judged c.requires.0 c.args.resets.now c.requires.1).checked.same)

pub text_by-requires-clause-along : goal.text_by-requires-clause-along
text_by-requires-clause-along g c κs within =
    let judged = c.in_ok-judged.judged in
    rw (c.split_at.ensures.back, c.runs.ensures.runs, c.deref.ensures.value, c.bindings.ensures.bindings)
    (along_runs judged.scan.plan.runs judged.map judged.checked.items (c.in_ok-judged.ensures.judged c.requires.0 c.args.resets.now c.requires.1).checked.same)

pub returns : goal.returns
returns g c = λ given scanned.
    let resets = c.args.resets.now in
    let judged = c.in_ok-judged.judged in
    let map = judged.map in
    let all = judged.scan.all.extents in
    let checked = judged.checked.items in
    let copies = c.in_ok-copies.copies in
    let image = g.D.PageSource.image c.args.scan.disk.now in
    let are = c.in_ok-judged.ensures.judged given resets scanned in
    let b : Beside = all_beside_from given resets image judged are in
    let is : IsFoundFrom given resets image judged b = found_beside_from given resets image judged are in
    let found : Scrubbed = found_in judged b in
    let lost_is : c.lost_run_count-lost.result ≡ lost_run_count found =
    c.lost_run_count-lost.ensures
    ∙ ap (count_by (λ (r : RunRow). is_none r.entries)) c.deref-3.ensures.value
    ∙ lost_found judged.scan.plan.runs b.read judged.runs.items is.rows in
    let hidden_is : c.hidden_runs-hidden.result ≡ hidden_runs found =
    c.hidden_runs-hidden.ensures
    ∙ (λ i. count_by (λ (one : Checked). is_hidden one.status && is_of_read_row (c.deref-4.ensures.value i) one.owner) (c.deref-5.ensures.value i))
    ∙ ap (λ (p : Owner → Bool). count_by (λ (one : Checked). is_hidden one.status && p one.owner) checked)
    (fun_ext (read_found judged.scan.plan.runs b.read judged.runs.items is.rows)) in
    let shards_are : c.split_at.result.1.now ≡ of_shards checked =
    c.split_at.ensures.back
    ∙ (λ i. drop (length (c.runs.ensures.runs i)) (c.deref.ensures.value i))
    ∙ sym (shards_part judged.scan.plan.runs map checked is.scrubbed.checked.same) in
    let copies_are : AreCopies resets image judged.scan.plan all checked copies = rw c.deref-2.ensures.value at c.in_ok-copies.ensures in
    let loose = copies_are.found.frames in
    let alike : AreAfterAlike (after_status_by all copies) (after_status_in all loose) (of_shards checked) =
    found_alike resets image judged.scan.plan all checked copies copies_are in
    record {
      found = found;
      scrubbed = is.scrubbed;
      loose = copies_are.found;
      are_loose = copies_are.are;
      text_is =
          ap (λ (v : Vec ℕ Global). v.items) c.into_bytes.ensures.value
          ∙ c.in_ok-text.ensures
          ∙ (λ i. text_by (after_status_by all copies) judged.scan.plan.has_superblock judged.scan.plan.retired (lost_is i) (hidden_is i) (c.bindings.ensures.bindings i) (shards_are i))
          ∙ text_alike (after_status_by all copies) (after_status_in all loose) judged.scan.plan.has_superblock
          judged.scan.plan.retired (lost_run_count found) (hidden_runs found) map (of_shards checked) alike;
      verdict =
          c.is_whole_by-is_clean.ensures
          ∙ (λ i. is_whole_by judged.scan.plan.has_superblock (lost_is i) (hidden_is i) (shards_are i));
    }
