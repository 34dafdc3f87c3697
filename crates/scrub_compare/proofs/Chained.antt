-- Two steps that are safe keep the manifest together.
use Rattle.std.proofs.Common.{◌≡◌, [], ℕ, Bool, true, List, sym, subst}
use Rattle.std.specs.List.{All}
use Rattle.scrub_disk.specs.Image.{Image}
use Rattle.scrub_check.specs.declared.statuses.checked.Checked.{Checked}
use Rattle.scrub_check.specs.declared.statuses.status.Status.TheVariants.{Sound}
use Rattle.scrub_check.specs.ChunkForms.{form_at}
use Rattle.scrub_loose.specs.Loose.{AreLoose, LooseValue}
use Rattle.scrub_found.specs.Resets.{IsScrubbedBut}
use Rattle.scrub_found.specs.Scrubbed.{Scrubbed, IsScrubbed}
use Rattle.scrub_listings.specs.Manifest.{IsManifest, lost_run_count, manifest_text}
use Rattle.scrub_reclaim.specs.Reset.{IsAfterReset, NameTheSame}
use Rattle.scrub_reclaim.proofs.ResetCopies.{named_but, no_better}
use Rattle.scrub_compare.specs.Compare.{Compared}
use Rattle.scrub_compare.specs.Laws.{IsSafe, IsSameButMore, NonePointsInto}
use Rattle.scrub_compare.proofs.AfterResets.{kept_after_reset, kept_more}
use Rattle.scrub_compare.proofs.KeptManifest.{AreKept, kept, kept_text}
use Rattle.scrub_compare.proofs.KeptNames.{kept_named, text_of_found}
use Rattle.scrub_compare.proofs.Safe.{no_line, none_points}

-- ---- with and without resets

named_back : (s t : Scrubbed) → NameTheSame s t → NameTheSame t s
named_back s t named = record {
  superblock = sym named.superblock;
  runs = sym named.runs;
  retired = sym named.retired;
  read = sym named.read;
  bindings = sym named.bindings;
  checked = sym named.checked;
  forms =
      subst (λ (cs : List Checked). All (λ (c : Checked). c.status ≡ Sound → form_at s.all c.locator ≡ form_at t.all c.locator) cs) (sym named.checked)
      (λ i d below sound. sym (named.forms i d below sound));
  shared = sym named.shared;
  broken = sym named.broken;
}

-- Without resets that no named locator points into, the manifest is kept.
pub without_resets : (resets : List ℕ) (image : Image) (found rest : Scrubbed) (loose others : LooseValue) → IsScrubbedBut resets image found →
    IsScrubbed image rest → AreLoose resets image found.plan loose → AreLoose [] image rest.plan others → NonePointsInto resets rest.checked →
    found.plan.has_superblock ≡ true → lost_run_count found ≡ 0 → AreKept found rest loose.frames others.frames
without_resets resets image found rest loose others x y l m apart =
    kept_named found rest loose.frames others.frames (named_back rest found (named_but resets image rest found y x apart))
    (λ id n c is. no_better resets image rest found y x others loose m l c)

-- ---- two steps

-- Two safe steps and the second's resets keep the manifest, but for last words that rose and fewer hidden runs.
pub nothing_lost_in_two : (resets others : List ℕ) (before after later other : Image) (a b : List ℕ) (v w : Bool) → IsSafe resets before after →
    IsSafe others after later → IsAfterReset others later other → IsManifest before a v → IsManifest other b w → IsSameButMore a b
nothing_lost_in_two resets others before after later other a b v w s t r x y =
    subst (λ (u : List ℕ). IsSameButMore u b) (sym (text_of_found before a v c.before c.loose x s.safe.are.scrubbed_before s.safe.are.loose))
    (subst (λ (u : List ℕ). IsSameButMore (manifest_text c.before c.loose.frames) u) (sym y.text_is)
    (kept_text [] [] before other c.before y.found c.loose.frames y.loose.frames s.safe.are.scrubbed_before y.scrubbed
    (kept_more c.before d.after_resets y.found c.loose.frames d.loose_now.frames y.loose.frames
    (kept_more c.before d.before d.after_resets c.loose.frames d.loose.frames d.loose_now.frames
    (kept_more c.before c.after_resets d.before c.loose.frames c.loose_now.frames d.loose.frames first middle) second)
    (kept_after_reset others later other d.after d.after_resets y.found t.safe.are.scrubbed_after t.safe.are.scrubbed_after_resets y.scrubbed r d.loose_now y.loose t.safe.are.loose_now y.are_loose (none_points others after later t.text d.after t.safe t.safe.are.scrubbed_after) second.has_now second.read_now))))
  where
    c : Compared
    c = s.safe.compared

    d : Compared
    d = t.safe.compared

    first : AreKept c.before c.after_resets c.loose.frames c.loose_now.frames
    first = kept resets before after c s.safe.are (no_line resets c (sym s.safe.verdict))

    middle : AreKept c.after_resets d.before c.loose_now.frames d.loose.frames
    middle =
        without_resets resets after c.after_resets d.before c.loose_now d.loose s.safe.are.scrubbed_after_resets t.safe.are.scrubbed_before s.safe.are.loose_now t.safe.are.loose
        (none_points resets before after s.text d.before s.safe t.safe.are.scrubbed_before) first.has_now first.read_now

    second : AreKept d.before d.after_resets d.loose.frames d.loose_now.frames
    second = kept others after later d t.safe.are (no_line others d (sym t.safe.verdict))
