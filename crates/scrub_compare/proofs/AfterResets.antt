-- What is safe has lost nothing: after the resets the manifest is the earlier one, but for last words that rose and fewer hidden runs.
use Rattle.std.proofs.Common.{◌≡◌, ◌<◌, ◌≤◌, [], ℕ, Bool, true, List, Some, length, get_or, map, arith, sym, ◌∙◌, subst}
use Rattle.std.proofs.Math.Path.{fun_ext}
use Rattle.std.specs.List.{All, Contains, slice_get}
use Rattle.std.specs.Str.{bytes_eq}
use Rattle.std.proofs.lemmas.Bool.{and_from, and_parts}
use Rattle.std.proofs.lemmas.Option.{slice_get-get_or, slice_get_within}
use Rattle.std.proofs.lemmas.Slice.Eq.{bytes_eq-Decides}
use Rattle.scrub_disk.specs.Image.{Image}
use Rattle.scrub_run.specs.declared.shard_id.ShardId.{ShardId}
use Rattle.scrub_scan.specs.declared.standing.Standing.{Standing}
use Rattle.scrub_check.specs.declared.statuses.checked.Checked.{Checked}
use Rattle.scrub_check.specs.declared.statuses.status.Status.TheVariants.{Sound}
use Rattle.scrub_check.specs.ChunkForms.{form_at}
use Rattle.scrub_check.specs.Spares.{frames, spares_of}
use Rattle.scrub_loose.specs.Loose.{AreLoose, IsSearched, LooseValue, best_of, loose_of}
use Rattle.scrub_found.specs.Resets.{IsScrubbedBut}
use Rattle.scrub_found.specs.Scrubbed.{Scrubbed, IsScrubbed}
use Rattle.scrub_listings.specs.Manifest.{IsManifest, lost_run_count, manifest_text, of_shards}
use Rattle.scrub_reclaim.specs.Copy.{rank}
use Rattle.scrub_reclaim.specs.Reset.{IsAfterReset, NameTheSame}
use Rattle.scrub_reclaim.proofs.BestCopies.{as_good, first_of, loose_among, none_in_nil, not_nil}
use Rattle.scrub_reclaim.proofs.LooseFrames.{carried_over}
use Rattle.scrub_reclaim.proofs.Reset.{named_apart, plans_of, scans}
use Rattle.scrub_reclaim.proofs.ResetCopies.{named_but, parts, reset}
use Rattle.scrub_reclaim.proofs.ResetForms.{frame_stays, frame_was, spare_among, spare_too}
use Rattle.scrub_reclaim.proofs.SameExtents.{AreAlike, planned_there, same_planned}
use Rattle.scrub_compare.specs.Compare.{Compared, RowValue, are_alike, has_no_less, owned_by, row_in}
use Rattle.scrub_compare.specs.Laws.{IsSafe, IsSameButMore, NonePointsInto}
use Rattle.scrub_compare.proofs.LastWords.{no_less_more}
use Rattle.scrub_compare.proofs.KeptManifest.{AreKept, kept, kept_text}
use Rattle.scrub_compare.proofs.KeptNames.{kept_named, text_of_found}
use Rattle.scrub_compare.proofs.Safe.{no_line, none_points}

-- ---- one after the other

alike_more : (x y z : RowValue) → are_alike x y ≡ true → are_alike y z ≡ true → are_alike x z ≡ true
alike_more x y z one other =
    let a = and_parts (bytes_eq x.stem y.stem) (has_no_less x.best y.best) one in
    let b = and_parts (bytes_eq y.stem z.stem) (has_no_less y.best z.best) other in
    and_from (bytes_eq x.stem z.stem) (has_no_less x.best z.best)
    ((bytes_eq-Decides x.stem z.stem).1 ((bytes_eq-Decides x.stem y.stem).0 a.0 ∙ (bytes_eq-Decides y.stem z.stem).0 b.0))
    (no_less_more x.best y.best z.best a.1 b.1)

-- What is kept from a first disk to a second, and from that to a third, is kept from the first to the third.
pub kept_more : (s t u : Scrubbed) (ls ms ns : List Standing) → AreKept s t ls ms → AreKept t u ms ns → AreKept s u ls ns
kept_more s t u ls ms ns one other = record {
  has = one.has;
  has_now = other.has_now;
  retired = other.retired ∙ one.retired;
  read = one.read;
  read_now = other.read_now;
  fewer = omega (arith, one.fewer, other.fewer);
  ids = one.ids ∙ other.ids;
  sizes = λ id bound. one.sizes id bound ∙ other.sizes id (still id bound);
  alike = λ id bound n c e was is.
      let there : n < length (owned_by id (of_shards t.checked)) =
      omega (arith, slice_get_within (owned_by id (of_shards s.checked)) n c was, one.sizes id bound) in
      let d : Checked = get_or (owned_by id (of_shards t.checked)) n c in
      let at : slice_get (owned_by id (of_shards t.checked)) n ≡ Some d = slice_get-get_or (owned_by id (of_shards t.checked)) n c there in
      alike_more (row_in s ls n c) (row_in t ms n d) (row_in u ns n e) (one.alike id bound n c d was at) (other.alike id (still id bound) n d e at is);
}
  where
    still : (id : ShardId) → Contains (map (λ b. b.id) s.bindings) id → Contains (map (λ b. b.id) t.bindings) id
    still id bound = subst (λ (ids : List ShardId). Contains ids id) one.ids bound

-- ---- after the resets

-- what is named on one disk as on two others is named alike on these
named_on : (s t u : Scrubbed) → NameTheSame s t → NameTheSame s u → NameTheSame t u
named_on s t u one other = record {
  superblock = other.superblock ∙ sym one.superblock;
  runs = other.runs ∙ sym one.runs;
  retired = other.retired ∙ sym one.retired;
  read = other.read ∙ sym one.read;
  bindings = other.bindings ∙ sym one.bindings;
  checked = other.checked ∙ sym one.checked;
  forms =
      subst (λ (cs : List Checked). All (λ (c : Checked). c.status ≡ Sound → form_at u.all c.locator ≡ form_at t.all c.locator) cs) (sym one.checked)
      (λ i d below sound. other.forms i d below sound ∙ sym (one.forms i d below sound));
  shared = other.shared ∙ sym one.shared;
  broken = other.broken ∙ sym one.broken;
}

-- what is found on an image, as if extents were reset, and on an image on which they are, under any pointers
module _ (extents : List ℕ) (before after : Image) (found but rest : Scrubbed) (x : IsScrubbed before found) (z : IsScrubbedBut extents before but)
    (y : IsScrubbed after rest) (r : IsAfterReset extents before after) (loose others : LooseValue) (l : AreLoose extents before but.plan loose)
    (m : AreLoose [] after rest.plan others) where
  same_retired : rest.plan.retired ≡ but.plan.retired
  same_retired = (plans_of extents before after found rest x y r).retired ∙ sym (reset extents before found but x z).retired

  -- a loose frame of another extent stays one
  loose_too : (s : Standing) → Contains loose.frames s → Contains others.frames s
  loose_too s there =
      let searched : IsSearched extents but.plan s.extent = ((l.frames s).0 there).searched in
      let in_disk = planned_there extents before but z s.extent searched.in_use in
      let alike : AreAlike before after s.extent = record {
        sizes = r.sizes;
        bytes = fun_ext (λ p. r.bytes s.extent p in_disk.0 in_disk.1 searched.stays);
      } in
      carried_over extents [] but.plan rest.plan s alike loose others l m
      (λ is. record {
        in_use = subst (λ (es : List ℕ). Contains es s.extent) (sym (same_planned extents [] before after but rest r.sizes same_retired z y)) is.in_use;
        stays = none_in_nil s.extent;
      })
      there

  -- so no best copy gets worse
  no_worse : (c : Checked) → rank (best_of but.all loose.frames c) ≤ rank (best_of rest.all others.frames c)
  no_worse c =
      as_good c but.all rest.all loose.frames others.frames
      (λ some.
      let one = first_of (spares_of but.all c) some in
      let was = frame_was (λ e. ¬ Contains extents e) found.all but.all one.0 (parts extents before found but x z) (spare_among c (frames but.all) (frames rest.all) one.0 one.1) in
      not_nil (spares_of rest.all c) one.0
      (spare_too c (frames but.all) (frames rest.all) one.0 one.1
      (frame_stays (λ e. ¬ Contains extents e) found.all rest.all one.0 (scans extents before after found rest x y r) was.1 was.0)))
      (λ some.
      let one = first_of (loose_of but.all loose.frames c) some in
      (one.0, one.1, loose_too one.0 (loose_among c but.all rest.all loose.frames others.frames one.0 one.1).2))

  -- A reset of extents that no named locator points into keeps the manifest that was foreseen.
  pub kept_after_reset : NonePointsInto extents found.checked → but.plan.has_superblock ≡ true → lost_run_count but ≡ 0 →
      AreKept but rest loose.frames others.frames
  kept_after_reset apart =
      kept_named but rest loose.frames others.frames
      (named_on found but rest (named_but extents before found but x z apart) (named_apart extents before after found rest x y r apart))
      (λ id n c is. no_worse c)

-- A safe step and its resets keep the manifest, but for last words that rose and fewer hidden runs.
pub nothing_lost : (resets : List ℕ) (before after other : Image) (a b : List ℕ) (v w : Bool) → IsSafe resets before after → IsAfterReset resets after other →
    IsManifest before a v → IsManifest other b w → IsSameButMore a b
nothing_lost resets before after other a b v w s r x y =
    subst (λ (t : List ℕ). IsSameButMore t b) (sym (text_of_found before a v c.before c.loose x s.safe.are.scrubbed_before s.safe.are.loose))
    (subst (λ (t : List ℕ). IsSameButMore (manifest_text c.before c.loose.frames) t) (sym y.text_is)
    (kept_text [] [] before other c.before y.found c.loose.frames y.loose.frames s.safe.are.scrubbed_before y.scrubbed
    (kept_more c.before c.after_resets y.found c.loose.frames c.loose_now.frames y.loose.frames first
    (kept_after_reset resets after other c.after c.after_resets y.found s.safe.are.scrubbed_after s.safe.are.scrubbed_after_resets y.scrubbed r c.loose_now y.loose s.safe.are.loose_now y.are_loose (none_points resets before after s.text c.after s.safe s.safe.are.scrubbed_after) first.has_now first.read_now))))
  where
    c : Compared
    c = s.safe.compared

    first : AreKept c.before c.after_resets c.loose.frames c.loose_now.frames
    first = kept resets before after c s.safe.are (no_line resets c (sym s.safe.verdict))
