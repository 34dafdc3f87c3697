-- What is safe can be undone: with the earlier superblock the manifest is the earlier one, but for last words that rose.
use Rattle.std.proofs.Common.{◌≡◌, ◌≢◌, ◌≤◌, ◌-◌, ◌==◌, ◌&&◌, ℕ, Bool, true, Option, Some, None, List, [], length, get_or, if◌then◌else◌, arith, sym, ◌∙◌, ap, subst}
use Rattle.std.specs.Bool.{⊤}
use Rattle.std.specs.List.{AllZip, Contains, filter, slice_get}
use Rattle.std.proofs.Math.Path.{fun_ext}
use Rattle.std.proofs.lemmas.Bool.{and_parts}
use Rattle.std.proofs.lemmas.List.Elements.{All-contains}
use Rattle.list_facts.proofs.Elements.{Contains-filter}
use Rattle.scrub_run.specs.declared.shard_id.ShardId.{ShardId}
use Rattle.std.specs.Option.{unwrap_or}
use Rattle.scrub_disk.specs.declared.geometry.Geometry.{Geometry}
use Rattle.scrub_disk.specs.Image.{Image}
use Rattle.scrub_super.specs.Plan.{PlanValue, pointer_of}
use Rattle.scrub_scan.specs.declared.standing.Standing.{Standing}
use Rattle.scrub_check.specs.declared.statuses.checked.Checked.{Checked}
use Rattle.scrub_check.specs.Spares.{asks_for_spares, frames, is_copy_of, spares_by, spares_of}
use Rattle.scrub_loose.specs.Anywhere.{IsCrowded}
use Rattle.scrub_loose.specs.Loose.{AreLoose, LooseValue, best_among, best_of, is_gone, loose_of}
use Rattle.scrub_found.specs.Scrubbed.{Scrubbed, IsScrubbed}
use Rattle.scrub_listings.specs.Manifest.{IsManifest, manifest_text, of_shards}
use Rattle.scrub_reclaim.specs.Copy.{IsSameButRisen, rank}
use Rattle.scrub_reclaim.specs.Reset.{NameTheSame}
use Rattle.scrub_reclaim.proofs.BestCopies.{among_others, first_of, loose_among, none_in_nil, not_nil}
use Rattle.scrub_reclaim.proofs.LooseFrames.{crowded_alike, stands_alike}
use Rattle.scrub_reclaim.proofs.Reset.{name_the_same, plan_found, plan_in}
use Rattle.scrub_reclaim.proofs.ResetCopies.{reset}
use Rattle.scrub_reclaim.proofs.SameExtents.{AreAlike, IsTheSame, alike_back, in_disk, planned_there, same_numbers, same_planned, scans_alike}
use Rattle.scrub_reclaim.proofs.ResetForms.{IsAlikeIn, same_form, same_frames}
use Rattle.scrub_compare.specs.Written.{pointer_in}
use Rattle.scrub_compare.specs.Compare.{AreCompared, Compared, owned_by}
use Rattle.scrub_compare.specs.Laws.{IsSafe, IsUndone, KeepsBytes, NoneIsCrowded}
use Rattle.scrub_compare.proofs.ChunksThere.{IsThereIn}
use Rattle.scrub_compare.proofs.KeptManifest.{AreKept, kept, risen_text}
use Rattle.scrub_compare.proofs.KeptNames.{HaveNoWorse, kept_named, same_hidden, text_of_found}
use Rattle.scrub_compare.proofs.Overwritten.{bytes_stay}
use Rattle.scrub_compare.proofs.Safe.{HasNoLine, no_line}
use Rattle.scrub_compare.proofs.StillThere.{still_there}

-- ---- an image with the earlier superblock

module _ (before after undone : Image) (found rest : Scrubbed) (x : IsScrubbed before found) (y : IsScrubbed undone rest)
    (kept : KeepsBytes before after found) (equal : after.geometry ≡ before.geometry) (u : IsUndone before after undone) where
  sizes : undone.geometry ≡ before.geometry
  sizes = u.sizes ∙ equal

  old : u.old ≡ found.plan
  old = plan_found before found u.old x u.was

  new : u.new ≡ rest.plan
  new = plan_found undone rest u.new y u.is

  -- what is the same in the superblocks that count is the same in the plans
  by_plans : {X : Type 0} (f : PlanValue → X) → f u.new ≡ f u.old → f rest.plan ≡ f found.plan
  by_plans f same = ap f (sym new) ∙ same ∙ ap f old

  retired : rest.plan.retired ≡ found.plan.retired
  retired = by_plans (λ p. p.retired) u.retired

  the_same : (e : ℕ) → IsTheSame before undone found.plan rest.plan e
  the_same e = record {
    sizes = sizes;
    retired = retired;
    pointer = by_plans (λ p. pointer_of p e) (ap (λ (ws : List ℕ). if e == 0 then None else slice_get ws (e - 1)) u.pointers);
    bytes = λ w is p below.
        let there = in_disk before found.plan (plan_in before found x) e w is in
        let pointer : pointer_in found.plan e ≡ w = ap (λ (o : Option ℕ). unwrap_or o 0) is in
        let extents : before.geometry.extents ≡ after.geometry.extents = ap (λ (g : Geometry). g.extents) (sym equal) in
        u.bytes e p there.0 (omega (arith, there.1, extents)) ∙ kept e p (omega (arith, below, pointer));
  }

  planned : rest.plan.planned ≡ found.plan.planned
  planned = same_planned [] [] before undone found rest sizes retired x y

  scans : AllZip (IsAlikeIn (λ e. ⊤)) found.all rest.all
  scans =
      scans_alike before undone found.plan rest.plan (λ e. ⊤) (λ e known. the_same e) found.all rest.all
      (same_numbers [] [] before undone found rest sizes retired x y) x.all y.all

  named : NameTheSame found rest
  named =
      name_the_same [] [] before undone found rest x y (by_plans (λ p. p.has_superblock) u.has) (by_plans (λ p. p.runs) u.runs) retired
      (λ i d below. the_same (get_or found.checked i d).locator.extent)
      (λ i d below sound. same_form (get_or found.checked i d).locator (λ e. ⊤) found.all rest.all scans tt)

  same_chunks : frames rest.all ≡ frames found.all
  same_chunks = same_frames found.all rest.all scans

-- ---- its loose copies

module _ (resets : List ℕ) (before after undone : Image) (c : Compared) (are : AreCompared resets before after c) (none : HasNoLine resets c)
    (equal : after.geometry ≡ before.geometry) (n : NoneIsCrowded after) (u : IsUndone before after undone) (rest : Scrubbed) (loose : LooseValue)
    (y : IsScrubbed undone rest) (m : AreLoose [] undone rest.plan loose) where
  bytes_kept : KeepsBytes before after c.before
  bytes_kept = bytes_stay resets before after equal c are none

  k : AreKept c.before c.after_resets c.loose.frames c.loose_now.frames
  k = kept resets before after c are none

  -- the extents in use are those of the earlier image, and those of the later one
  planned_undone : rest.plan.planned ≡ c.after_resets.plan.planned
  planned_undone =
      planned before after undone c.before rest are.scrubbed_before y bytes_kept equal u
      ∙ sym (same_planned [] resets before after c.before c.after_resets equal k.retired are.scrubbed_before are.scrubbed_after_resets)

  planned_after : c.after_resets.plan.planned ≡ n.plan.planned
  planned_after =
      (reset resets after c.after c.after_resets are.scrubbed_after are.scrubbed_after_resets).planned
      ∙ ap (λ (p : PlanValue). p.planned) (sym (plan_found after c.after n.plan are.scrubbed_after n.is))

  -- such an extent has the bytes of the later image
  alike_in_use : (e : ℕ) → Contains c.after_resets.plan.planned e → AreAlike after undone e
  alike_in_use e in_use =
      let there = planned_there resets after c.after_resets are.scrubbed_after_resets e in_use in
      record { sizes = u.sizes; bytes = fun_ext (λ p. u.bytes e p there.0 there.1) }

  -- a frame that is there in such an extent of the later image is a loose frame
  is_loose : (t : Standing) → IsThereIn after c.after_resets.plan.planned t → Contains loose.frames t
  is_loose t is = (m.frames t).1 (record {
    searched = record {
      in_use = subst (λ (es : List ℕ). Contains es t.extent) (sym planned_undone) is.number;
      stays = none_in_nil t.extent;
    };
    sparse = λ crowded.
        All-contains (λ (e : ℕ). ¬ IsCrowded after e) n.plan.planned t.extent n.sparse
        (subst (λ (es : List ℕ). Contains es t.extent) planned_after is.number)
        (crowded_alike (alike_back (alike_in_use t.extent is.number)) crowded);
    stands = stands_alike t (alike_in_use t.extent is.number) is.stands;
  })

  -- what had a loose copy has one, or a spare
  loose_still : (id : ShardId) (number : ℕ) (e : Checked) → slice_get (owned_by id (of_shards c.before.checked)) number ≡ Some e → (s : Standing) →
      Contains (loose_of c.before.all c.loose.frames e) s → spares_of rest.all e ≡ [] → loose_of rest.all loose.frames e ≢ []
  loose_still id number e was s there none_left =
      let t = still_there resets before after c are none id number e was s there in
      let asks : asks_for_spares e ≡ true =
      (and_parts (asks_for_spares e) (length (spares_of c.before.all e) == 0) (loose_among e c.before.all rest.all c.loose.frames loose.frames s there).0).0 in
      let gone : is_gone rest.all e ≡ true = λ i. asks i && (length (none_left i) == 0) in
      not_nil (loose_of rest.all loose.frames e) t.0
      (subst (λ (b : Bool). Contains (if b then filter (is_copy_of e.locator) loose.frames else []) t.0) (sym gone)
      (Contains-filter (is_copy_of e.locator) loose.frames t.0 t.1.copies (is_loose t.0 t.1.there)))

  -- so no copy is worse
  best : HaveNoWorse c.before rest c.loose.frames loose.frames
  best id number e was =
      subst (λ (ss : List Standing). rank (best_of c.before.all c.loose.frames e) ≤ rank (best_among ss (loose_of rest.all loose.frames e))) (sym spares)
      (among_others (spares_of c.before.all e) (loose_of c.before.all c.loose.frames e) (spares_of c.before.all e) (loose_of rest.all loose.frames e) (λ some. some)
      (λ some none_left.
      let one = first_of (loose_of c.before.all c.loose.frames e) some in loose_still id number e was one.0 one.1 (spares ∙ none_left)))
    where
      spares : spares_of rest.all e ≡ spares_of c.before.all e
      spares = ap (λ (fs : List Standing). spares_by fs e) (same_chunks before after undone c.before rest are.scrubbed_before y bytes_kept equal u)

  pub undone_text : IsSameButRisen (manifest_text c.before c.loose.frames) (manifest_text rest loose.frames)
  undone_text =
      let names = named before after undone c.before rest are.scrubbed_before y bytes_kept equal u in
      risen_text [] [] before undone c.before rest c.loose.frames loose.frames are.scrubbed_before y
      (kept_named c.before rest c.loose.frames loose.frames names best k.has k.read)
      (same_hidden c.before rest c.loose.frames loose.frames names best)

-- If the earlier superblock is written again after a safe step, and no extent of the later image is crowded, the manifest is the
-- earlier one, but for last words that rose.
pub can_be_undone : (resets : List ℕ) (before after undone : Image) (a b : List ℕ) (v w : Bool) → IsSafe resets before after → NoneIsCrowded after →
    IsUndone before after undone → IsManifest before a v → IsManifest undone b w → IsSameButRisen a b
can_be_undone resets before after undone a b v w s n u x y =
    let c : Compared = s.safe.compared in
    subst (λ (t : List ℕ). IsSameButRisen t b) (sym (text_of_found before a v c.before c.loose x s.safe.are.scrubbed_before s.safe.are.loose))
    (subst (λ (t : List ℕ). IsSameButRisen (manifest_text c.before c.loose.frames) t) (sym y.text_is)
    (undone_text resets before after undone c s.safe.are (no_line resets c (sym s.safe.verdict)) s.sizes n u y.found y.loose y.scrubbed y.are_loose))
