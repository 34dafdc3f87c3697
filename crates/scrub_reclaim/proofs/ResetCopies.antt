-- A reset of extents that are listed without a move changes nothing in the manifest but words for best copies, which may rise, if no
-- copy was accepted: no named locator points into them, and what has a spare or a loose copy keeps one.
use Rattle.std.proofs.Common.{◌≡◌, ◌≢◌, ◌⊎◌, inl, inr, ◌≤◌, ◌==◌, ◌&&◌, ℕ, Bool, true, List, [], get_or, refl, sym, ◌∙◌, ap, subst}
use Rattle.std.specs.List.{All, AllZip, Any, Contains}
use Rattle.std.proofs.lemmas.Bool.{and_parts, eqb-true}
use Rattle.std.proofs.lemmas.List.Elements.{All-contains}
use Rattle.std.proofs.lemmas.List.Folds.{Any-from_list_any}
use Rattle.std.proofs.lemmas.Option.{same_Some}
use Rattle.list_facts.proofs.Counts.{any_counts}
use Rattle.scrub_disk.specs.Image.{Image}
use Rattle.scrub_super.specs.declared.pages.SuperblockPage.{SuperblockPage}
use Rattle.scrub_super.specs.Pages.{AreSuperblockPages}
use Rattle.scrub_super.specs.Plan.{PlanValue, plan_of, pointer_of}
use Rattle.scrub_super.specs.Reset.{IsReset}
use Rattle.scrub_super.proofs.PageLaws.{one_list_of_pages}
use Rattle.scrub_scan.specs.declared.standing.Standing.{Standing}
use Rattle.scrub_scan.specs.AllFindings.{extent_numbers}
use Rattle.scrub_scan.specs.Extent.{extent_of}
use Rattle.scrub_scan.specs.Scanned.{Scanned}
use Rattle.scrub_check.specs.declared.statuses.checked.Checked.{Checked}
use Rattle.scrub_check.specs.Candidates.{CandidateValue}
use Rattle.scrub_check.specs.Checked.{is_sound}
use Rattle.scrub_check.specs.Live.{has_sound_at}
use Rattle.scrub_check.specs.Spares.{frames, spares_of}
use Rattle.scrub_check.specs.steps.SoundPlaces.{is_sound_at}
use Rattle.scrub_loose.specs.Loose.{AreLoose, LooseValue, best_of, loose_of}
use Rattle.scrub_loose.proofs.OneLoose.{one_loose}
use Rattle.scrub_found.specs.Resets.{IsScrubbedBut}
use Rattle.scrub_found.specs.Scrubbed.{Scrubbed, IsScrubbed}
use Rattle.scrub_found.proofs.OneScrub.{one_scrub}
use Rattle.scrub_listings.specs.Manifest.{IsManifest, IsManifestBut, after_status_in, manifest_text}
use Rattle.scrub_reclaim.specs.Copy.{IsSameButRisen, rank}
use Rattle.scrub_reclaim.specs.declared.doubts.Doubt.{Doubt}
use Rattle.scrub_reclaim.specs.Doubts.{Acceptance, is_loose, is_spare}
use Rattle.scrub_reclaim.specs.Reclaimable.{AcceptsNone, HasSafeLoose, HasSafeSpare, KeepsLoose, KeepsSpares, reclaimed}
use Rattle.scrub_reclaim.specs.Reset.{AreListedKeepingCopies, IsAfterReset, IsListedWithoutMoves, NameTheSame}
use Rattle.scrub_reclaim.proofs.BestCopies.{as_good, first_of, loose_among, none_in_nil, not_nil, one_of_rank}
use Rattle.scrub_reclaim.proofs.LooseFrames.{carried_over}
use Rattle.scrub_reclaim.proofs.LooseLaw.{loose_kept}
use Rattle.scrub_reclaim.proofs.Reset.{among_cases, kept_pointer, loose_stays, name_the_same, named_apart, none_into_these, plan_found, reset_of, same_text, same_verdict, scans, zero_pointer}
use Rattle.scrub_reclaim.proofs.RisenTexts.{manifests_rise}
use Rattle.scrub_reclaim.proofs.SameExtents.{IsScannedBy, IsTheSame, alike_items, no_items, same_numbers, scanned_by, scans_alike}
use Rattle.scrub_reclaim.proofs.ResetForms.{IsAlikeIn, IsPartOf, along, frame_stays, frame_was, same_after, same_form, spare_among, spare_too}
use Rattle.scrub_reclaim.proofs.SpareLaw.{spares_kept}

-- ---- what is listed, and what was accepted

-- what is found on an image, its pages and its loose frames are one, so that what is said of some is said of all
module _ (image : Image) (P : List SuperblockPage → LooseValue → Scrubbed → Type 0) (found other : Scrubbed)
    (x : IsScrubbed image found) (y : IsScrubbed image other) (pages others : List SuperblockPage) (held : AreSuperblockPages image pages)
    (those : AreSuperblockPages image others) (loose also : LooseValue) (l : AreLoose [] image found.plan loose)
    (m : AreLoose [] image other.plan also) where
  carried : P others also other → P pages loose found
  carried h =
      let one : other ≡ found = one_scrub image other found y x in
      let as_found : AreLoose [] image found.plan also = subst (λ (s : Scrubbed). AreLoose [] image s.plan also) one m in
      subst (λ (s : Scrubbed). P pages loose s) one
      (subst (λ (v : LooseValue). P pages v other) (one_loose [] image found.plan also loose as_found l)
      (subst (λ (ps : List SuperblockPage). P ps also other) (one_list_of_pages image others pages those held) h))

-- ---- which copies stay

module _ (accepted : Acceptance) (extents : List ℕ) (image : Image) (k : AreListedKeepingCopies accepted extents image)
    (found : Scrubbed) (x : IsScrubbed image found) (loose : LooseValue) (l : AreLoose [] image found.plan loose) where
  none_into_them : All (λ (c : Checked). ¬ Contains extents c.locator.extent) found.checked
  none_into_them = none_into_these image accepted extents found x k.listed

  -- a live chunk isn't in one of the extents
  not_live : (e p : ℕ) → has_sound_at found.checked e p ≡ true → ¬ Contains extents e
  not_live e p live among =
      let one : Any (λ (c : Checked). is_sound_at e p c ≡ true) found.checked = Any-from_list_any (is_sound_at e p) found.checked (any_counts (is_sound_at e p) found.checked ∙ live) in
      let c : Checked = one.1 in
      let into : c.locator.extent ≡ e =
      eqb-true c.locator.extent e
      (and_parts (is_sound c.status) (c.locator.extent == e) (and_parts (is_sound c.status && (c.locator.extent == e)) (c.locator.offset == p) one.4).0).1 in
      All-contains (λ (d : Checked). ¬ Contains extents d.locator.extent) found.checked c none_into_them (one.0, one.2, one.3)
      (subst (Contains extents) (sym into) among)

  -- nor is one in an extent that isn't to be reclaimed
  not_listed : (e : ℕ) → All (λ (a : CandidateValue). a.extent ≢ e) (reclaimed accepted k.pages loose found) → ¬ Contains extents e
  not_listed e none among = of (All-contains (IsListedWithoutMoves image accepted) extents e k.listed among)
    where
      of : IsListedWithoutMoves image accepted e → ⊥
      of one =
          All-contains (λ (a : CandidateValue). a.extent ≢ e) (reclaimed accepted k.pages loose found) one.candidate none
          (carried image (λ ps v s. Contains (reclaimed accepted ps v s) one.candidate) found one.found x one.scrubbed k.pages one.pages k.held one.held loose one.loose l one.are_loose one.listed)
          one.extent_is

  -- no doubt of a kind was accepted
  none_of : (is_of_kind : Doubt → Bool) → AcceptsNone is_of_kind accepted k.pages k.loose k.found →
      AcceptsNone is_of_kind accepted k.pages loose found
  none_of is_of_kind h =
      carried image (λ ps v s. AcceptsNone is_of_kind accepted ps v s) found k.found x k.scrubbed k.pages k.pages k.held k.held loose k.loose l k.are_loose h

  keeps_spares : KeepsSpares found (reclaimed accepted k.pages loose found)
  keeps_spares = spares_kept accepted k.pages loose found (none_of is_spare k.spares)

  keeps_loose : KeepsLoose loose found (reclaimed accepted k.pages loose found)
  keeps_loose = loose_kept accepted k.pages loose found (none_of is_loose k.loose_copies)

  -- what was scanned otherwise has the same items in the other extents, and has the loose frames of these
  module _ (gs : List Scanned) (others : List Standing) (alike : AllZip (IsAlikeIn (λ e. ¬ Contains extents e)) found.all gs)
      (carry : (s : Standing) → ¬ Contains extents s.extent → Contains loose.frames s → Contains others s) where
    -- such a spare is still one
    spare_stays : (c : Checked) → HasSafeSpare found (reclaimed accepted k.pages loose found) c → spares_of gs c ≢ []
    spare_stays c h =
        not_nil (spares_of gs c) h.spare
        (spare_too c (frames found.all) (frames gs) h.spare h.among
        (frame_stays (λ e. ¬ Contains extents e) found.all gs h.spare alike (by h.stays) (spare_among c (frames found.all) (frames gs) h.spare h.among)))
      where
        by : (has_sound_at found.checked h.spare.extent h.spare.offset ≡ true) ⊎ All (λ (a : CandidateValue). a.extent ≢ h.spare.extent) (reclaimed accepted k.pages loose found) →
            ¬ Contains extents h.spare.extent
        by (inl live) = not_live h.spare.extent h.spare.offset live
        by (inr apart) = not_listed h.spare.extent apart

    -- and such a loose copy still a loose frame
    copy_stays : (c : Checked) → HasSafeLoose loose found (reclaimed accepted k.pages loose found) c →
        (s : Standing) × Contains (loose_of found.all loose.frames c) s × Contains others s
    copy_stays c h = (
      h.copy,
      h.among,
      carry h.copy (not_listed h.copy.extent h.stays) (loose_among c found.all gs loose.frames others h.copy h.among).2,
    )

    rises : All (λ (c : Checked). rank (best_of found.all loose.frames c) ≤ rank (best_of gs others c)) found.checked
    rises i d below =
        let c : Checked = get_or found.checked i d in
        as_good c found.all gs loose.frames others
        (λ some. spare_stays c (keeps_spares i d below some))
        (λ some. copy_stays c (keeps_loose i d below some))

-- ---- the manifest as if they were reset

module _ (extents : List ℕ) (image : Image) (found rest : Scrubbed) (x : IsScrubbed image found) (y : IsScrubbedBut extents image rest) where
  -- A plan with resets is that without them, but for write pointers.
  pub reset : IsReset found.plan extents rest.plan
  reset =
      let without : (old : PlanValue) × (old ≡ plan_of rest.choice) × IsReset old extents rest.plan = reset_of extents rest.choice rest.plan y.plan in
      subst (λ (p : PlanValue). IsReset p extents rest.plan)
      (plan_found image found without.0 x (record { choice = rest.choice; chosen = y.choice; follows = without.1 }))
      without.2

  -- The other extents are the same.
  pub same_else : (e : ℕ) → ¬ Contains extents e → IsTheSame image image found.plan rest.plan e
  same_else e apart = record {
    sizes = refl;
    retired = reset.retired;
    pointer = elim (among_cases extents e) [
      | inl among ↦ absurd (apart among.1)
      | inr other ↦ kept_pointer extents found.plan rest.plan reset e other.0
    ];
    bytes = λ w is p below. refl;
  }

  -- ---- the scans

  numbers : extent_numbers rest.all ≡ extent_numbers found.all
  numbers = same_numbers [] extents image image found rest refl reset.retired x y

  alike_else : AllZip (IsAlikeIn (λ e. ¬ Contains extents e)) found.all rest.all
  alike_else = scans_alike image image found.plan rest.plan (λ e. ¬ Contains extents e) same_else found.all rest.all numbers x.all y.all

  -- nothing is found in the extents that are reset
  part : (f g : Scanned) → g.extent ≡ f.extent → IsScannedBy image found.plan f → IsScannedBy image rest.plan g →
      IsPartOf (λ e. ¬ Contains extents e) f g
  part f g number p q = record {
    extent = number;
    items = elim (among_cases extents f.extent) [
      | inl among ↦
          inr
          (no_items (extent_of image g.extent g.pointer) g.findings.items
          (same_Some g.pointer 0 (sym q.0 ∙ ap (pointer_of rest.plan) number ∙ zero_pointer extents found.plan rest.plan reset f.extent f.pointer among.0 p.0))
          q.1.tiled)
      | inr other ↦ inl (other.1, alike_items image image found.plan rest.plan f g number p q (same_else f.extent other.1))
    ];
  }

  -- With resets each extent has the same items or none.
  pub parts : AllZip (IsPartOf (λ e. ¬ Contains extents e)) found.all rest.all
  parts =
      along (IsScannedBy image found.plan) (IsScannedBy image rest.plan) (IsPartOf (λ e. ¬ Contains extents e)) part found.all rest.all numbers
      (scanned_by image found.plan found.all x.all) (scanned_by image rest.plan rest.all y.all)

  -- ---- the loose frames and the best copies

  module _ (loose others : LooseValue) (l : AreLoose [] image found.plan loose) (m : AreLoose extents image rest.plan others) where
    outside_too : (s : Standing) → ¬ Contains extents s.extent → Contains loose.frames s → Contains others.frames s
    outside_too s apart =
        carried_over [] extents found.plan rest.plan s (record { sizes = refl; bytes = refl }) loose others l m
        (λ is. record { in_use = subst (λ (ns : List ℕ). Contains ns s.extent) (sym reset.planned) is.in_use; stays = apart })

    no_more : (s : Standing) → Contains others.frames s → Contains loose.frames s
    no_more s =
        carried_over extents [] rest.plan found.plan s (record { sizes = refl; bytes = refl }) others loose m l
        (λ is. record { in_use = subst (λ (ns : List ℕ). Contains ns s.extent) reset.planned is.in_use; stays = none_in_nil s.extent })

    -- With resets no best copy is better than without.
    pub no_better : (c : Checked) → rank (best_of rest.all others.frames c) ≤ rank (best_of found.all loose.frames c)
    no_better c =
        as_good c rest.all found.all others.frames loose.frames
        (λ some.
        let one = first_of (spares_of rest.all c) some in
        not_nil (spares_of found.all c) one.0
        (spare_too c (frames rest.all) (frames found.all) one.0 one.1
        (frame_was (λ e. ¬ Contains extents e) found.all rest.all one.0 parts (spare_among c (frames rest.all) (frames found.all) one.0 one.1)).0))
        (λ some.
        let one = first_of (loose_of rest.all others.frames c) some in
        (one.0, one.1, no_more one.0 (loose_among c rest.all found.all others.frames loose.frames one.0 one.1).2))

  -- ---- what is named

  -- With resets that no named locator points into, the same is named as without.
  pub named_but : All (λ (c : Checked). ¬ Contains extents c.locator.extent) found.checked → NameTheSame found rest
  named_but apart =
      name_the_same [] extents image image found rest x y reset.has reset.runs reset.retired
      (λ i d below. same_else (get_or found.checked i d).locator.extent (apart i d below))
      (λ i d below sound. same_form (get_or found.checked i d).locator (λ e. ¬ Contains extents e) found.all rest.all alike_else (apart i d below))

module _ (accepted : Acceptance) (extents : List ℕ) (image : Image) (k : AreListedKeepingCopies accepted extents image)
    (found rest : Scrubbed) (x : IsScrubbed image found) (y : IsScrubbedBut extents image rest) (loose others : LooseValue)
    (l : AreLoose [] image found.plan loose) (m : AreLoose extents image rest.plan others) where
  same_named : NameTheSame found rest
  same_named = named_but extents image found rest x y (none_into_them accepted extents image k found x loose l)

  after : All (λ (c : Checked). after_status_in rest.all others.frames c ≡ after_status_in found.all loose.frames c) found.checked
  after i d below =
      let c : Checked = get_or found.checked i d in
      same_after found.all rest.all loose.frames others.frames c (same_named.forms i d below)
      (one_of_rank (best_of rest.all others.frames c) (best_of found.all loose.frames c)
      (no_better extents image found rest x y loose others l m c)
      (rises accepted extents image k found x loose l rest.all others.frames (alike_else extents image found rest x y) (outside_too extents image found rest x y loose others l m) i d below))

-- If extents are listed and no copy is accepted, the manifest as if they were reset is the manifest.
pub same_without : (accepted : Acceptance) (extents : List ℕ) (image : Image) (a b : List ℕ) (v w : Bool) → AreListedKeepingCopies accepted extents image →
    IsManifestBut extents image a v → IsManifest image b w → (a ≡ b) × (v ≡ w)
same_without accepted extents image a b v w k y x =
    let same = same_named accepted extents image k x.found y.found x.scrubbed y.scrubbed x.loose y.loose x.are_loose y.are_loose in (
      y.text_is
          ∙ same_text x.found y.found x.loose.frames y.loose.frames same
          (after accepted extents image k x.found y.found x.scrubbed y.scrubbed x.loose y.loose x.are_loose y.are_loose)
          ∙ sym x.text_is,
      y.verdict ∙ same_verdict x.found y.found same ∙ sym x.verdict,
    )

-- ---- the manifest after a reset

module _ (accepted : Acceptance) (extents : List ℕ) (before after : Image) (k : AreListedKeepingCopies accepted extents before)
    (r : IsAfterReset extents before after) (found rest : Scrubbed) (x : IsScrubbed before found) (y : IsScrubbed after rest)
    (loose others : LooseValue) (l : AreLoose [] before found.plan loose) (m : AreLoose [] after rest.plan others) where
  named_after : NameTheSame found rest
  named_after = named_apart extents before after found rest x y r (none_into_these before accepted extents found x k.listed)

  risen : IsSameButRisen (manifest_text found loose.frames) (manifest_text rest others.frames)
  risen =
      manifests_rise found rest loose.frames others.frames named_after
      (rises accepted extents before k found x loose l rest.all others.frames (scans extents before after found rest x y r)
      (loose_stays extents before after found rest x y r loose others l m))

-- If extents are listed without moves, no copy is accepted, and they are reset, the manifest is the same, but that words for best
-- copies may have risen, and so is its verdict.
pub same_but_risen : (accepted : Acceptance) (extents : List ℕ) (before after : Image) (a b : List ℕ) (v w : Bool) →
    AreListedKeepingCopies accepted extents before → IsAfterReset extents before after → IsManifest before a v → IsManifest after b w →
    IsSameButRisen a b × (v ≡ w)
same_but_risen accepted extents before after a b v w k r x y = (
  subst (λ (t : List ℕ). IsSameButRisen t b) (sym x.text_is)
      (subst (λ (t : List ℕ). IsSameButRisen (manifest_text x.found x.loose.frames) t) (sym y.text_is)
      (risen accepted extents before after k r x.found y.found x.scrubbed y.scrubbed x.loose y.loose x.are_loose y.are_loose)),
  x.verdict
      ∙ sym (same_verdict x.found y.found (named_after accepted extents before after k r x.found y.found x.scrubbed y.scrubbed x.loose y.loose x.are_loose y.are_loose))
      ∙ sym y.verdict,
)
