-- An image has exactly one listing of its named locators, one of its superblocks, one of its index runs, one summary, one list of
-- remarks, and one manifest for each list of resets, since what is found on it is unique.
use Rattle.std.proofs.Common.{◌≡◌, ◌<◌, ◌^◌, ◌++◌, [], ℕ, All, Bool, true, false, List, Option, None, Some, IfSome, length, refl, sym, ◌∙◌, ap, subst}
use Rattle.std.specs.Prelude.{IsTrue, ◌↔◌}
use Rattle.std.specs.List.{flat_map}
use Rattle.std.proofs.lemmas.Bool.{false≢true}
use Rattle.list_facts.proofs.Decisions.{test_of, test_of-holds, test_of-passes}
use Rattle.list_facts.proofs.OneAnswers.{HasOneAnswer, and_then, same_answer}
use Rattle.scrub_disk.specs.Image.{Image}
use Rattle.scrub_frame.specs.declared.locator.Locator.{Locator}
use Rattle.scrub_frame.specs.Locator.{IsLocator}
use Rattle.scrub_super.specs.Pages.{AreSuperblockPages}
use Rattle.scrub_super.specs.steps.Limits.{AreRunLocators}
use Rattle.scrub_super.proofs.Laws.{one_choice_lem}
use Rattle.scrub_super.proofs.PageLaws.{one_list_of_pages}
use Rattle.scrub_super.proofs.PagesThere.{some_pages}
use Rattle.scrub_super.proofs.RecordsThere.{some_choice}
use Rattle.scrub_found.specs.GivenRuns.{IsScrubbedFrom}
use Rattle.scrub_found.specs.Scrubbed.{IsScrubbed, Scrubbed, is_clean_disk}
use Rattle.scrub_found.proofs.Existing.{some_scrub_from}
use Rattle.scrub_found.proofs.GivenPlans.{plan_from_fits}
use Rattle.scrub_found.proofs.OneScrub.{one_scrub_from}
use Rattle.scrub_loose.specs.Listed.{AreListedRuns}
use Rattle.scrub_loose.specs.Loose.{AreLoose, LooseValue}
use Rattle.scrub_loose.specs.Outer.{IsReadableDisk}
use Rattle.scrub_loose.proofs.LooseThere.{some_loose}
use Rattle.scrub_loose.proofs.Naming.{one_listed, some_listed}
use Rattle.scrub_loose.proofs.OneLoose.{one_loose}
use Rattle.scrub_loose.proofs.ReadablePages.{decided_readable}
use Rattle.scrub_listings.specs.FoundRuns.{IsRunsListing, run_line, runs_total}
use Rattle.scrub_listings.specs.Locators.{IsLocatorListing, locator_lines}
use Rattle.scrub_listings.specs.Manifest.{IsManifestFrom, is_whole, manifest_text}
use Rattle.scrub_listings.specs.Remarks.{AreSaidFrom, superblock_remarks}
use Rattle.scrub_listings.specs.Summary.{IsSummary, is_sound_verdict, summary_text, verdict}
use Rattle.scrub_listings.specs.Superblocks.{IsSuperblockListing, are_clean_pages, superblock_lines}
use Rattle.scrub_listings.specs.declared.remarks.SuperblockRemark.{SuperblockRemark}

-- ---- what is found

-- Runs that can be given keep the limits of a plan's.
pub can_be_given : (given : Option (List Locator)) → IfSome given (λ runs. (length runs < 2 ^ 32) × All IsLocator runs) →
    IfSome given AreRunLocators
can_be_given None can = tt
can_be_given (Some runs) can = record { count = can.0; each = can.1 }

module _ (given : Option (List Locator)) (resets : List ℕ) (image : Image) where
  some_found : IfSome given AreRunLocators →
      (s : Scrubbed) × (v : LooseValue) × IsScrubbedFrom given resets image s × AreLoose resets image s.plan v
  some_found can =
      let s = some_scrub_from given resets image can in
      let l = some_loose resets image s.0.plan (plan_from_fits given resets image s.0.choice s.0.plan can s.1.choice s.1.plan) in
      (s.0, l.0, s.1, l.1)

  same_found : (s t : Scrubbed) (v w : LooseValue) → IsScrubbedFrom given resets image s → IsScrubbedFrom given resets image t →
      AreLoose resets image s.plan v → AreLoose resets image t.plan w → (s ≡ t) × (v ≡ w)
  same_found s t v w x y l m =
      let same = one_scrub_from given resets image s t x y in
      (same, one_loose resets image t.plan v w (subst (λ (u : Scrubbed). AreLoose resets image u.plan v) same l) m)

  -- There is a manifest, by the superblock that counts or by index runs that can be given.
  pub some_manifest : IfSome given AreRunLocators → (text : List ℕ) × (whole : Bool) × IsManifestFrom given resets image text whole
  some_manifest can =
      let s = some_found can in (
        manifest_text s.0 s.1.frames,
        is_whole s.0,
        record { found = s.0; scrubbed = s.2; loose = s.1; are_loose = s.3; text_is = refl; verdict = refl },
      )

  -- There is at most one.
  pub same_manifest : (a b : List ℕ) (v w : Bool) → IsManifestFrom given resets image a v → IsManifestFrom given resets image b w →
      (a ≡ b) × (v ≡ w)
  same_manifest a b v w x y =
      let same = same_found x.found y.found x.loose y.loose x.scrubbed y.scrubbed x.are_loose y.are_loose in
      (x.text_is ∙ (λ i. manifest_text (same.0 i) (same.1 i).frames) ∙ sym y.text_is, x.verdict ∙ ap is_whole same.0 ∙ sym y.verdict)

one_found : (image : Image) → HasOneAnswer (λ (s : Scrubbed × LooseValue). IsScrubbed image s.0 × AreLoose [] image s.0.plan s.1)
one_found image =
    let f = some_found None [] image tt in
    record {
      answer = (f.0, f.1);
      meets = (f.2, f.3);
      only = λ s is. let same = same_found None [] image s.0 f.0 s.1 f.1 is.0 f.2 is.1 f.3 in λ i. (same.0 i, same.1 i);
    }

one_pages : (image : Image) → HasOneAnswer (AreSuperblockPages image)
one_pages image =
    let p = some_pages image in
    record { answer = p.0; meets = p.1; only = λ pages are. one_list_of_pages image pages p.0 are p.1 }

one_runs : (image : Image) → HasOneAnswer (AreListedRuns image)
one_runs image =
    let l = some_listed image in
    record { answer = l.0; meets = l.1; only = λ runs are. one_listed image runs l.0 are l.1 }

one_readable : (image : Image) → HasOneAnswer (λ (b : Bool). IsTrue b ↔ IsReadableDisk image)
one_readable image =
    let d = decided_readable image in
    record { answer = test_of d; meets = (test_of-holds d, test_of-passes d); only = λ b is. alike b (test_of d) is (test_of-holds d, test_of-passes d) }
  where
    alike : {P : Type 0} (v w : Bool) → IsTrue v ↔ P → IsTrue w ↔ P → v ≡ w
    alike true true a b = refl
    alike true false a b = absurd (false≢true (b.1 (a.0 refl)))
    alike false true a b = absurd (false≢true (a.1 (b.0 refl)))
    alike false false a b = refl

-- ---- what is said

-- a text and a verdict that are made of the one answer are one, too
said_of : {X : Type 0} {F : X → Type 0} (P : List ℕ → Bool → Type 0) (text : X → List ℕ) (verdict : X → Bool) →
    ((x : X) → F x → P (text x) (verdict x)) → ((a : List ℕ) (v : Bool) → P a v → (x : X) × F x × (a ≡ text x) × (v ≡ verdict x)) →
    HasOneAnswer F → HasOneAnswer (λ (r : List ℕ × Bool). P r.0 r.1)
said_of P text verdict there back one = record {
  answer = (text one.answer, verdict one.answer);
  meets = there one.answer one.meets;
  only = λ r is.
      let b = back r.0 r.1 is in
      let same = one.only b.0 b.1 in
      let texts = b.2 ∙ ap text same in
      let verdicts = b.3 ∙ ap verdict same in
      λ i. (texts i, verdicts i);
}

-- Of a listing that is one there is a text with a verdict.
pub some_text : (P : List ℕ → Bool → Type 0) → HasOneAnswer (λ (r : List ℕ × Bool). P r.0 r.1) → (text : List ℕ) × (verdict : Bool) × P text verdict
some_text P one = (one.answer.0, one.answer.1, one.meets)

-- There is at most one text of it, with one verdict.
pub same_text : (P : List ℕ → Bool → Type 0) → HasOneAnswer (λ (r : List ℕ × Bool). P r.0 r.1) → (a b : List ℕ) (v w : Bool) →
    P a v → P b w → (a ≡ b) × (v ≡ w)
same_text P one a b v w x y =
    let same = same_answer one (a, v) (b, w) x y in
    (ap (λ (r : List ℕ × Bool). r.0) same, ap (λ (r : List ℕ × Bool). r.1) same)

-- An image has one listing of its named locators.
pub one_listing : (image : Image) → HasOneAnswer (λ (r : List ℕ × Bool). IsLocatorListing image r.0 r.1)
one_listing image =
    said_of (IsLocatorListing image) (λ s. locator_lines s.0.all s.1.frames s.0.checked) (λ s. is_clean_disk s.0)
    (λ s is. record { found = s.0; scrubbed = is.0; loose = s.1; are_loose = is.1; text_is = refl; verdict = refl })
    (λ a v l. ((l.found, l.loose), (l.scrubbed, l.are_loose), l.text_is, l.verdict)) (one_found image)

-- It has one summary, for each last generation and for none.
pub one_summary : (last : Option ℕ) (image : Image) → HasOneAnswer (λ (r : List ℕ × Bool). IsSummary last image r.0 r.1)
one_summary last image =
    said_of (IsSummary last image) (λ s. summary_text last s.1 s.0.0 s.0.1.frames) (λ s. is_sound_verdict (verdict last s.0.0 s.1))
    (λ s is. record { found = s.0.0; scrubbed = is.0.0; pages = s.1; held = is.1; loose = s.0.1; are_loose = is.0.1; text_is = refl; verdict_is = refl })
    (λ a v l. (((l.found, l.loose), l.pages), ((l.scrubbed, l.are_loose), l.held), l.text_is, l.verdict_is))
    (and_then (one_found image) (λ s is. one_pages image))

-- It has one listing of its superblocks.
pub one_superblock_listing : (image : Image) → HasOneAnswer (λ (r : List ℕ × Bool). IsSuperblockListing image r.0 r.1)
one_superblock_listing image =
    said_of (IsSuperblockListing image) superblock_lines are_clean_pages
    (λ pages are. record { pages = pages; are = are; text_is = refl; verdict = refl }) (λ a v l. (l.pages, l.are, l.text_is, l.verdict)) (one_pages image)

-- It has one listing of its index runs.
pub one_runs_listing : (image : Image) → HasOneAnswer (λ (r : List ℕ × Bool). IsRunsListing image r.0 r.1)
one_runs_listing image =
    said_of (IsRunsListing image) (λ s. flat_map run_line s.0 ++ runs_total (length s.0)) (λ s. s.1)
    (λ s is. record { listed = s.0; are = is.0; text_is = refl; verdict = is.1 })
    (λ a v l. ((l.listed, v), (l.are, l.verdict), l.text_is, refl)) (and_then (one_runs image) (λ runs are. one_readable image))

-- Something is said of the superblocks, or nothing if index runs are given.
pub some_said : (given : Option (List Locator)) (image : Image) → (said : List SuperblockRemark) × AreSaidFrom given image said
some_said None image =
    let choice = some_choice image in
    let pages = some_pages image in (
      superblock_remarks choice.0.tie pages.0,
      record { choice = choice.0; chosen = choice.1; pages = pages.0; held = pages.1; remarks_are = refl },
    )
some_said (Some runs) image = ([], refl)

-- What is said is one list.
pub one_said : (given : Option (List Locator)) (image : Image) (a b : List SuperblockRemark) → AreSaidFrom given image a →
    AreSaidFrom given image b → a ≡ b
one_said None image a b x y =
    let choice = one_choice_lem image x.choice y.choice x.chosen y.chosen in
    let pages = one_list_of_pages image x.pages y.pages x.held y.held in
    x.remarks_are ∙ (λ i. superblock_remarks (choice i).tie (pages i)) ∙ sym y.remarks_are
one_said (Some runs) image a b x y = x ∙ sym y
