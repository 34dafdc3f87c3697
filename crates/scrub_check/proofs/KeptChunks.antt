-- A candidate keeps each chunk that a locator into its extent points to.
use Rattle.std.proofs.Common.{◌≡◌, ◌⊎◌, inl, inr, ◌==◌, ◌&&◌, ◌||◌, ◌*◌, ℕ, Bool, true, false, not, cond, List, [], ◌∷◌, Option, Some, MatchOption, get_or, map, nat_lt, arith, refl, sym, ◌∙◌, ap, subst, if◌then◌else◌}
use Rattle.std.specs.List.{All, Contains, filter, list_all}
use Rattle.std.proofs.lemmas.Bool.{eq-eqb, false≢true}
use Rattle.std.specs.List.Sorted.{IsPermutation}
use Rattle.std.proofs.lemmas.List.Elements.{All-head, All-tail, All-map, All-filter, All-contains, All-contains_itself, filter_passes}
use Rattle.std.proofs.lemmas.List.Folds.{list_any_at}
use Rattle.std.proofs.lemmas.List.Sums.{AllPass-from_list_all}
use Rattle.std.proofs.lemmas.List.Sorted.{All-permutation}
use Rattle.list_facts.proofs.Counts.{any_counts}
use Rattle.list_facts.proofs.Elements.{Contains-behind, Contains-cases}
use Rattle.scrub_disk.specs.Image.{Image}
use Rattle.scrub_frame.specs.declared.form.Form.{Form}
use Rattle.scrub_frame.specs.declared.locator.Locator.{Locator}
use Rattle.scrub_super.specs.Plan.{PlanValue, pointer_of}
use Rattle.scrub_scan.specs.declared.item.Item.{Item}
use Rattle.scrub_scan.specs.declared.item.Item.TheVariants.{Chunk, Pad, Torn, Noise, Lost}
use Rattle.scrub_scan.specs.Extent.{Extent, extent_of, FrameAt}
use Rattle.scrub_scan.specs.Item.{start_of, IsItem, Fits}
use Rattle.scrub_scan.specs.Findings.{IsFindings}
use Rattle.scrub_scan.specs.Scanned.{Scanned}
use Rattle.scrub_check.specs.declared.lists.kept_chunk.KeptChunk.{KeptChunk}
use Rattle.scrub_check.specs.declared.statuses.checked.Checked.{Checked}
use Rattle.scrub_check.specs.declared.statuses.status.Status.{Status}
use Rattle.scrub_check.specs.declared.statuses.status.Status.TheVariants.{OutOfRange, Sound}
use Rattle.scrub_check.specs.Checked.{is_sound, HaveStatuses}
use Rattle.scrub_check.specs.Status.{HasStatus, HasStatusIn}
use Rattle.scrub_check.specs.Live.{has_sound_at, is_chunk, live_chunks, live_bytes}
use Rattle.scrub_check.specs.WholeScan.{IsWholeScan}
use Rattle.scrub_check.specs.Candidates.{CandidateValue, has_sound_alone, is_reclaimable, candidate_of, AreCandidates}
use Rattle.scrub_check.specs.SafeCandidates.{IsKept, AreSafe}
use Rattle.scrub_check.specs.steps.LiveAndOrphans.{kept_of}
use Rattle.scrub_check.specs.steps.LocatorIndex.{reclaimable}
use Rattle.scrub_check.specs.steps.SoundPlaces.{is_sound_at, is_live}
use Rattle.scrub_check.proofs.Starts.{begins_among}
use Rattle.scrub_check.proofs.RunStates.{named_in_use, Sound_from_is_sound}

-- the item at a frame is a chunk
chunk_at : (x : Extent) (i : Item) (f : Form) (u b : List ℕ) → Fits x i → FrameAt x (start_of i) f u b →
    is_chunk i ≡ true
chunk_at x (Chunk g start stop v n digest) f u b fits frame = refl
chunk_at x (Pad start stop) f u b fits frame = absurd (fits.1 f u b frame)
chunk_at x (Torn start stop) f u b fits frame = absurd (fits.1 f u b frame)
chunk_at x (Noise start stop) f u b fits frame = absurd (fits.1 f u b frame)
chunk_at x (Lost start stop) f u b fits frame = absurd (fits.1 f u b frame)

-- so it is live if a sound locator points to it
live_there : (x : Extent) (checked : List Checked) (e p : ℕ) (f : Form) (u b : List ℕ) (items : List Item) →
    All (IsItem x) items → FrameAt x p f u b → has_sound_at checked e p ≡ true →
    Contains (map start_of items) p → Contains (map start_of (filter (is_live checked e) items)) p
live_there x checked e p f u b [] each frame named (i, below, is) = absurd (omega (arith, below))
live_there x checked e p f u b (item ∷ items) each frame named there =
    by (is_live checked e item) refl (live_there x checked e p f u b items (All-tail (IsItem x) item items each) frame named)
    (Contains-cases (start_of item) (map start_of items) p there)
  where
    live : List Item
    live = filter (is_live checked e) items

    here : start_of item ≡ p → is_live checked e item ≡ true
    here is =
        let one : IsItem x item = All-head (IsItem x) item items each in
        let chunk : is_chunk item ≡ true = chunk_at x item f u b one.fits (rw is frame) in
        ap (λ t. t && has_sound_at checked e (start_of item)) chunk ∙ ap (has_sound_at checked e) is ∙ named

    by : (t : Bool) → is_live checked e item ≡ t → (Contains (map start_of items) p → Contains (map start_of live) p) →
        (start_of item ≡ p) ⊎ Contains (map start_of items) p → Contains (map start_of (cond t (item ∷ live) live)) p
    by true is rest (inl first) = (0, omega arith, first)
    by true is rest (inr later) = Contains-behind (start_of item) (map start_of live) p (rest later)
    by false is rest (inl first) = absurd (let f : false ≡ true = sym is ∙ here first in false≢true f)
    by false is rest (inr later) = rest later

-- a sound locator is one to its place
names_its_place : (checked : List Checked) (c : Checked) → Contains checked c → c.status ≡ Sound →
    has_sound_at checked c.locator.extent c.locator.offset ≡ true
names_its_place checked c (i, below, is) sound =
    sym (any_counts (is_sound_at c.locator.extent c.locator.offset) checked)
    ∙ list_any_at (is_sound_at c.locator.extent c.locator.offset) checked i c below
    (ap (is_sound_at c.locator.extent c.locator.offset) is ∙ itself)
  where
    itself : is_sound_at c.locator.extent c.locator.offset c ≡ true
    itself =
        ap (λ s. (is_sound s && (c.locator.extent == c.locator.extent)) && (c.locator.offset == c.locator.offset)) sound
        ∙ ap (λ t. t && (c.locator.offset == c.locator.offset)) (eq-eqb c.locator.extent c.locator.extent refl)
        ∙ eq-eqb c.locator.offset c.locator.offset refl

-- a locator to an extent that sound ones alone name is sound
sound_alone : (checked : List Checked) (f : Scanned) (c : Checked) → has_sound_alone checked f ≡ true → Contains checked c →
    c.locator.extent ≡ f.extent → c.status ≡ Sound
sound_alone checked f c alone there same =
    let passes : (not (c.locator.extent == f.extent) || is_sound c.status) ≡ true =
    All-contains (λ d. (not (d.locator.extent == f.extent) || is_sound d.status) ≡ true) checked c
    (AllPass-from_list_all (λ d. not (d.locator.extent == f.extent) || is_sound d.status) checked alone) there in
    Sound_from_is_sound c.status (sym (ap (λ t. not t || is_sound c.status) (eq-eqb c.locator.extent f.extent same)) ∙ passes)

-- its status under the pointer of its extent
under_pointer : (image : Image) (o : Option ℕ) (l : Locator) (w : ℕ) (s : Status) → o ≡ Some w → s ≡ Sound →
    MatchOption o (s ≡ OutOfRange) (λ v. HasStatus image v l s) → HasStatus image w l Sound
under_pointer image o l w s at sound h =
    subst (λ (t : Status). HasStatus image w l t) sound
    (subst (λ (p : Option ℕ). MatchOption p (s ≡ OutOfRange) (λ v. HasStatus image v l s)) at h)

-- the chunk that it names is kept
kept_there : (image : Image) (w : ℕ) (f : Scanned) (checked : List Checked) (c : Checked) →
    IsFindings image c.locator.extent w f.findings → HasStatus image w c.locator Sound → Contains checked c → c.status ≡ Sound →
    Contains (map start_of (filter (is_live checked c.locator.extent) f.findings.items)) c.locator.offset
kept_there image w f checked c found h there sound =
    let x : Extent = extent_of image c.locator.extent w in
    live_there x checked c.locator.extent c.locator.offset h.0.found.form c.locator.uuid h.0.payload f.findings.items
    found.tiled.each h.0.found.frame (names_its_place checked c there sound)
    (begins_among x f.findings.items c.locator.offset (omega (arith, image.geometry.page_least)) found.tiled h.1)

-- the starts of the chunks to keep
starts_kept : (items : List Item) → map (λ (k : KeptChunk). k.start) (map kept_of items) ≡ map start_of items
starts_kept [] = refl
starts_kept (item ∷ items) = ap (λ (ns : List ℕ). start_of item ∷ ns) (starts_kept items)

kept : (image : Image) (plan : PlanValue) (all : List Scanned) (checked : List Checked) (f : Scanned) (c : Checked) →
    IsWholeScan image plan all → HaveStatuses image plan checked →
    Contains all f → has_sound_alone checked f ≡ true → Contains checked c → c.locator.extent ≡ f.extent →
    IsKept (candidate_of checked f) c
kept image plan all checked f c whole statuses among alone there same =
    let sound : c.status ≡ Sound = sound_alone checked f c alone there same in
    let status : HasStatusIn image plan c.locator c.status =
    All-contains (λ (d : Checked). HasStatusIn image plan d.locator d.status) checked c statuses there in
    let pointer : pointer_of plan f.extent ≡ Some f.pointer =
    All-contains (λ (g : Scanned). pointer_of plan g.extent ≡ Some g.pointer) all f whole.findings.pointers among in
    let found : IsFindings image f.extent f.pointer f.findings =
    All-contains (λ (g : Scanned). IsFindings image g.extent g.pointer g.findings) all f whole.findings.findings among in
    let under : HasStatus image f.pointer c.locator Sound =
    under_pointer image (pointer_of plan c.locator.extent) c.locator f.pointer c.status (ap (pointer_of plan) same ∙ pointer)
    sound (named_in_use image plan c.locator c.status (inl sound) status).1 in
    record {
      sound = sound;
      kept =
          subst (λ (ns : List ℕ). Contains ns c.locator.offset) (sym (starts_kept (live_chunks checked f)))
          (rw same at (kept_there image f.pointer f checked c (rw same found) under there sound));
    }

third : (a b c d : Bool) → (a && b && c && d) ≡ true → c ≡ true
third a b true d e = refl
third true true false d e = e
third true false false d e = e
third false b false d e = e

-- what may be reclaimed is safe
reclaimable_safe : (image : Image) (plan : PlanValue) (all : List Scanned) (checked : List Checked) →
    IsWholeScan image plan all → HaveStatuses image plan checked → AreSafe checked (reclaimable plan.geometry all checked)
reclaimable_safe image plan all checked whole statuses =
    All-map (λ a. All (λ c. c.locator.extent ≡ a.extent → IsKept a c) checked) (candidate_of checked)
    (filter (is_reclaimable plan.geometry checked) all) (λ i d below j e within same.
    let f : Scanned = get_or (filter (is_reclaimable plan.geometry checked) all) i d in
    let passes : is_reclaimable plan.geometry checked f ≡ true =
    filter_passes (is_reclaimable plan.geometry checked) all i d below in
    let among : Contains all f =
    All-filter (is_reclaimable plan.geometry checked) (Contains all) all (All-contains_itself all) i d below in
    kept image plan all checked f (get_or checked j e) whole statuses among
    (third (nat_lt 0 f.pointer) (list_all (λ q. not (nat_lt (q * plan.geometry.page) f.pointer)) f.findings.bad_pages)
    (has_sound_alone checked f) (not (nat_lt f.pointer (2 * live_bytes checked f))) passes)
    (All-contains_itself checked j e within) same)

-- After a whole scan a candidate keeps the chunk of each locator into its extent, and each of these is sound.
pub candidates_safe : (image : Image) (plan : PlanValue) (all : List Scanned) (checked : List Checked) (in_doubt : Bool) (candidates : List CandidateValue) →
    IsWholeScan image plan all → HaveStatuses image plan checked → AreCandidates plan all checked in_doubt candidates →
    AreSafe checked candidates
candidates_safe image plan all checked in_doubt candidates whole statuses h =
    moved (plan.has_superblock && not in_doubt) h.filtered
  where
    Safe : CandidateValue → Type 0
    Safe a = All (λ c. c.locator.extent ≡ a.extent → IsKept a c) checked

    moved : (b : Bool) → IsPermutation (if b then reclaimable plan.geometry all checked else []) candidates →
        AreSafe checked candidates
    moved true same =
        All-permutation Safe (reclaimable plan.geometry all checked) candidates same
        (reclaimable_safe image plan all checked whole statuses)
    moved false same = All-permutation Safe [] candidates same (λ i d below. absurd (omega (arith, below)))
