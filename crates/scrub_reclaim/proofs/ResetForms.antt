-- Two scans of the same extents, some of which have the same items: the same forms of chunks in these, the same spares, and so
-- the same lines of a manifest.
use Rattle.std.proofs.Common.{◌≡◌, ◌⊎◌, inl, inr, ◌==◌, ◌∷◌, [], ◌++◌, ◌+◌, ℕ, Bool, true, false, cond, if◌then◌else◌, Option, Some, List, length, codes, arith, refl, sym, ◌∙◌, ap, subst}
use Rattle.std.specs.Bool.{⊤}
use Rattle.std.proofs.Math.Path.{ap₂, fun_ext}
use Rattle.std.specs.List.{All, AllZip, Contains, enumerate_from, filter, filter_map, find, flat_map}
use Rattle.std.specs.Option.{option_and_then}
use Rattle.std.proofs.lemmas.Bool.{eqb-true}
use Rattle.std.proofs.lemmas.List.Elements.{All-cons, All-contains, All-contains_itself, All-filter, All-head, All-tail, Contains-append_cases, Contains-append_left, Contains-append_right, filter_passes}
use Rattle.list_facts.proofs.Elements.{Contains-filter, nil_has_no_first, same_behind_first, same_first}
use Rattle.scrub_frame.specs.declared.form.Form.{Form}
use Rattle.scrub_frame.specs.declared.locator.Locator.{Locator}
use Rattle.scrub_scan.specs.declared.item.Item.{Item}
use Rattle.scrub_scan.specs.declared.item.Item.TheVariants.{Chunk, Pad, Torn, Noise, Lost}
use Rattle.scrub_scan.specs.declared.standing.Standing.{Standing}
use Rattle.scrub_scan.specs.AllFindings.{entry_of, extent_numbers}
use Rattle.scrub_scan.specs.Item.{start_of}
use Rattle.scrub_scan.specs.Scanned.{Scanned}
use Rattle.scrub_merge.specs.Binding.{BindingValue}
use Rattle.scrub_check.specs.declared.statuses.checked.Checked.{Checked}
use Rattle.scrub_check.specs.declared.statuses.status.Status.TheVariants.{Sound}
use Rattle.scrub_check.specs.Checked.{is_owned_by, is_sound}
use Rattle.scrub_check.specs.ChunkForms.{form_at, form_of}
use Rattle.scrub_check.proofs.RunStates.{Sound_from_is_sound}
use Rattle.scrub_check.specs.Spares.{asks_for_spares, frame_of_item, frames, frames_in, is_copy_of, spares_by}
use Rattle.scrub_loose.specs.declared.copies.BestCopy.{BestCopy}
use Rattle.scrub_loose.specs.Loose.{best_of}
use Rattle.scrub_listings.specs.Manifest.{after_status_in, form_text, looked_for, numbered_line, numbered_text, retired_line, runs_line, spare_text, text_by, total_line}

-- ---- two scans of the same extents

-- the same extent, with the same items if this is known of its number
pub record IsAlikeIn (K : ℕ → Type 0) (f g : Scanned) : Type 0 where
  pub extent : g.extent ≡ f.extent
  pub items : K f.extent → g.findings.items ≡ f.findings.items

-- the same extent, with the same items, and then this is known of its number, or with none
pub record IsPartOf (K : ℕ → Type 0) (f g : Scanned) : Type 0 where
  pub extent : g.extent ≡ f.extent
  pub items : (K f.extent × (g.findings.items ≡ f.findings.items)) ⊎ (g.findings.items ≡ [])

-- what holds of two scanned extents of one number holds along two lists of the same numbers
pub along : (P Q : Scanned → Type 0) (R : Scanned → Scanned → Type 0) → ((f g : Scanned) → g.extent ≡ f.extent → P f → Q g → R f g) →
    (fs gs : List Scanned) → extent_numbers gs ≡ extent_numbers fs → All P fs → All Q gs → AllZip R fs gs
along P Q R both [] [] e p q = tt
along P Q R both [] (g ∷ gs) e p q = absurd (nil_has_no_first g.extent (extent_numbers gs) (sym e))
along P Q R both (f ∷ fs) [] e p q = absurd (nil_has_no_first f.extent (extent_numbers fs) e)
along P Q R both (f ∷ fs) (g ∷ gs) e p q = (
  both f g (same_first g.extent f.extent (extent_numbers gs) (extent_numbers fs) e) (All-head P f fs p) (All-head Q g gs q),
  along P Q R both fs gs (same_behind_first g.extent f.extent (extent_numbers gs) (extent_numbers fs) e) (All-tail P f fs p) (All-tail Q g gs q),
)

-- ---- the form of a chunk

module _ (l : Locator) where
  -- the form of the chunk that begins at the locator's offset, among some items, and in what was found in its extent
  abbrev form_among : List Item → Option Form
  form_among items = option_and_then form_of (find (λ item. start_of item == l.offset) items)

  abbrev form_in : Option Scanned → Option Form
  form_in o = option_and_then form_of (option_and_then (λ f. find (λ item. start_of item == l.offset) f.findings.items) o)

  -- If a locator's extent has the same items in both scans, its chunk has the same form in both.
  pub same_form : (K : ℕ → Type 0) (fs gs : List Scanned) → AllZip (IsAlikeIn K) fs gs → K l.extent → form_at gs l ≡ form_at fs l
  same_form K [] [] alike known = refl
  same_form K [] (g ∷ gs) alike known = absurd alike
  same_form K (f ∷ fs) [] alike known = absurd alike
  same_form K (f ∷ fs) (g ∷ gs) alike known =
      ap (λ (n : ℕ). form_in (cond (n == l.extent) (Some g) (entry_of gs l.extent))) alike.0.extent
      ∙ by (f.extent == l.extent) refl (same_form K fs gs alike.1 known)
    where
      by : (b : Bool) → (f.extent == l.extent) ≡ b → form_at gs l ≡ form_at fs l →
          form_in (cond b (Some g) (entry_of gs l.extent)) ≡ form_in (cond b (Some f) (entry_of fs l.extent))
      by true is rest = ap form_among (alike.0.items (subst K (sym (eqb-true f.extent l.extent is)) known))
      by false is rest = rest

-- ---- the chunks of all extents

-- all extents have the same items
pub same_frames : (fs gs : List Scanned) → AllZip (IsAlikeIn (λ e. ⊤)) fs gs → frames gs ≡ frames fs
same_frames [] [] alike = refl
same_frames [] (g ∷ gs) alike = absurd alike
same_frames (f ∷ fs) [] alike = absurd alike
same_frames (f ∷ fs) (g ∷ gs) alike =
    ap₂ (λ (xs ys : List Standing). xs ++ ys)
    (ap₂ (λ (e : ℕ) (items : List Item). filter_map (frame_of_item e) items) alike.0.extent (alike.0.items tt))
    (same_frames fs gs alike.1)

-- each chunk of an extent has its number
own_numbers : (e : ℕ) (items : List Item) → All (λ (s : Standing). s.extent ≡ e) (filter_map (frame_of_item e) items)
own_numbers e [] = λ i d below. absurd (omega (arith, below))
own_numbers e (Chunk form start stop uuid n digest ∷ items) =
    All-cons (λ (s : Standing). s.extent ≡ e)
    (record { extent = e; offset = start; form = form; uuid = uuid; length = n; digest = digest })
    (filter_map (frame_of_item e) items) refl (own_numbers e items)
own_numbers e (Pad start stop ∷ items) = own_numbers e items
own_numbers e (Torn start stop ∷ items) = own_numbers e items
own_numbers e (Noise start stop ∷ items) = own_numbers e items
own_numbers e (Lost start stop ∷ items) = own_numbers e items

-- a chunk of an extent that has the same items is in both
own_stays : (K : ℕ → Type 0) (f g : Scanned) (s : Standing) → IsAlikeIn K f g → K s.extent → Contains (frames_in f) s → Contains (frames_in g) s
own_stays K f g s alike known there =
    subst (λ (xs : List Standing). Contains xs s)
    (sym (ap₂ (λ (e : ℕ) (items : List Item). filter_map (frame_of_item e) items) alike.extent (alike.items (subst K own known)))) there
  where
    own : s.extent ≡ f.extent
    own = All-contains (λ (t : Standing). t.extent ≡ f.extent) (frames_in f) s (own_numbers f.extent f.findings.items) there

-- what holds of each extent holds of all
pub frames_along : (R : Scanned → Scanned → Type 0) (s : Standing) →
    ((f g : Scanned) → R f g → Contains (frames_in f) s → Contains (frames_in g) s) → (fs gs : List Scanned) → AllZip R fs gs →
    Contains (frames fs) s → Contains (frames gs) s
frames_along R s each [] [] related there = there
frames_along R s each [] (g ∷ gs) related there = absurd related
frames_along R s each (f ∷ fs) [] related there = absurd related
frames_along R s each (f ∷ fs) (g ∷ gs) related there = elim (Contains-append_cases (frames_in f) (frames fs) s there) [
  | inl here ↦ Contains-append_left (frames_in g) (frames gs) s (each f g related.0 here)
  | inr later ↦ Contains-append_right (frames_in g) (frames gs) s (frames_along R s each fs gs related.1 later)
]

-- If its extent has the same items in both scans, a chunk of the first is one of the second.
pub frame_stays : (K : ℕ → Type 0) (fs gs : List Scanned) (s : Standing) → AllZip (IsAlikeIn K) fs gs → K s.extent →
    Contains (frames fs) s → Contains (frames gs) s
frame_stays K fs gs s alike known =
    frames_along (IsAlikeIn K) s (λ f g one there. own_stays K f g s one known there) fs gs alike

-- a chunk of what has some of the items is in both
own_was : (K : ℕ → Type 0) (f g : Scanned) (s : Standing) → IsPartOf K f g → Contains (frames_in g) s →
    Contains (frames_in f) s × K s.extent
own_was K f g s part there = by part.items
  where
    by : (K f.extent × (g.findings.items ≡ f.findings.items)) ⊎ (g.findings.items ≡ []) → Contains (frames_in f) s × K s.extent
    by (inl same) =
        let own : s.extent ≡ g.extent = All-contains (λ (t : Standing). t.extent ≡ g.extent) (frames_in g) s (own_numbers g.extent g.findings.items) there in (
          subst (λ (xs : List Standing). Contains xs s)
              (ap₂ (λ (e : ℕ) (items : List Item). filter_map (frame_of_item e) items) part.extent same.1) there,
          subst K (sym (own ∙ part.extent)) same.0,
        )
    by (inr none) =
        let nothing : Contains [] s = subst (λ (items : List Item). Contains (filter_map (frame_of_item g.extent) items) s) none there in
        absurd (omega (arith, nothing.1))

-- If each extent has the same items in the second scan or none, its chunks are among the first's, and the same is known of their
-- extents.
pub frame_was : (K : ℕ → Type 0) (fs gs : List Scanned) (s : Standing) → AllZip (IsPartOf K) fs gs → Contains (frames gs) s →
    Contains (frames fs) s × K s.extent
frame_was K [] [] s part there = absurd (omega (arith, there.1))
frame_was K [] (g ∷ gs) s part there = absurd part
frame_was K (f ∷ fs) [] s part there = absurd part
frame_was K (f ∷ fs) (g ∷ gs) s part there = elim (Contains-append_cases (frames_in g) (frames gs) s there) [
  | inl here ↦ let was = own_was K f g s part.0 here in (Contains-append_left (frames_in f) (frames fs) s was.0, was.1)
  | inr later ↦ let was = frame_was K fs gs s part.1 later in (Contains-append_right (frames_in f) (frames fs) s was.0, was.1)
]

-- ---- spares

module _ (c : Checked) (xs ys : List Standing) where
  -- a spare is a chunk, and where that is too it is a spare
  pub spare_among : (s : Standing) → Contains (spares_by xs c) s → Contains xs s
  spare_among s = by (asks_for_spares c)
    where
      by : (b : Bool) → Contains (if b then filter (is_copy_of c.locator) xs else []) s → Contains xs s
      by true there =
          All-contains (Contains xs) (filter (is_copy_of c.locator) xs) s
          (All-filter (is_copy_of c.locator) (Contains xs) xs (All-contains_itself xs)) there
      by false there = absurd (omega (arith, there.1))

  -- A spare among `xs` that is also among `ys` is a spare there.
  pub spare_too : (s : Standing) → Contains (spares_by xs c) s → Contains ys s → Contains (spares_by ys c) s
  spare_too s = by (asks_for_spares c)
    where
      by : (b : Bool) → Contains (if b then filter (is_copy_of c.locator) xs else []) s → Contains ys s →
          Contains (if b then filter (is_copy_of c.locator) ys else []) s
      by true there too =
          Contains-filter (is_copy_of c.locator) ys s
          (All-contains (λ (t : Standing). is_copy_of c.locator t ≡ true) (filter (is_copy_of c.locator) xs) s (filter_passes (is_copy_of c.locator) xs) there)
          too
      by false there too = there

-- ---- the lines

-- If its form and its best copy are the same, the same follows a locator's status.
pub same_after : (fs gs : List Scanned) (loose others : List Standing) (c : Checked) →
    (c.status ≡ Sound → form_at gs c.locator ≡ form_at fs c.locator) → best_of gs others c ≡ best_of fs loose c →
    after_status_in gs others c ≡ after_status_in fs loose c
same_after fs gs loose others c form best = by (is_sound c.status) refl
  where
    by : (b : Bool) → is_sound c.status ≡ b →
        (if b then form_text (form_at gs c.locator) else looked_for c.locator ++ spare_text c.status (best_of gs others c))
        ≡ (if b then form_text (form_at fs c.locator) else looked_for c.locator ++ spare_text c.status (best_of fs loose c))
    by true is = ap form_text (form (Sound_from_is_sound c.status is))
    by false is = ap (λ (best : BestCopy). looked_for c.locator ++ spare_text c.status best) best

module _ (after other : Checked → List ℕ) where
  -- the same follows the status of a locator
  abbrev Agrees : Checked → Type 0
  Agrees c = other c ≡ after c

  numbered_agree : (n : ℕ) (cs : List Checked) → All Agrees cs →
      flat_map (λ p. numbered_line other p.0 p.1) (enumerate_from n cs) ≡ flat_map (λ p. numbered_line after p.0 p.1) (enumerate_from n cs)
  numbered_agree n [] same = refl
  numbered_agree n (c ∷ cs) same =
      ap₂ (λ (xs ys : List ℕ). (numbered_text n c ++ xs ++ 10 ∷ []) ++ ys) (All-head Agrees c cs same)
      (numbered_agree (n + 1) cs (All-tail Agrees c cs same))

  -- so the lines of all shards are the same
  pub text_agrees : (has : Bool) (retired : List ℕ) (lost hidden : ℕ) (bindings : List BindingValue) (shards : List Checked) →
      All Agrees shards → text_by other has retired lost hidden bindings shards ≡ text_by after has retired lost hidden bindings shards
  text_agrees has retired lost hidden bindings shards same =
      ap
      (λ (lines : BindingValue → List ℕ). if has then retired_line retired ++ runs_line lost hidden ++ flat_map lines bindings ++ total_line (length bindings) (length shards) else codes "no-superblock" ++ 10 ∷ [])
      (fun_ext (λ b. numbered_agree 0 (filter (λ c. is_owned_by b.id c.owner) shards) (All-filter (λ c. is_owned_by b.id c.owner) Agrees shards same)))
