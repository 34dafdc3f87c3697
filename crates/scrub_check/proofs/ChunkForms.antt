-- The search for the item at a place, and for the extent that it is in.
use Rattle.std.proofs.Common.{◌≡◌, ◌<◌, ◌==◌, ℕ, List, length, get_or, map, arith, refl, sym, ◌∙◌, ap, Some, None, Option, option_map, MatchOption, []}
use Rattle.std.specs.List.{find, Contains}
use Rattle.std.specs.List.Sorted.{IsStrictlyIncreasing}
use Rattle.std.specs.Option.{option_and_then}
use Rattle.std.specs.Prelude.{slice_index}
use Rattle.std.proofs.lemmas.Option.{none-some, same_Some}
use Rattle.std.proofs.lemmas.List.{get_or-map}
use Rattle.std.proofs.lemmas.List.Elements.{All-contains}
use Rattle.list_facts.proofs.Searches.{find_none, find_paired, find_passes, pairs_rise}
use Rattle.scrub_disk.specs.Image.{Image}
use Rattle.scrub_frame.specs.declared.form.Form.{Form}
use Rattle.scrub_frame.specs.declared.locator.Locator.{Locator}
use Rattle.scrub_scan.specs.declared.findings.Findings.{Findings}
use Rattle.scrub_scan.specs.declared.item.Item.{Item}
use Rattle.scrub_scan.specs.AllFindings.{AreScannedBy, HaveFindings, ScannedDisk, entry_of, extent_numbers, findings_in}
use Rattle.scrub_scan.specs.Findings.{IsFindings}
use Rattle.scrub_scan.specs.Item.{start_of}
use Rattle.scrub_scan.specs.Scanned.{Scanned}
use Rattle.scrub_check.specs.ChunkForms.{form_at, form_of}
use Rattle.scrub_check.proofs.PartedExtents.{starts_found}

-- ---- among items

-- the item whose start is looked for is the first with that start
pub item_found : (items : List Item) (p i : ℕ) (item : Item) → IsStrictlyIncreasing (map start_of items) → i < length items →
    slice_index (map start_of items) i ≡ p → item ≡ get_or items i item →
    find (λ one. start_of one == p) items ≡ Some item
item_found items p i item rising below is there =
    let here : start_of (get_or items i item) ≡ p =
    sym (get_or-map start_of items i item 0 below) ∙ is in
    ap (λ q. find (λ one. start_of one == q) items) (sym here)
    ∙ find_paired start_of items (pairs_rise start_of items rising) i item below
    ∙ ap Some (sym there)

-- if none begins there, none is found
pub no_item : (items : List Item) (p : ℕ) → ¬ Contains (map start_of items) p → None ≡ option_and_then form_of (find (λ one. start_of one == p) items)
no_item items p none = ap (option_and_then form_of) (sym (find_none start_of items p none))

-- ---- in an extent

module _ (all : List Scanned) (l : Locator) where
  -- the form by the findings of the extent
  pub form_by_findings : (found : Findings) (r : Option Form) → findings_in all l.extent ≡ Some found →
      r ≡ option_and_then form_of (find (λ item. start_of item == l.offset) found.items) → r ≡ form_at all l
  form_by_findings found r is made = made ∙ by (entry_of all l.extent) is
    where
      by : (o : Option Scanned) → option_map (λ f. f.findings) o ≡ Some found →
          option_and_then form_of (find (λ item. start_of item == l.offset) found.items)
          ≡ option_and_then form_of (option_and_then (λ f. find (λ item. start_of item == l.offset) f.findings.items) o)
      by None e = absurd (none-some found e)
      by (Some f) e =
          ap (λ (x : Findings). option_and_then form_of (find (λ item. start_of item == l.offset) x.items)) (sym (same_Some f.findings found e))

  -- an extent that wasn't scanned has none
  pub no_form : ¬ Contains (extent_numbers all) l.extent → None ≡ form_at all l
  no_form none =
      ap (λ (o : Option Scanned). option_and_then form_of (option_and_then (λ f. find (λ item. start_of item == l.offset) f.findings.items) o))
      (sym (find_none (λ f. f.extent) all l.extent none))

-- the items that were found in an extent ascend
pub items_rise : {D : Type 0} (image_of : D → Image) (all : ScannedDisk D) (e : ℕ) (found : Findings) (items : List Item) →
    AreScannedBy image_of all → findings_in all.extents e ≡ Some found → items ≡ found.items →
    IsStrictlyIncreasing (map start_of items)
items_rise {D} image_of all e found items are is shown = by (entry_of all.extents e) refl is
  where
    of : (f : Scanned) → Contains all.extents f → f.findings ≡ found → (o : Option D) →
        MatchOption o (all.extents ≡ []) (λ s. HaveFindings (image_of s) all.extents) → IsStrictlyIncreasing (map start_of items)
    of f there same None none = absurd (omega (arith, there.1, ap (λ (fs : List Scanned). length fs) none))
    of f there same (Some s) each =
        starts_found (image_of s) f.extent f.pointer f.findings items
        (All-contains (λ (g : Scanned). IsFindings (image_of s) g.extent g.pointer g.findings) all.extents f each there)
        (shown ∙ ap (λ (x : Findings). x.items) (sym same))

    by : (o : Option Scanned) → entry_of all.extents e ≡ o → option_map (λ f. f.findings) o ≡ Some found →
        IsStrictlyIncreasing (map start_of items)
    by None h k = absurd (none-some found k)
    by (Some f) h k =
        of f (find_passes (λ g. g.extent == e) all.extents f h).1 (same_Some f.findings found k) all.source are.findings
