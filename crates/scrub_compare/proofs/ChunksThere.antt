-- The chunks of a scan are frames that are there, in extents in use.
use Rattle.std.proofs.Common.{◌≡◌, ◌<◌, ◌∷◌, [], ℕ, List, Option, Some, None, refl, sym, subst}
use Rattle.std.specs.List.{All, Contains, cons_option, filter_map}
use Rattle.std.proofs.lemmas.List.Elements.{All-append, All-cons, All-contains_itself, All-head, All-nil, All-tail}
use Rattle.std.proofs.lemmas.Option.{same_Some}
use Rattle.scrub_disk.specs.Image.{Image}
use Rattle.scrub_super.specs.Plan.{PlanValue}
use Rattle.scrub_super.proofs.Plans.{in_use_planned}
use Rattle.scrub_scan.specs.declared.item.Item.{Item}
use Rattle.scrub_scan.specs.declared.item.Item.TheVariants.{Chunk, Pad, Torn, Noise, Lost}
use Rattle.scrub_scan.specs.declared.standing.Standing.{Standing}
use Rattle.scrub_scan.specs.AllFindings.{extent_numbers}
use Rattle.scrub_scan.specs.Extent.{extent_of}
use Rattle.scrub_scan.specs.Findings.{IsFindings}
use Rattle.scrub_scan.specs.Item.{IsItem}
use Rattle.scrub_scan.specs.Scanned.{Scanned}
use Rattle.scrub_scan.specs.Standing.{Stands}
use Rattle.scrub_check.specs.Spares.{frame_of_item, frames, frames_in}
use Rattle.scrub_check.specs.WholeScan.{IsWholeScan}
use Rattle.scrub_check.proofs.Payloads.{within}

-- the frame is there, in an extent with a number among these
pub record IsThereIn (image : Image) (numbers : List ℕ) (s : Standing) : Type 0 where
  pub number : Contains numbers s.extent
  pub stands : Stands image s

-- a chunk of an extent's tiling is there
item_there : (image : Image) (numbers : List ℕ) (e w : ℕ) (item : Item) (s : Standing) → Contains numbers e → e < image.geometry.extents →
    IsItem (extent_of image e w) item → frame_of_item e item ≡ Some s → IsThereIn image numbers s
item_there image numbers e w (Chunk f start stop u n digest) s among below is found =
    let payload = is.fits.0 in
    subst (IsThereIn image numbers) (same_Some _ s found) (record {
      number = among;
      stands = record {
        payload = payload;
        has = record {
          in_disk = below;
          frame = record {
            frame = within image e w start f u payload is.fits.1;
            length = is.fits.3;
            digest = is.fits.4;
          };
        };
      };
    })
item_there image numbers e w (Pad start stop) s among below is found = cc
item_there image numbers e w (Torn start stop) s among below is found = cc
item_there image numbers e w (Noise start stop) s among below is found = cc
item_there image numbers e w (Lost start stop) s among below is found = cc

items_there : (image : Image) (numbers : List ℕ) (e w : ℕ) (items : List Item) → Contains numbers e → e < image.geometry.extents →
    All (IsItem (extent_of image e w)) items → All (IsThereIn image numbers) (filter_map (frame_of_item e) items)
items_there image numbers e w [] among below each = All-nil (IsThereIn image numbers)
items_there image numbers e w (item ∷ items) among below each =
    by (items_there image numbers e w items among below (All-tail (IsItem (extent_of image e w)) item items each)) (frame_of_item e item) refl
  where
    by : All (IsThereIn image numbers) (filter_map (frame_of_item e) items) → (o : Option Standing) → frame_of_item e item ≡ o →
        All (IsThereIn image numbers) (cons_option o (filter_map (frame_of_item e) items))
    by rest None is = rest
    by rest (Some s) is =
        All-cons (IsThereIn image numbers) s (filter_map (frame_of_item e) items)
        (item_there image numbers e w item s among below (All-head (IsItem (extent_of image e w)) item items each) is) rest

all_there : (image : Image) (numbers : List ℕ) (all : List Scanned) → All (λ (n : ℕ). Contains numbers n × (n < image.geometry.extents)) (extent_numbers all) →
    All (λ (f : Scanned). IsFindings image f.extent f.pointer f.findings) all → All (IsThereIn image numbers) (frames all)
all_there image numbers [] known found = All-nil (IsThereIn image numbers)
all_there image numbers (f ∷ fs) known found =
    let P : ℕ → Type 0 = λ n. Contains numbers n × (n < image.geometry.extents) in
    let Q : Scanned → Type 0 = λ g. IsFindings image g.extent g.pointer g.findings in
    let own = All-head P f.extent (extent_numbers fs) known in
    All-append (IsThereIn image numbers) (frames_in f) (frames fs)
    (items_there image numbers f.extent f.pointer f.findings.items own.0 own.1 (All-head Q f fs found).tiled.each)
    (all_there image numbers fs (All-tail P f.extent (extent_numbers fs) known) (All-tail Q f fs found))

-- Each chunk of a whole scan is there, in an extent in use.
pub chunks_there : (image : Image) (plan : PlanValue) (all : List Scanned) → IsWholeScan image plan all →
    All (IsThereIn image plan.planned) (frames all)
chunks_there image plan all whole =
    all_there image plan.planned all
    (subst (λ (ns : List ℕ). All (λ (n : ℕ). Contains plan.planned n × (n < image.geometry.extents)) ns) (sym whole.findings.extents)
    (λ i d below. (All-contains_itself plan.planned i d below, in_range i d below)))
    whole.findings.findings
  where
    in_range : All (λ (n : ℕ). n < image.geometry.extents) plan.planned
    in_range =
        subst (λ (ns : List ℕ). All (λ (n : ℕ). n < image.geometry.extents) ns) (sym whole.planned)
        (in_use_planned image.geometry.extents plan.retired).below
