-- The chunks that were found on a disk stand in its image.
use Rattle.std.proofs.Common.{◌≡◌, ◌<◌, ◌≤◌, ◌∷◌, [], ℕ, List, Option, Some, None, refl, sym, ◌∙◌, subst}
use Rattle.std.specs.List.{All, cons_option, filter_map}
use Rattle.std.proofs.lemmas.List.Elements.{All-append, All-cons, All-head, All-nil, All-tail}
use Rattle.std.proofs.lemmas.Option.{same_Some}
use Rattle.scrub_disk.specs.Image.{Image}
use Rattle.scrub_super.specs.Plan.{PlanValue}
use Rattle.scrub_super.specs.Planned.{ArePlanned, extents_in_use}
use Rattle.scrub_super.proofs.Plans.{in_use_planned}
use Rattle.scrub_scan.specs.declared.item.Item.{Item}
use Rattle.scrub_scan.specs.declared.item.Item.TheVariants.{Chunk, Pad, Torn, Noise, Lost}
use Rattle.scrub_scan.specs.declared.standing.Standing.{Standing}
use Rattle.scrub_scan.specs.AllFindings.{HaveFindings, extent_numbers}
use Rattle.scrub_scan.specs.Extent.{extent_of}
use Rattle.scrub_scan.specs.Findings.{IsFindings}
use Rattle.scrub_scan.specs.Item.{IsItem}
use Rattle.scrub_scan.specs.Scanned.{Scanned}
use Rattle.scrub_scan.specs.Standing.{Stands}
use Rattle.scrub_check.specs.Spares.{frame_of_item, frames, frames_in}
use Rattle.scrub_check.specs.WholeScan.{IsWholeScan}
use Rattle.scrub_check.proofs.Payloads.{within}

-- a frame stands in the image, in another extent than extent 0
abbrev pub StandsPastZero : Image → Standing → Type 0
StandsPastZero image s = Stands image s × (1 ≤ s.extent)

-- a chunk of an extent's tiling does
item_stands : (image : Image) (e w : ℕ) (item : Item) (s : Standing) → 1 ≤ e → e < image.geometry.extents →
    IsItem (extent_of image e w) item → frame_of_item e item ≡ Some s → StandsPastZero image s
item_stands image e w (Chunk f start stop u n digest) s some below is found =
    let payload = is.fits.0 in
    subst (λ (t : Standing). StandsPastZero image t) (same_Some _ s found) (
      record {
        payload = payload;
        has = record {
          in_disk = below;
          frame = record {
            frame = within image e w start f u payload is.fits.1;
            length = is.fits.3;
            digest = is.fits.4;
          };
        };
      },
      some,
    )
item_stands image e w (Pad start stop) s some below is found = cc
item_stands image e w (Torn start stop) s some below is found = cc
item_stands image e w (Noise start stop) s some below is found = cc
item_stands image e w (Lost start stop) s some below is found = cc

items_stand : (image : Image) (e w : ℕ) (items : List Item) → 1 ≤ e → e < image.geometry.extents →
    All (IsItem (extent_of image e w)) items → All (StandsPastZero image) (filter_map (frame_of_item e) items)
items_stand image e w [] some below each = All-nil (StandsPastZero image)
items_stand image e w (item ∷ items) some below each =
    by (items_stand image e w items some below (All-tail (IsItem (extent_of image e w)) item items each)) (frame_of_item e item) refl
  where
    by : All (StandsPastZero image) (filter_map (frame_of_item e) items) → (o : Option Standing) → frame_of_item e item ≡ o →
        All (StandsPastZero image) (cons_option o (filter_map (frame_of_item e) items))
    by rest None is = rest
    by rest (Some s) is =
        All-cons (StandsPastZero image) s (filter_map (frame_of_item e) items)
        (item_stands image e w item s some below (All-head (IsItem (extent_of image e w)) item items each) is) rest

all_stand : (image : Image) (all : List Scanned) → All (λ (n : ℕ). 1 ≤ n) (extent_numbers all) →
    All (λ (n : ℕ). n < image.geometry.extents) (extent_numbers all) → HaveFindings image all → All (StandsPastZero image) (frames all)
all_stand image [] some below found = All-nil (StandsPastZero image)
all_stand image (f ∷ fs) some below found =
    All-append (StandsPastZero image) (frames_in f) (frames fs)
    (items_stand image f.extent f.pointer f.findings.items
    (All-head (λ (n : ℕ). 1 ≤ n) f.extent (extent_numbers fs) some)
    (All-head (λ (n : ℕ). n < image.geometry.extents) f.extent (extent_numbers fs) below)
    (All-head (λ (g : Scanned). IsFindings image g.extent g.pointer g.findings) f fs found).tiled.each)
    (all_stand image fs (All-tail (λ (n : ℕ). 1 ≤ n) f.extent (extent_numbers fs) some)
    (All-tail (λ (n : ℕ). n < image.geometry.extents) f.extent (extent_numbers fs) below)
    (All-tail (λ (g : Scanned). IsFindings image g.extent g.pointer g.findings) f fs found))

-- All chunks of a whole scan stand in the image, in other extents than extent 0.
pub frames_there : (image : Image) (plan : PlanValue) (all : List Scanned) → IsWholeScan image plan all → All (StandsPastZero image) (frames all)
frames_there image plan all whole =
    all_stand image all (along (λ n. 1 ≤ n) planned.from_one) (along (λ n. n < image.geometry.extents) planned.below) whole.findings.findings
  where
    planned : ArePlanned image.geometry.extents (extents_in_use image.geometry.extents plan.retired)
    planned = in_use_planned image.geometry.extents plan.retired

    along : (P : ℕ → Type 0) → All P (extents_in_use image.geometry.extents plan.retired) → All P (extent_numbers all)
    along P each = subst (λ (ns : List ℕ). All P ns) (sym (whole.findings.extents ∙ whole.planned)) each

pub frames_stand : (image : Image) (plan : PlanValue) (all : List Scanned) → IsWholeScan image plan all → All (Stands image) (frames all)
frames_stand image plan all whole i d below = (frames_there image plan all whole i d below).0
