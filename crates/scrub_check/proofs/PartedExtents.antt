-- What is known of the extents, one after the other.
use Rattle.std.proofs.Common.{◌≡◌, ◌++◌, ◌∷◌, [], ℕ, Bool, not, List, Option, Some, None, map, arith, refl, sym, ◌∙◌, ap}
use Rattle.std.specs.List.{filter, filter_map, sum_by}
use Rattle.std.specs.List.Sorted.{IsStrictlyIncreasing}
use Rattle.std.proofs.lemmas.List.{map-append, append-nil}
use Rattle.std.proofs.lemmas.List.Elements.{filter-append}
use Rattle.std.proofs.lemmas.Grind.{flat_map-append}
use Rattle.scrub_disk.specs.declared.geometry.Geometry.{Geometry}
use Rattle.scrub_disk.specs.Image.{Image}
use Rattle.scrub_scan.specs.declared.item.Item.{Item}
use Rattle.scrub_scan.specs.declared.findings.Findings.{Findings}
use Rattle.scrub_scan.specs.Extent.{extent_of}
use Rattle.scrub_scan.specs.Findings.{IsFindings}
use Rattle.scrub_scan.specs.Item.{start_of}
use Rattle.scrub_scan.specs.Scanned.{Scanned}
use Rattle.scrub_check.specs.declared.statuses.checked.Checked.{Checked}
use Rattle.scrub_check.specs.declared.lists.place.Place.{Place}
use Rattle.scrub_check.specs.declared.places.chunk_at.ChunkAt.{ChunkAt}
use Rattle.scrub_check.specs.declared.lists.live_and_orphans.LiveChunks.{LiveChunks}
use Rattle.scrub_check.specs.declared.lists.live_and_orphans.LiveAndOrphans.{LiveAndOrphans}
use Rattle.scrub_check.specs.Live.{size_of, live_bytes, has_sound_at}
use Rattle.scrub_check.specs.Chunks.{place_of, chunks, orphans}
use Rattle.scrub_check.specs.Candidates.{is_reclaimable, candidate_of}
use Rattle.scrub_check.specs.steps.LocatorIndex.{reclaimable, reclaimable_by}
use Rattle.scrub_check.specs.steps.SoundPlaces.{AreSoundPlaces}
use Rattle.scrub_check.specs.steps.LiveAndOrphans.{kept_of, orphans_by, AreLiveBy, AreLiveChunks, AreLiveAndOrphans}
use Rattle.scrub_check.proofs.Reclaimable.{parted_of_live}
use Rattle.scrub_check.proofs.SortedPlaces.{orphans_found}
use Rattle.scrub_check.proofs.Starts.{starts_rise}

-- the items that findings show ascend
pub starts_found : (image : Image) (e w : ℕ) (found : Findings) (items : List Item) → IsFindings image e w found →
    items ≡ found.items → IsStrictlyIncreasing (map start_of items)
starts_found image e w found items h shown =
    rw shown (starts_rise (extent_of image e w) found.items (omega (arith, image.geometry.page_least)) h.tiled)

-- the live chunks of an extent, by its items
pub live_of_extent : (checked : List Checked) (starts : List ChunkAt) (f : Scanned) (e : ℕ) (items : List Item) (live : LiveChunks) →
    AreSoundPlaces checked starts → e ≡ f.extent → items ≡ f.findings.items →
    AreLiveBy starts e items live → AreLiveChunks checked f live
live_of_extent checked starts f e items live are number its h = record {
  sizes = parted_of_live (sum_by size_of) live.bytes checked starts e f.extent items f.findings.items are number its h.sizes;
  kept =
      parted_of_live (map kept_of) live.kept.items checked starts e f.extent items f.findings.items are number its h.kept;
}

-- the places of the chunks of one extent, in the order of its items
abbrev chunks_in : Scanned → List Place
chunks_in f = filter_map (place_of f.extent) f.findings.items

-- the orphans of one more extent
orphans_grown : (checked : List Checked) (starts : List ChunkAt) (fs : List Scanned) (f : Scanned) (e : ℕ) (items : List Item) →
    AreSoundPlaces checked starts → e ≡ f.extent → items ≡ f.findings.items →
    orphans fs checked ++ orphans_by starts e items ≡ orphans (fs ++ f ∷ []) checked
orphans_grown checked starts fs f e items are number its =
    let left : Place → Bool = λ p. not (has_sound_at checked p.extent p.offset) in
    let there : filter_map (place_of e) items ≡ chunks_in f =
    ap (λ n. filter_map (place_of n) items) number ∙ ap (filter_map (place_of f.extent)) its in
    let all : chunks fs ++ chunks_in f ≡ chunks (fs ++ f ∷ []) =
    ap (λ ps. chunks fs ++ ps) (sym (append-nil (chunks_in f))) ∙ sym (flat_map-append chunks_in fs (f ∷ [])) in
    ap (λ ps. orphans fs checked ++ ps)
    (orphans_found checked starts (filter_map (place_of e) items) are ∙ ap (filter left) there)
    ∙ sym (filter-append left (chunks fs) (chunks_in f))
    ∙ ap (filter left) all

-- of no extents none may be reclaimed
pub none_reclaimable : (g : Option Geometry) (checked : List Checked) → [] ≡ reclaimable_by g [] checked
none_reclaimable None checked = refl
none_reclaimable (Some g) checked = refl

-- those of some extents that may be reclaimed, and then those of others
pub reclaimable_parts : (g : Geometry) (checked : List Checked) (fs gs : List Scanned) →
    reclaimable g fs checked ++ reclaimable g gs checked ≡ reclaimable g (fs ++ gs) checked
reclaimable_parts g checked fs gs =
    sym (map-append (candidate_of checked) (filter (is_reclaimable g checked) fs) (filter (is_reclaimable g checked) gs))
    ∙ ap (map (candidate_of checked)) (sym (filter-append (is_reclaimable g checked) fs gs))

-- those of them that may be reclaimed, if that is asked for
reclaimable_more : (g : Option Geometry) (checked : List Checked) (fs : List Scanned) (f : Scanned) →
    reclaimable_by g fs checked ++ reclaimable_by g (f ∷ []) checked ≡ reclaimable_by g (fs ++ f ∷ []) checked
reclaimable_more None checked fs f = refl
reclaimable_more (Some g) checked fs f =
    reclaimable_parts g checked fs (f ∷ [])

-- what is known of one more extent
pub parted_more : (g : Option Geometry) (checked : List Checked) (starts : List ChunkAt) (fs : List Scanned) (f : Scanned) (e : ℕ) (items : List Item) (live : LiveChunks) (old new : LiveAndOrphans) →
    AreSoundPlaces checked starts → AreLiveAndOrphans g checked fs old → e ≡ f.extent → items ≡ f.findings.items →
    AreLiveChunks checked f live →
    new.live.items ≡ old.live.items ++ live.bytes ∷ [] → new.orphans.items ≡ old.orphans.items ++ orphans_by starts e items →
    new.reclaimable.items ≡ old.reclaimable.items ++ reclaimable_by g (f ∷ []) checked →
    AreLiveAndOrphans g checked (fs ++ f ∷ []) new
parted_more g checked starts fs f e items live old new are known number its chunk sizes garbage candidates = record {
  sizes =
      sizes
      ∙ ap (λ ns. ns ++ live.bytes ∷ []) known.sizes
      ∙ ap (λ n. map (live_bytes checked) fs ++ n ∷ []) chunk.sizes
      ∙ sym (map-append (live_bytes checked) fs (f ∷ []));
  garbage =
      garbage ∙ ap (λ ps. ps ++ orphans_by starts e items) known.garbage
      ∙ orphans_grown checked starts fs f e items are number its;
  candidates =
      candidates
      ∙ ap (λ cs. cs ++ reclaimable_by g (f ∷ []) checked) known.candidates
      ∙ reclaimable_more g checked fs f;
}
