-- What is known of the items of an extent, and of the extents, so far.
use Rattle.std.proofs.Common.{◌≡◌, ◌<◌, ◌≤◌, ◌+◌, ◌^◌, ◌++◌, ◌∷◌, [], ℕ, Bool, not, cond, List, Some, map, length, get_or, take, arith, refl, sym, ◌∙◌, ap, append_assoc, nat_lt}
use Rattle.std.specs.List.{filter, filter_map, sum_by, count_by}
use Rattle.std.specs.List.Sorted.{IsStrictlyIncreasing}
use Rattle.std.proofs.lemmas.List.{map-append, append-nil, length-map, get_or-map, take_more}
use Rattle.std.proofs.lemmas.List.Elements.{filter-append, filter_map-append}
use Rattle.std.proofs.lemmas.List.Sums.{sum_by-append, sum_by-cons, sum_by-take-le}
use Rattle.std.proofs.lemmas.Option.{same_Some}
use Rattle.list_facts.proofs.Counts.{sum_by-filter-le}
use Rattle.scrub_scan.specs.declared.item.Item.{Item}
use Rattle.scrub_scan.specs.declared.item.Item.TheVariants.{Chunk, Pad, Torn, Noise, Lost}
use Rattle.scrub_scan.specs.Item.{start_of}
use Rattle.scrub_check.specs.declared.lists.cursor.Cursor.{Cursor}
use Rattle.scrub_check.specs.declared.lists.kept_chunk.KeptChunk.{KeptChunk}
use Rattle.scrub_check.specs.declared.lists.place.Place.{Place}
use Rattle.scrub_check.specs.declared.places.chunk_at.ChunkAt.{ChunkAt}
use Rattle.scrub_check.specs.declared.lists.live_and_orphans.LiveChunks.{LiveChunks}
use Rattle.scrub_check.specs.Live.{size_of}
use Rattle.scrub_check.specs.Chunks.{place_of}
use Rattle.scrub_check.specs.steps.Places.{is_place}
use Rattle.scrub_check.specs.steps.SoundPlaces.{is_live_by, is_named_by}
use Rattle.scrub_check.specs.steps.LiveAndOrphans.{HasPassed, live_by, orphans_by, kept_of, AreLiveBy}
use Rattle.scrub_check.proofs.PartedPlaces.{passed_further}

-- a chunk is live or an orphan, by whether it is named
pub a_chunk : (starts : List ChunkAt) (e : ℕ) (item : Item) (chunk : Place) (named : Bool) → place_of e item ≡ Some chunk →
    named ≡ nat_lt 0 (count_by (is_place (record { extent = e; offset = start_of item })) starts) →
    (live_by starts e (item ∷ []) ≡ cond named (item ∷ []) []) × (orphans_by starts e (item ∷ []) ≡ cond (not named) (chunk ∷ []) [])
a_chunk starts e (Chunk f start stop u n digest) chunk named is known =
    let at : (let p : Place = record { extent = e; offset = start; length = n; uuid = u } in p) ≡ chunk = same_Some _ _ is in (
      ap (λ b. cond b (Chunk f start stop u n digest ∷ []) []) (sym known),
      ap (λ b. cond (not b) ((let p : Place = record { extent = e; offset = start; length = n; uuid = u } in p) ∷ []) [])
          (sym known)
          ∙ ap (λ p. cond (not named) (p ∷ []) []) at,
    )
a_chunk starts e (Pad start stop) chunk named is known = absurd (cc)
a_chunk starts e (Torn start stop) chunk named is known = absurd (cc)
a_chunk starts e (Noise start stop) chunk named is known = absurd (cc)
a_chunk starts e (Lost start stop) chunk named is known = absurd (cc)

-- one more item, which is live
pub live_more : (starts : List ChunkAt) (e : ℕ) (items : List Item) (item : Item) (old new : LiveChunks) →
    AreLiveBy starts e items old → live_by starts e (item ∷ []) ≡ item ∷ [] →
    new.bytes ≡ old.bytes + size_of item → new.kept.items ≡ old.kept.items ++ kept_of item ∷ [] →
    AreLiveBy starts e (items ++ item ∷ []) new
live_more starts e items item old new known live bytes kept =
    let grown : live_by starts e (items ++ item ∷ []) ≡ live_by starts e items ++ item ∷ [] =
    filter-append (is_live_by starts e) items (item ∷ []) ∙ ap (λ is. live_by starts e items ++ is) live in
    let both : sum_by size_of (live_by starts e items ++ item ∷ []) ≡ sum_by size_of (live_by starts e items) + sum_by size_of (item ∷ []) =
    sum_by-append size_of (live_by starts e items) (item ∷ []) in
    let one : sum_by size_of (item ∷ []) ≡ size_of item + sum_by size_of [] = sum_by-cons size_of item [] in
    let none : sum_by size_of [] ≡ 0 = refl in
    let size : new.bytes ≡ sum_by size_of (live_by starts e items ++ item ∷ []) =
    omega (arith, bytes, known.sizes, both, one, none) in
    record {
      sizes = size ∙ ap (sum_by size_of) (sym grown);
      kept =
          kept ∙ ap (λ ks. ks ++ kept_of item ∷ []) known.kept
          ∙ sym (map-append kept_of (live_by starts e items) (item ∷ [])) ∙ ap (map kept_of) (sym grown);
    }

-- and which isn't
pub other_more : (starts : List ChunkAt) (e : ℕ) (items : List Item) (item : Item) (old new : LiveChunks) →
    AreLiveBy starts e items old → live_by starts e (item ∷ []) ≡ [] →
    new.bytes ≡ old.bytes → new.kept.items ≡ old.kept.items → AreLiveBy starts e (items ++ item ∷ []) new
other_more starts e items item old new known live bytes kept =
    let grown : live_by starts e (items ++ item ∷ []) ≡ live_by starts e items =
    filter-append (is_live_by starts e) items (item ∷ []) ∙ ap (λ is. live_by starts e items ++ is) live
    ∙ append-nil (live_by starts e items) in
    record {
      sizes = bytes ∙ known.sizes ∙ ap (sum_by size_of) (sym grown);
      kept = kept ∙ known.kept ∙ ap (map kept_of) (sym grown);
    }

-- the bytes of the chunks to keep are the sizes of their items
kept_sizes : (items : List Item) → sum_by (λ (k : KeptChunk). k.bytes) (map kept_of items) ≡ sum_by size_of items
kept_sizes [] = refl
kept_sizes (i ∷ is) =
    sum_by-cons (λ (k : KeptChunk). k.bytes) (kept_of i) (map kept_of is)
    ∙ ap (λ (n : ℕ). size_of i + n) (kept_sizes is)
    ∙ sym (sum_by-cons size_of i is)

-- so the bytes of these chunks say what the live ones take
pub live_from_kept : (starts : List ChunkAt) (e : ℕ) (items : List Item) (live : LiveChunks) →
    live.bytes ≡ sum_by (λ (k : KeptChunk). k.bytes) live.kept.items → live.kept.items ≡ map kept_of (live_by starts e items) →
    AreLiveBy starts e items live
live_from_kept starts e items live bytes kept = record {
  sizes = bytes ∙ ap (sum_by (λ (k : KeptChunk). k.bytes)) kept ∙ kept_sizes (live_by starts e items);
  kept = kept;
}

-- and 32 bits count them, as they count what all items take
pub kept_fit : (starts : List ChunkAt) (e : ℕ) (items : List Item) (kept : List KeptChunk) →
    kept ≡ map kept_of (live_by starts e items) → sum_by size_of items < 2 ^ 32 →
    sum_by (λ (k : KeptChunk). k.bytes) kept < 2 ^ 32
kept_fit starts e items kept are few =
    let size : sum_by (λ (k : KeptChunk). k.bytes) kept ≡ sum_by size_of (live_by starts e items) =
    ap (sum_by (λ (k : KeptChunk). k.bytes)) are ∙ kept_sizes (live_by starts e items) in
    omega (arith, size, sum_by-filter-le size_of (is_live_by starts e) items, few)

-- the next item's bytes fit, as those of all items do
pub fits_next : (starts : List ChunkAt) (e : ℕ) (items : List Item) (i : ℕ) (d item : Item) (live : LiveChunks) →
    i < length items → item ≡ get_or items i d → AreLiveBy starts e (take i items) live →
    sum_by size_of items < 2 ^ 32 → live.bytes + size_of item < 2 ^ 32
fits_next starts e items i d item live inside is known few =
    let next : sum_by size_of (take (i + 1) items) ≡ sum_by size_of (take i items ++ get_or items i d ∷ []) =
    ap (sum_by size_of) (take_more items i d inside) in
    let both : sum_by size_of (take i items ++ get_or items i d ∷ []) ≡ sum_by size_of (take i items) + sum_by size_of (get_or items i d ∷ []) =
    sum_by-append size_of (take i items) (get_or items i d ∷ []) in
    let one : sum_by size_of (get_or items i d ∷ []) ≡ size_of (get_or items i d) + sum_by size_of [] =
    sum_by-cons size_of (get_or items i d) [] in
    let all : sum_by size_of (take (i + 1) items) ≤ sum_by size_of items = sum_by-take-le size_of items (i + 1) in
    let kept : sum_by size_of (live_by starts e (take i items)) ≤ sum_by size_of (take i items) =
    sum_by-filter-le size_of (is_live_by starts e) (take i items) in
    let size : size_of item ≡ size_of (get_or items i d) = ap size_of is in
    omega (arith, next, both, one, all, kept, size, known.sizes, few)

-- a cursor has passed none from the i-th of these items on, or after them all
pub record HasPassedTo (c : Cursor) (e : ℕ) (items : List Item) (i : ℕ) : Type 0 where
  pub next : i < length items → HasPassed c e (get_or (map start_of items) i 0)
  pub end : HasPassed c (e + 1) 0

-- before the first item
pub passed_first : (c : Cursor) (e : ℕ) (items : List Item) → HasPassed c e 0 → HasPassedTo c e items 0
passed_first c e items h = record {
  next = λ inside. passed_further c e 0 e (get_or (map start_of items) 0 0) h (omega arith) (λ same. omega arith);
  end = passed_further c e 0 (e + 1) 0 h (omega arith) (λ same. omega arith);
}

-- and behind the i-th one
pub passed_next : (c : Cursor) (e : ℕ) (items : List Item) (i : ℕ) (d item : Item) → IsStrictlyIncreasing (map start_of items) →
    i < length items → item ≡ get_or items i d →
    HasPassed c e (start_of item) → HasPassedTo c e items (i + 1)
passed_next c e items i d item rising inside is h =
    let at : get_or (map start_of items) i 0 ≡ start_of (get_or items i d) = get_or-map start_of items i d 0 inside in
    let here : start_of item ≡ start_of (get_or items i d) = ap start_of is in
    record {
      next = λ more.
          let up : get_or (map start_of items) i 0 < get_or (map start_of items) (i + 1) 0 =
          rising i (omega (arith, more, length-map items start_of)) in
          passed_further c e (start_of item) e (get_or (map start_of items) (i + 1) 0) h (omega arith)
          (λ same. omega (arith, up, at, here));
      end = passed_further c e (start_of item) (e + 1) 0 h (omega arith) (λ same. absurd (omega (arith, same)));
    }

-- what the next item asks for isn't passed
pub passed_at : (c : Cursor) (e : ℕ) (items : List Item) (i : ℕ) (d item : Item) → i < length items → item ≡ get_or items i d →
    HasPassedTo c e items i → HasPassed c e (start_of item)
passed_at c e items i d item inside is h =
    let at : get_or (map start_of items) i 0 ≡ start_of (get_or items i d) = get_or-map start_of items i d 0 inside in
    let here : start_of item ≡ start_of (get_or items i d) = ap start_of is in
    passed_further c e (get_or (map start_of items) i 0) e (start_of item) (h.next inside) (omega arith)
    (λ same. omega (arith, at, here))

-- the orphans of one more item
pub orphans_more : (starts : List ChunkAt) (e : ℕ) (items : List Item) (i : ℕ) (d item : Item) (first old new : List Place) →
    i < length items → item ≡ get_or items i d →
    old ≡ first ++ orphans_by starts e (take i items) → new ≡ old ++ orphans_by starts e (item ∷ []) →
    new ≡ first ++ orphans_by starts e (take (i + 1) items)
orphans_more starts e items i d item first old new inside is so_far grown =
    let keep : Place → Bool = λ p. not (is_named_by starts p) in
    let whole : orphans_by starts e (take (i + 1) items) ≡ orphans_by starts e (take i items) ++ orphans_by starts e (item ∷ []) =
    ap (orphans_by starts e) (take_more items i d inside ∙ ap (λ (x : Item). take i items ++ x ∷ []) (sym is))
    ∙ ap (filter keep) (filter_map-append (place_of e) (take i items) (item ∷ []))
    ∙ filter-append keep (filter_map (place_of e) (take i items)) (filter_map (place_of e) (item ∷ [])) in
    grown
    ∙ ap (λ ps. ps ++ orphans_by starts e (item ∷ [])) so_far
    ∙ append_assoc first (orphans_by starts e (take i items)) (orphans_by starts e (item ∷ []))
    ∙ ap (λ ps. first ++ ps) (sym whole)

-- and its live chunks
pub live_next : (starts : List ChunkAt) (e : ℕ) (items : List Item) (i : ℕ) (d item : Item) (live : LiveChunks) →
    i < length items → item ≡ get_or items i d →
    AreLiveBy starts e (take i items ++ item ∷ []) live → AreLiveBy starts e (take (i + 1) items) live
live_next starts e items i d item live inside is known =
    let same : take i items ++ item ∷ [] ≡ take (i + 1) items =
    sym (take_more items i d inside ∙ ap (λ (x : Item). take i items ++ x ∷ []) (sym is)) in
    rw same at known
