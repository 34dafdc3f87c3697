-- What is written after chunks and zeros, at the place for the next frame and after it, leaves each chunk an item, and whole
-- frames there, one directly after the other, are items too.
use Rattle.std.proofs.Common.{◌≡◌, ◌⊎◌, ◌≢◌, ◌<◌, ◌≤◌, ◌+◌, ◌*◌, ◌/◌, ◌%◌, ◌==◌, ◌||◌, ℕ, min, Bool, true, false, Option, Some, List, [], ◌∷◌, length, map, arith, refl, sym, ◌∙◌, ap, subst, inl, inr, if◌then◌else◌}
use Rattle.std.specs.List.{All, Contains, find}
use Rattle.std.proofs.Math.Nat.{mod-lt, mul-le-mul_right}
use Rattle.std.proofs.lemmas.Bool.{cases_lt, eq-eqb, eqb-true, false≢true}
use Rattle.std.proofs.lemmas.List.Elements.{All-contains, All-head, All-tail}
use Rattle.std.proofs.lemmas.Nat.{div-add-mod'}
use Rattle.sha2.specs.Sha256.{sha256}
use Rattle.list_facts.proofs.Elements.{Contains-behind, Contains-cases}
use Rattle.scrub_frame.specs.declared.form.Form.{Form}
use Rattle.scrub_frame.specs.declared.form.Form.TheVariants.{Plain, Sealed}
use Rattle.scrub_frame.specs.Frame.{frame_overhead}
use Rattle.scrub_frame.proofs.Frames.{length-frame}
use Rattle.scrub_scan.specs.declared.item.Item.{Item}
use Rattle.scrub_scan.specs.declared.item.Item.TheVariants.{Chunk, Pad, Torn, Noise, Lost}
use Rattle.scrub_scan.specs.Extent.{Extent, FrameAt, NoFrameAt, bound_above}
use Rattle.scrub_scan.specs.Item.{start_of, stop_of, IsItem}
use Rattle.scrub_scan.specs.Tiling.{Joins, IsTiling}
use Rattle.scrub_scan.proofs.FrameBytes.{first_byte}
use Rattle.scrub_scan.proofs.Tilings.{advances, one_item}
use Rattle.scrub_check.specs.Live.{is_chunk}
use Rattle.scrub_found.specs.Scrubbed.{is_clean_item}
use Rattle.scrub_reclaim.specs.Copy.{AreChunksFrom, AreFramesFrom, WholeFrame, size_in}
use Rattle.scrub_reclaim.specs.Room.{ends_in_chunk, next_place}

-- ---- page bounds

-- the page bound above a place is that above the pointer, or the pointer if that is at a bound
module _ (page p w : ℕ) (pos : 0 < page) (below : p < w) (within : w ≤ (p / page + 1) * page) where
  rest_of_w : w % page < page
  rest_of_w = mod-lt w pos

  not_later : p / page ≤ w / page
  not_later = elim (cases_lt (w / page) (p / page)) [
    | inl less ↦
        let steps : (w / page + 1) * page ≤ p / page * page = mul-le-mul_right page (omega (arith, less)) in
        let split : (w / page + 1) * page ≡ w / page * page + page = omega arith in
        absurd (omega (arith, steps, split, div-add-mod' p page, div-add-mod' w page, rest_of_w))
    | inr le ↦ le
  ]

  at_bound : w % page ≡ 0 → (p / page + 1) * page ≡ w
  at_bound none =
      let split : (p / page + 1) * page ≡ p / page * page + page = omega arith in
      let later : p / page < w / page =
      elim (cases_lt (p / page) (w / page)) [
        | inl less ↦ less
        | inr le ↦
            let steps : w / page * page ≤ p / page * page = mul-le-mul_right page le in
            absurd (omega (arith, steps, none, div-add-mod' p page, div-add-mod' w page))
      ] in
      let steps : (p / page + 1) * page ≤ w / page * page = mul-le-mul_right page (omega (arith, later)) in
      omega (arith, steps, none, within, div-add-mod' w page)

  in_page : w % page ≢ 0 → (p / page + 1) * page ≡ (w / page + 1) * page
  in_page some = ap (λ n. (n + 1) * page) same
    where
      same : p / page ≡ w / page
      same = elim (cases_lt (p / page) (w / page)) [
        | inl less ↦
            let steps : (p / page + 1) * page ≤ w / page * page = mul-le-mul_right page (omega (arith, less)) in
            absurd (some (omega (arith, steps, within, div-add-mod' w page)))
        | inr le ↦ omega (arith, le, not_later)
      ]

-- ---- the place

-- the place isn't below the pointer
pub place_above : (page w : ℕ) (items : List Item) → 0 < page → w ≤ next_place page w items
place_above page w items pos = by ((w % page == 0) || ends_in_chunk items)
  where
    by : (t : Bool) → w ≤ (if t then w else (w / page + 1) * page)
    by true = omega arith
    by false =
        let split : (w / page + 1) * page ≡ w / page * page + page = omega arith in
        omega (arith, split, div-add-mod' w page, mod-lt w pos)

-- after a chunk, and at a page bound, it is the pointer
behind_chunk : (t : Bool) (w n : ℕ) → (if t || true then w else n) ≡ w
behind_chunk true w n = refl
behind_chunk false w n = refl

at_pointer : (page w n : ℕ) (e : Bool) → w % page ≡ 0 → (if (w % page == 0) || e then w else n) ≡ w
at_pointer page w n e none = ap (λ t. if t || e then w else n) (eq-eqb (w % page) 0 none)

-- after anything else it is the page bound above
past_other : (page p w : ℕ) → 0 < page → p < w → w ≤ (p / page + 1) * page →
    (if (w % page == 0) || false then w else (w / page + 1) * page) ≡ (p / page + 1) * page
past_other page p w pos below within = by (w % page == 0) refl
  where
    by : (t : Bool) → (w % page == 0) ≡ t → (if t || false then w else (w / page + 1) * page) ≡ (p / page + 1) * page
    by true is = sym (at_bound page p w pos below within (eqb-true (w % page) 0 is))
    by false is = sym (in_page page p w pos below within (λ none. false≢true (sym is ∙ eq-eqb (w % page) 0 none)))

-- ---- frames and items

overhead_some : (f : Form) → 0 < frame_overhead f
overhead_some Plain = omega arith
overhead_some Sealed = omega arith

-- a frame as an item
abbrev pub chunk_of : ℕ → Form → List ℕ → List ℕ → Item
chunk_of p f u b = Chunk f p (p + (length b + frame_overhead f)) u (length b) (sha256 b)

-- A frame in an extent fits there as a chunk.
pub chunk_is_item : (x : Extent) (p : ℕ) (f : Form) (u b : List ℕ) → FrameAt x p f u b → IsItem x (chunk_of p f u b)
chunk_is_item x p f u b placed = record {
  below = omega (arith, placed.fits, overhead_some f);
  fits = (b, placed, omega arith, refl, refl);
}

-- the item that fits at a place where one of the items begins is that one
pub item_there : (x : Extent) (items : List Item) (item : Item) → 0 < x.page → All (IsItem x) items → IsItem x item →
    Contains (map start_of items) (start_of item) → Contains items item
item_there x [] item pos each is there = absurd (omega (arith, there.1))
item_there x (i ∷ items) item pos each is there =
    elim (Contains-cases (start_of i) (map start_of items) (start_of item) there) [
      | inl here ↦ (0, omega arith, one_item x i item pos (All-head (IsItem x) i items each) is here)
      | inr later ↦ Contains-behind i items item (item_there x items item pos (All-tail (IsItem x) i items each) is later)
    ]

-- an item begins where it is
pub starts_there : (items : List Item) (item : Item) → Contains items item → Contains (map start_of items) (start_of item)
starts_there [] item there = absurd (omega (arith, there.1))
starts_there (i ∷ items) item there = elim (Contains-cases i items item there) [
  | inl here ↦ (0, omega arith, ap start_of here)
  | inr later ↦ Contains-behind (start_of i) (map start_of items) (start_of item) (starts_there items item later)
]

-- the first item at its place is that one
pub found_there : (x : Extent) (items : List Item) (item : Item) → 0 < x.page → All (IsItem x) items → Contains items item →
    find (λ i. start_of i == start_of item) items ≡ Some item
found_there x [] item pos each there = absurd (omega (arith, there.1))
found_there x (i ∷ items) item pos each there = by (start_of i == start_of item) refl (found_there x items item pos (All-tail (IsItem x) i items each))
  where
    is : IsItem x item
    is = All-contains (IsItem x) (i ∷ items) item each there

    behind : (i ≡ item) ⊎ Contains items item → (start_of i == start_of item) ≡ false → Contains items item
    behind (inl here) other = absurd (false≢true (sym other ∙ eq-eqb (start_of i) (start_of item) (ap start_of here)))
    behind (inr later) other = later

    by : (b : Bool) → (start_of i == start_of item) ≡ b →
        (Contains items item → find (λ j. start_of j == start_of item) items ≡ Some item) →
        (if b then Some i else find (λ j. start_of j == start_of item) items) ≡ Some item
    by true same rest =
        ap Some (one_item x i item pos (All-head (IsItem x) i items each) is (eqb-true (start_of i) (start_of item) same))
    by false other rest = rest (behind (Contains-cases i items item there) other)

-- ---- zeros

-- at a zero byte there is no frame
no_frame_at_zero : (x : Extent) (p : ℕ) → x.byte p ≡ Some 0 → NoFrameAt x p
no_frame_at_zero x p is f u b h = differ (sym is ∙ first_byte x p f u b h)
  where
    differ : ◌≡◌ {A = Option ℕ} (Some 0) (Some 0xC5) → ⊥
    differ e = cc

-- zeros up to the bound are an item
zeros_are_item : (x : Extent) (start stop : ℕ) → start < x.pointer → start < stop → stop ≡ bound_above x start →
    ((i : ℕ) → start ≤ i → i < stop → x.byte i ≡ Some 0) → IsItem x (Pad start stop)
zeros_are_item x start stop below some to all = record {
  below = below;
  fits = (to, no_frame_at_zero x start (all start (omega arith) some), λ i low high. all i low (omega (arith, high, to)));
}

-- ---- the items

-- a frame below the old pointer is still there
pub frame_kept : (x y : Extent) (o : ℕ) → ((p : ℕ) → p < o → y.byte p ≡ x.byte p) → x.pointer ≤ o → o ≤ y.pointer →
    (p : ℕ) (f : Form) (u b : List ℕ) → FrameAt x p f u b → FrameAt y p f u b
frame_kept x y o kept above moved p f u b h = record {
  has_frame = h.has_frame;
  fits = omega (arith, h.fits, above, moved);
  stands = λ k within.
      kept (p + k) (omega (arith, within, length-frame f u b h.has_frame.sixteen, h.fits, above)) ∙ h.stands k within;
}

-- each chunk among the old items is among the new ones, of which some begin at the place and join up to the pointer
pub record Grown (y : Extent) (o : ℕ) (old new : List Item) : Type 0 where
  pub chunks : (item : Item) → Contains old item → is_chunk item ≡ true → Contains new item
  pub rest : List Item
  pub joined : Joins o y.pointer rest
  pub each : All (IsItem y) rest
  pub among : (item : Item) → Contains rest item → Contains new item

module _ (x y : Extent) (o : ℕ) (pos : 0 < x.page) (page : y.page ≡ x.page) (kept : (p : ℕ) → p < o → y.byte p ≡ x.byte p)
    (zeros : (p : ℕ) → x.pointer ≤ p → p < o → x.byte p ≡ Some 0) (above : x.pointer ≤ o) (moved : o ≤ y.pointer) where
  pos_after : 0 < y.page
  pos_after = omega (arith, pos, page)

  -- an old item in front of the others, and a new one, which is the same if the old one is a chunk
  more : (old new : Item) (olds news : List Item) → (is_chunk old ≡ true → new ≡ old) → Grown y o olds news →
      Grown y o (old ∷ olds) (new ∷ news)
  more old new olds news same g = record {
    chunks = λ item there is. by item is (Contains-cases old olds item there);
    rest = g.rest;
    joined = g.joined;
    each = g.each;
    among = λ item there. Contains-behind new news item (g.among item there);
  }
    where
      by : (item : Item) → is_chunk item ≡ true → (old ≡ item) ⊎ Contains olds item → Contains (new ∷ news) item
      by item is (inl here) = (0, omega arith, same (subst (λ (i : Item). is_chunk i ≡ true) (sym here) is) ∙ here)
      by item is (inr later) = Contains-behind new news item (g.chunks item later is)

  -- after all old items
  last : (news : List Item) (a : ℕ) → a ≡ o → Joins a y.pointer news → All (IsItem y) news → Grown y o [] news
  last news a at joins each = record {
    chunks = λ item there is. absurd (omega (arith, there.1));
    rest = news;
    joined = subst (λ n. Joins n y.pointer news) at joins;
    each = each;
    among = λ item there. there;
  }

  chunk_kept : (f : Form) (start stop : ℕ) (u : List ℕ) (n : ℕ) (d : List ℕ) → IsItem x (Chunk f start stop u n d) →
      IsItem y (Chunk f start stop u n d)
  chunk_kept f start stop u n d h = record {
    below = omega (arith, h.below, above, moved);
    fits = (
      h.fits.0,
      frame_kept x y o kept above moved start f u h.fits.0 h.fits.1,
      h.fits.2,
      h.fits.3,
      h.fits.4,
    );
  }

  bound_after : (p : ℕ) → bound_above y p ≡ min y.pointer ((p / x.page + 1) * x.page)
  bound_after p = ap (λ n. min y.pointer ((p / n + 1) * n)) page

  -- zeros that stop below the old pointer
  pad_kept : (start stop : ℕ) → IsItem x (Pad start stop) → stop < x.pointer → IsItem y (Pad start stop)
  pad_kept start stop h inside =
      let ahead = advances x (Pad start stop) pos h in
      zeros_are_item y start stop (omega (arith, h.below, above, moved)) ahead.0
      (omega (arith, bound_after start, h.fits.0, inside, above, moved))
      (λ i low high. kept i (omega (arith, high, inside, above)) ∙ h.fits.2 i low (omega (arith, high, h.fits.0)))

  -- zeros up to the old pointer reach the place
  pad_grown : (start stop : ℕ) → IsItem x (Pad start stop) → stop ≡ x.pointer → o ≡ (start / x.page + 1) * x.page →
      IsItem y (Pad start o)
  pad_grown start stop h ends bounded =
      zeros_are_item y start o (omega (arith, h.below, above, moved)) (omega (arith, h.below, above))
      (omega (arith, bound_after start, bounded, moved))
      (λ i low high. kept i high ∙ by i low high (cases_lt i x.pointer))
    where
      by : (i : ℕ) → start ≤ i → i < o → (i < x.pointer) ⊎ (x.pointer ≤ i) → x.byte i ≡ Some 0
      by i low high (inl less) = h.fits.2 i low (omega (arith, less, ends, h.fits.0))
      by i low high (inr le) = zeros i le high

  -- the new item that begins where one that fits does
  same_item : (item new : Item) → IsItem y item → IsItem y new → start_of new ≡ start_of item → new ≡ item
  same_item item new is fits at = one_item y new item pos_after fits is at

  -- an item that isn't the last one
  step : (item new : Item) (olds : List Item) → IsItem x item → is_clean_item item ≡ true → stop_of item < x.pointer →
      IsItem y new → start_of new ≡ start_of item → new ≡ item
  step (Chunk f start stop u n d) new olds h clean inside fits at =
      same_item (Chunk f start stop u n d) new (chunk_kept f start stop u n d h) fits at
  step (Pad start stop) new olds h clean inside fits at =
      same_item (Pad start stop) new (pad_kept start stop h inside) fits at
  step (Torn start stop) new olds h clean inside fits at = absurd (false≢true clean)
  step (Noise start stop) new olds h clean inside fits at = absurd (false≢true clean)
  step (Lost start stop) new olds h clean inside fits at = absurd (false≢true clean)

  -- the last item
  last_item : (item new : Item) → IsItem x item → is_clean_item item ≡ true → stop_of item ≡ x.pointer →
      o ≡ next_place x.page x.pointer (item ∷ []) → IsItem y new → start_of new ≡ start_of item →
      (stop_of new ≡ o) × (is_chunk item ≡ true → new ≡ item)
  last_item (Chunk f start stop u n d) new h clean ends place fits at =
      let same : new ≡ Chunk f start stop u n d = same_item (Chunk f start stop u n d) new (chunk_kept f start stop u n d h) fits at in
      let here : o ≡ stop = place ∙ behind_chunk (x.pointer % x.page == 0) x.pointer ((x.pointer / x.page + 1) * x.page) ∙ sym ends in
      (ap stop_of same ∙ sym here, λ is. same)
  last_item (Pad start stop) new h clean ends place fits at =
      let bounded : o ≡ (start / x.page + 1) * x.page =
      place ∙ past_other x.page start x.pointer pos h.below (omega (arith, h.fits.0, ends)) in
      let same : new ≡ Pad start o = same_item (Pad start o) new (pad_grown start stop h ends bounded) fits at in
      (ap stop_of same, λ is. absurd (false≢true is))
  last_item (Torn start stop) new h clean ends place fits at = absurd (false≢true clean)
  last_item (Noise start stop) new h clean ends place fits at = absurd (false≢true clean)
  last_item (Lost start stop) new h clean ends place fits at = absurd (false≢true clean)

  grow : (a : ℕ) (item : Item) (olds news : List Item) → Joins a x.pointer (item ∷ olds) → Joins a y.pointer news →
      All (IsItem x) (item ∷ olds) → All (IsItem y) news → All (λ i. is_clean_item i ≡ true) (item ∷ olds) →
      o ≡ next_place x.page x.pointer (item ∷ olds) → Grown y o (item ∷ olds) news
  grow a item olds [] joins joined each fits clean place =
      let first : IsItem x item = All-head (IsItem x) item olds each in
      absurd (omega (arith, joins.0, joined, first.below, above, moved))
  grow a item [] (new ∷ news) joins joined each fits clean place =
      let known =
      last_item item new (All-head (IsItem x) item [] each) (All-head (λ i. is_clean_item i ≡ true) item [] clean) joins.1 place (All-head (IsItem y) new news fits) (joined.0 ∙ sym joins.0) in
      more item new [] news known.1 (last news (stop_of new) known.0 joined.1 (All-tail (IsItem y) new news fits))
  grow a item (next ∷ olds) (new ∷ news) joins joined each fits clean place =
      let behind = All-tail (IsItem x) item (next ∷ olds) each in
      let second : IsItem x next = All-head (IsItem x) next olds behind in
      let same : new ≡ item =
      step item new olds (All-head (IsItem x) item (next ∷ olds) each) (All-head (λ i. is_clean_item i ≡ true) item (next ∷ olds) clean) (omega (arith, second.below, joins.1.0)) (All-head (IsItem y) new news fits) (joined.0 ∙ sym joins.0) in
      more item new (next ∷ olds) news (λ is. same)
      (grow (stop_of item) next olds news joins.1 (subst (λ (i : Item). Joins (stop_of i) y.pointer news) same joined.1) behind (All-tail (IsItem y) new news fits) (All-tail (λ i. is_clean_item i ≡ true) item (next ∷ olds) clean) place)

  -- If all bytes before the place are kept, each old chunk is a new one, and new items begin at the place.
  pub grown : (olds news : List Item) → IsTiling x olds → IsTiling y news → All (λ i. is_clean_item i ≡ true) olds →
      o ≡ next_place x.page x.pointer olds → Grown y o olds news
  grown [] news was tiled clean place =
      let none : x.pointer % x.page ≡ 0 = omega (arith, was.joined, div-add-mod' x.pointer x.page) in
      let same : o ≡ 0 = place ∙ at_pointer x.page x.pointer ((x.pointer / x.page + 1) * x.page) false none ∙ sym was.joined in
      last news 0 (sym same) tiled.joined tiled.each
  grown (item ∷ olds) news was tiled clean place =
      grow 0 item olds news was.joined tiled.joined was.each tiled.each clean place

-- ---- frames one after the other

-- whole frames from where items begin on are these items
pub frames_are_chunks : (x : Extent) (p : ℕ) (fs : List WholeFrame) (items new : List Item) → 0 < x.page → Joins p x.pointer items →
    All (IsItem x) items → ((item : Item) → Contains items item → Contains new item) → AreFramesFrom x p fs →
    AreChunksFrom new p fs
frames_are_chunks x p [] items new pos joins each among placed = tt
frames_are_chunks x p (f ∷ fs) [] new pos joins each among placed =
    absurd (omega (arith, joins, placed.0.fits, overhead_some f.form))
frames_are_chunks x p (f ∷ fs) (item ∷ items) new pos joins each among placed =
    let chunk : Item = chunk_of p f.form f.uuid f.payload in
    let same : item ≡ chunk =
    one_item x item chunk pos (All-head (IsItem x) item items each) (chunk_is_item x p f.form f.uuid f.payload placed.0) joins.0 in (
      among chunk (0, omega arith, same),
      frames_are_chunks x (p + size_in f) fs items new pos (subst (λ (i : Item). Joins (stop_of i) x.pointer items) same joins.1)
          (All-tail (IsItem x) item items each) (λ i there. among i (Contains-behind item items i there)) placed.1,
    )
