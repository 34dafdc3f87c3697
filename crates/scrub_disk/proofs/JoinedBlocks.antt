-- Pages that lie in blocks of as many pages each: where a page of all is in its block.
use Rattle.std.proofs.Common.{◌≡◌, ◌<◌, ◌≤◌, ◌+◌, ◌-◌, ◌*◌, ◌/◌, ◌%◌, ℕ, List, [], ◌∷◌, ◌++◌, length, length-append, get_or, map, min, arith, refl, sym, ◌∙◌, ap, All}
use Rattle.std.specs.List.{between}
use Rattle.std.proofs.lemmas.List.{get_or_append_left, get_or-append_right}
use Rattle.std.proofs.lemmas.List.{get_or_read, length-map, map-append, append-nil}
use Rattle.std.proofs.lemmas.List.Concat.{flat_map-append}
use Rattle.std.proofs.lemmas.List.Elements.{All-append, All-cons, All-get_or, All-nil}
use Rattle.std.proofs.lemmas.Bool.{cases_lt}
use Rattle.std.proofs.lemmas.Nat.{div-add-mod', div_below}
use Rattle.std.proofs.Math.Nat.{mod-lt, mul-le-mul_left, mul-le-mul_right}
use Rattle.std.proofs.Common.{Bool, false, cond, Option, Some, None, inl, inr, ◌^◌}
use Rattle.scrub_disk.specs.declared.blocks.Block.{Block}
use Rattle.scrub_disk.specs.declared.geometry.Geometry.{Geometry}
use Rattle.scrub_disk.specs.steps.Ahead.{IsReadFrom}
use Rattle.scrub_disk.specs.BytesAndMarks.{held}
use Rattle.scrub_disk.specs.Joined.{joined, text_at, first_page, HaveSizes, AreBlocks}
use Rattle.scrub_disk.specs.Stored.{HasPages, block_text, page_text}
use Rattle.scrub_disk.specs.steps.WholePages.{page_room}
use Rattle.scrub_disk.proofs.PartsRead.{read_more_parts}
use Rattle.scrub_disk.proofs.StoredPages.{length-texts, page_of_text, rows_below}
use Rattle.scrub_disk.proofs.Texts.{AreFull, between-joined, text_at_is}

-- the blocks before that of page n are full
pub full_before : (P stride pages n : ℕ) (blocks : List Block) → 0 < stride → HaveSizes P stride pages 0 blocks →
    n < pages → n / stride < length blocks → AreFull (block_text P) (P * stride) (n / stride) blocks
full_before P stride pages n blocks pos sizes hn within j hj =
    let next : j + 1 ≤ n / stride = omega (arith, hj) in
    let below : stride * (j + 1) ≤ stride * (n / stride) = mul-le-mul_left stride next in
    let whole : min stride (pages - (0 + j) * stride) ≡ stride = omega (arith, below, div-add-mod' n stride, hn) in
    sizes j (omega (arith, hj, within)) ∙ ap (λ m. P * m) whole

-- page n is in its block
pub page_in_block : (P stride pages n : ℕ) (blocks : List Block) → 0 < stride → HaveSizes P stride pages 0 blocks →
    n < pages → n / stride < length blocks → n % stride * P + P ≤ length (text_at (block_text P) blocks (n / stride))
page_in_block P stride pages n blocks pos sizes hn within =
    let small : n % stride < stride = mod-lt n pos in
    let row : n % stride + 1 ≤ min stride (pages - (0 + n / stride) * stride) = omega (arith, small, div-add-mod' n stride, hn) in
    let room : P * (n % stride + 1) ≤ P * min stride (pages - (0 + n / stride) * stride) = mul-le-mul_left P row in
    omega (arith, room, sizes (n / stride) within)

-- the number of a page's block
pub block_within : (stride pages n : ℕ) (blocks : List Block) → n < pages → pages ≤ stride * length blocks →
    0 < stride → n / stride < length blocks
block_within stride pages n blocks hn enough pos = div_below n stride (length blocks) pos (omega (arith, hn, enough))

-- page n of a disk is in this block
pub record IsPageOf (P stride n : ℕ) (blocks : List Block) (block : Block) : Type 0 where
  pub within : n % stride < length block.slots.items
  pub stored : HasPages P block
  pub text : between (n * P) (n * P + P) (joined P blocks) ≡ page_text P block.bytes.items (get_or block.slots.items (n % stride) None)

pub page_of_block : (P stride pages n : ℕ) (blocks : List Block) (block : Block) → 0 < P → 0 < stride →
    HaveSizes P stride pages 0 blocks → All (HasPages P) blocks → pages ≤ stride * length blocks → n < pages →
    block ≡ get_or blocks (n / stride) block →
    IsPageOf P stride n blocks block
page_of_block P stride pages n blocks block some pos sizes stored enough hn here =
    let within : n / stride < length blocks = block_within stride pages n blocks hn enough pos in
    let has : HasPages P block = rw here (All-get_or (HasPages P) blocks (n / stride) block within stored) in
    let is : text_at (block_text P) blocks (n / stride) ≡ block_text P block = text_at_is (block_text P) blocks (n / stride) block within here in
    let fits : n % stride * P + P ≤ length (text_at (block_text P) blocks (n / stride)) = page_in_block P stride pages n blocks pos sizes hn within in
    let size : length (block_text P block) ≡ P * length block.slots.items = length-texts P block.bytes.items block.slots.items has in
    let slot : n % stride < length block.slots.items =
    rows_below P (n % stride) (length block.slots.items) some (omega (arith, fits, ap length is, size)) in
    let at : n / stride * (P * stride) + n % stride * P ≡ n * P =
    let times : (n / stride * stride + n % stride) * P ≡ n * P = ap (λ m. m * P) (div-add-mod' n stride) in
    omega (arith, times) in
    record {
      within = slot;
      stored = has;
      text =
          sym (ap (λ a. between a (a + P) (joined P blocks)) at)
          ∙ between-joined (block_text P) blocks (P * stride) (n / stride) (n % stride * P) P
          (full_before P stride pages n blocks pos sizes hn within) within fits
          ∙ ap (between (n % stride * P) (n % stride * P + P)) is
          ∙ page_of_text P block.bytes.items block.slots.items (n % stride) has slot;
    }

-- an unmarked page that was read from its block is the page of the image
pub read_in_block : (g : Geometry) (blocks : List Block) (unreadable : List Bool) (stride e q N size : ℕ) (b : Bool)
    (block : Block) (out : List ℕ) → 0 < stride → HaveSizes g.page stride (g.pages * g.extents) 0 blocks →
    All (HasPages g.page) blocks →
    g.pages * g.extents ≤ stride * length blocks → length unreadable ≡ g.pages * g.extents → e < g.extents → q < g.pages →
    N ≡ g.pages → size ≡ g.page →
    b ≡ get_or unreadable (e * N + q) b → b ≡ false → block ≡ get_or blocks ((e * N + q) / stride) block →
    out ≡ page_text size block.bytes.items (get_or block.slots.items ((e * N + q) % stride) None) →
    (held g (joined g.page blocks) unreadable).page e q ≡ Some out
read_in_block g blocks unreadable stride e q N size b block out pos sizes stored enough marks he hq hN hP read unmarked is found =
    by_number (e * g.pages + q) below
    (sym (get_or_read unreadable (e * g.pages + q) b (omega (arith, marks, below)) (read ∙ ap (λ m. get_or unreadable (e * m + q) b) hN) false) ∙ unmarked)
    (is ∙ ap (λ m. get_or blocks ((e * m + q) / stride) block) hN)
    (found ∙ ap (λ m. page_text m block.bytes.items (get_or block.slots.items ((e * N + q) % stride) None)) hP
    ∙ ap (λ m. page_text g.page block.bytes.items (get_or block.slots.items ((e * m + q) % stride) None)) hN)
  where
    below : e * g.pages + q < g.pages * g.extents
    below = (page_room g.page g.pages g.extents e q he hq).0

    by_number : (n : ℕ) → n < g.pages * g.extents → get_or unreadable n false ≡ false → block ≡ get_or blocks (n / stride) block →
        out ≡ page_text g.page block.bytes.items (get_or block.slots.items (n % stride) None) →
        cond (get_or unreadable n false) None (Some (between (n * g.page) (n * g.page + g.page) (joined g.page blocks))) ≡ Some out
    by_number n hn clear here found' =
        rw clear
        (ap Some
        ((page_of_block g.page stride (g.pages * g.extents) n blocks block (omega (arith, g.page_least)) pos sizes stored enough hn here).text
        ∙ sym found'))

-- that page of that block is there
pub slot_in_block : (g : Geometry) (blocks : List Block) (stride e q N : ℕ) (block : Block) →
    0 < stride → HaveSizes g.page stride (g.pages * g.extents) 0 blocks → All (HasPages g.page) blocks →
    g.pages * g.extents ≤ stride * length blocks → e < g.extents → q < g.pages → N ≡ g.pages →
    block ≡ get_or blocks ((e * N + q) / stride) block →
    ((e * N + q) % stride < length block.slots.items) × HasPages g.page block
slot_in_block g blocks stride e q N block pos sizes stored enough he hq hN is =
    let page = page_of_block g.page stride (g.pages * g.extents) (e * N + q) blocks block (omega (arith, g.page_least))
    pos sizes stored enough (rw hN (page_room g.page g.pages g.extents e q he hq).0) is in
    (page.within, page.stored)

-- blocks after others
pub more_blocks : (g : Geometry) (stride first count next n both : ℕ) (blocks more all : List Block) (marks marked every : List Bool) →
    next ≡ first + count → both ≡ count + n →
    AreBlocks g stride first count blocks marks → AreBlocks g stride next n more marked →
    all ≡ blocks ++ more → every ≡ marks ++ marked → AreBlocks g stride first both all every
more_blocks g stride first count next n both blocks more all marks marked every at sum before behind' is marked_is = rw (is, marked_is, sum) (record {
  number = length-append blocks more ∙ omega (arith, before.number, behind.number);
  sizes = λ k hk. elim (cases_lt k (length blocks)) [
    | inl below ↦ ap length (in_front k below) ∙ before.sizes k below
    | inr above ↦
        let here : k - length blocks < length more = omega (arith, hk, above, length-append blocks more) in
        ap length (in_back k above) ∙ behind.sizes (k - length blocks) here
        ∙ ap (λ m. g.page * min stride (g.pages * g.extents - m * stride))
        (let e : first + count + (k - length blocks) ≡ first + k = omega (arith, above, before.number) in e)
  ];
  stored = All-append (HasPages g.page) blocks more before.stored behind.stored;
  whole =
      ap length (flat_map-append (block_text g.page) blocks more) ∙ length-append (joined g.page blocks) (joined g.page more)
      ∙ (let times : g.page * ((first_page g stride (first + count) - first_page g stride first) + (first_page g stride (first + count + n) - first_page g stride (first + count))) ≡ g.page * (first_page g stride (first + (count + n)) - first_page g stride first) = ap (λ m. g.page * m) pages in
      omega (arith, before.whole, behind.whole, times));
  each_page = length-append marks marked ∙ (omega (arith, before.each_page, behind.each_page, pages));
})
  where
    behind : AreBlocks g stride (first + count) n more marked
    behind = rw at at behind'

    pages : (first_page g stride (first + count) - first_page g stride first)
        + (first_page g stride (first + count + n) - first_page g stride (first + count))
        ≡ first_page g stride (first + (count + n)) - first_page g stride first
    pages = omega arith

    in_front : (k : ℕ) → k < length blocks → text_at (block_text g.page) (blocks ++ more) k ≡ text_at (block_text g.page) blocks k
    in_front k below =
        ap (λ xs. get_or xs k []) (map-append (block_text g.page) blocks more)
        ∙ get_or_append_left (map (block_text g.page) blocks) (map (block_text g.page) more) [] k
        (omega (arith, below, length-map blocks (block_text g.page)))

    in_back : (k : ℕ) → length blocks ≤ k →
        text_at (block_text g.page) (blocks ++ more) k ≡ text_at (block_text g.page) more (k - length blocks)
    in_back k above =
        ap (λ xs. get_or xs k []) (map-append (block_text g.page) blocks more)
        ∙ get_or-append_right (map (block_text g.page) blocks) (map (block_text g.page) more) (length blocks) k []
        (length-map blocks (block_text g.page)) above

-- one block
pub one_block : (g : Geometry) (stride number first count : ℕ) (block : Block) (blocks : List Block) (marks : List Bool) →
    first ≡ first_page g stride number → count ≡ min stride (g.pages * g.extents - first) → blocks ≡ block ∷ [] → HasPages g.page block →
    length (block_text g.page block) ≡ count * g.page → length marks ≡ count → AreBlocks g stride number 1 blocks marks
one_block g stride number first count block blocks marks at few only has long marked = rw only (record {
  number = refl;
  sizes = λ k hk.
      let here : k ≡ 0 = omega (arith, hk) in
      rw here (long ∙ omega (arith, ap (λ m. g.page * m) (few ∙ left)));
  stored = All-cons (HasPages g.page) block [] has (All-nil (HasPages g.page));
  whole =
      ap length (append-nil (block_text g.page block)) ∙ long
      ∙ (let e : g.page * count ≡ g.page * (first_page g stride (number + 1) - first_page g stride number) =
      ap (λ m. g.page * m) pages in
      omega (arith, e));
  each_page = marked ∙ pages;
})
  where
    left : min stride (g.pages * g.extents - first) ≡ min stride (g.pages * g.extents - (number + 0) * stride)
    left = omega (arith, at)

    pages : count ≡ first_page g stride (number + 1) - first_page g stride number
    pages = omega (arith, at, few)

-- what was read into it
pub one_block_read : (known : Option (List ℕ)) (fails : ℕ → ℕ → Bool) (first from page failures : ℕ) (block : Block) (blocks : List Block) (marks : List Bool) →
    first ≡ from → blocks ≡ block ∷ [] → IsReadFrom known fails first page failures (block_text page block) marks →
    IsReadFrom known fails from page failures (joined page blocks) marks
one_block_read known fails first from page failures block blocks marks at only read =
    let text : joined page blocks ≡ block_text page block =
    ap (λ bs. joined page bs) only ∙ append-nil (block_text page block) in
    rw (text, ← at) read

-- pages from block a to block b, and from there to block c
pub pages_more : (g : Geometry) (stride a b c times : ℕ) → a ≤ b → b ≤ c →
    times * (first_page g stride b - first_page g stride a) + times * (first_page g stride c - first_page g stride b)
    ≡ times * (first_page g stride c - first_page g stride a)
pages_more g stride a b c times ab bc =
    let rows : a * stride ≤ b * stride = mul-le-mul_right stride ab in
    let more : b * stride ≤ c * stride = mul-le-mul_right stride bc in
    let sum : (first_page g stride b - first_page g stride a) + (first_page g stride c - first_page g stride b) ≡ first_page g stride c - first_page g stride a = omega (arith, rows, more) in
    let all : times * ((first_page g stride b - first_page g stride a) + (first_page g stride c - first_page g stride b)) ≡ times * (first_page g stride c - first_page g stride a) = ap (λ m. times * m) sum in
    omega (arith, all)

-- a bound on the reads of some pages
pub few_pages : (g : Geometry) (stride a b : ℕ) → (g.page + 1) * (first_page g stride b - first_page g stride a) ≤ 2 ^ 33
few_pages g stride a b =
    let least : 1 ≤ g.page = omega (arith, g.page_least) in
    let within : first_page g stride b - first_page g stride a ≤ g.pages * g.extents = omega arith in
    let reads : (g.page + 1) * (first_page g stride b - first_page g stride a) ≤ (g.page + 1) * (g.pages * g.extents) = mul-le-mul_left (g.page + 1) within in
    let one : 1 * (g.pages * g.extents) ≤ g.page * (g.pages * g.extents) = mul-le-mul_right (g.pages * g.extents) least in
    omega (arith, reads, one, g.total_fits)

-- pages that were read after others
pub blocks_read : (g : Geometry) (stride first count next n from to x y both : ℕ) (known : Option (List ℕ)) (fails : ℕ → ℕ → Bool) (blocks more all : List Block)
    (marks marked every : List Bool) → next ≡ first + count → from ≡ first_page g stride first → to ≡ first_page g stride next → both ≡ x + y →
    AreBlocks g stride first count blocks marks → AreBlocks g stride next n more marked →
    all ≡ blocks ++ more → every ≡ marks ++ marked →
    IsReadFrom known fails from g.page x (joined g.page blocks) marks → IsReadFrom known fails to g.page y (joined g.page more) marked →
    IsReadFrom known fails from g.page both (joined g.page all) every
blocks_read g stride first count next n from to x y both known fails blocks more all marks marked every at here there sum before behind is marked_is read rest =
    let rows : first * stride ≤ next * stride = mul-le-mul_right stride (omega (arith, at)) in
    rw sum
    (read_more_parts known fails g.page from to (first_page g stride (first + count) - first_page g stride first)
    (first_page g stride (next + n) - first_page g stride next) x y (joined g.page blocks) (joined g.page more) (joined g.page all)
    marks marked every (omega (arith, g.page_least)) before.whole before.each_page behind.whole behind.each_page
    (ap (λ bs. joined g.page bs) is ∙ flat_map-append (block_text g.page) blocks more) marked_is
    (omega (arith, here, there, at, rows, ap (λ m. m * stride) at)) read rest)

-- as many blocks as it takes have all pages
pub whole_disk : (g : Geometry) (stride count : ℕ) (blocks : List Block) (marks : List Bool) →
    AreBlocks g stride 0 count blocks marks → g.pages * g.extents ≤ count * stride →
    (length (joined g.page blocks) ≡ g.page * g.pages * g.extents) × (length marks ≡ g.pages * g.extents)
whole_disk g stride count blocks marks are enough =
    let all : first_page g stride (0 + count) - first_page g stride 0 ≡ g.pages * g.extents = omega (arith, enough) in
    (are.whole ∙ ap (λ n. g.page * n) all ∙ omega arith, are.each_page ∙ all)
