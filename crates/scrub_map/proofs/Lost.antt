-- Marks and gaps.
use Rattle.std.proofs.Common.{◌≡◌, ◌<◌, ◌≤◌, ◌+◌, ◌-◌, ◌*◌, ◌/◌, ◌⊎◌, ℕ, min, Bool, true, false, List, [], ◌∷◌, ◌++◌, length, get_or, set, take, arith, refl, sym, ◌∙◌, ap, subst, inl, inr, get_or-set_same, get_or-set_other, replicate, add-one, Vec}
use Rattle.std.specs.Prelude.{◌↔◌}
use Rattle.std.specs.Int.{div_ceil}
use Rattle.std.proofs.lemmas.Bool.{cases_lt, cases_eq, false≢true}
use Rattle.std.proofs.lemmas.List.{take_all, length-replicate, get_or-replicate, with_items_is}
use Rattle.std.specs.Vec.{with_items}
use Rattle.std.proofs.Math.Seq.{take-suc}
use Rattle.std.proofs.Math.Nat.{mul-le-mul_left}
use Rattle.scrub_map.specs.declared.gap.Gap.{Gap}
use Rattle.scrub_map.specs.declared.block.MapBlock.{MapBlock}
use Rattle.scrub_map.specs.declared.map.RescueMap.{RescueMap}
use Rattle.scrub_map.specs.MissingBytes.{KeepsBlocks}
use Rattle.scrub_map.specs.Rescued.{AreLostBlocks}
use Rattle.scrub_map.specs.steps.Gaps.{IsHitBy, IsInGap, IsInGaps, MarksGap}

-- a gap that begins before the end hits each block from that of its first byte to that of its last byte before the end
hit_between : (gap : Gap) (size end n : ℕ) → 0 < size → gap.from < end → gap.from / size ≤ n → n ≤ (min gap.to end - 1) / size →
    IsHitBy gap size end n
hit_between gap size end n some begins low high =
    let first : gap.from < n * size + size = omega (arith, mul-le-mul_left size low) in
    let last : n * size ≤ min gap.to end - 1 = omega (arith, mul-le-mul_left size high) in
    let filled : gap.from < gap.to = gap.has_a_byte in
    elim (cases_lt gap.from (n * size)) [
      | inl before ↦ record {
        place = n * size;
        low = omega arith;
        high = omega (arith, some);
        before = omega (arith, last, begins);
        inside = record { low = omega (arith, before); high = omega (arith, last, filled) };
      }
      | inr behind ↦ record {
        place = gap.from;
        low = behind;
        high = first;
        before = begins;
        inside = record { low = omega arith; high = filled };
      }
    ]

-- it hits no other block
between_hit : (gap : Gap) (size end n : ℕ) → 0 < size → IsHitBy gap size end n →
    (gap.from / size ≤ n) × (n ≤ (min gap.to end - 1) / size)
between_hit gap size end n some hit = (
  elim (cases_lt n (gap.from / size)) [
    | inl under ↦ let more : n + 1 ≤ gap.from / size = omega (arith, under) in
        absurd (omega (arith, mul-le-mul_left size more, hit.high, hit.inside.low, some))
    | inr over ↦ over
  ],
  elim (cases_lt ((min gap.to end - 1) / size) n) [
    | inl over ↦ let more : (min gap.to end - 1) / size + 1 ≤ n = omega (arith, over) in
        absurd (omega (arith, mul-le-mul_left size more, hit.low, hit.inside.high, hit.before, some))
    | inr under ↦ under
  ],
)

-- a gap that begins at or after the end marks nothing
pub marks_nothing : (gap : Gap) (size end : ℕ) (marks : List Bool) → end ≤ gap.from → MarksGap gap size end marks marks
marks_nothing gap size end marks late n below = (
  λ marked. inl marked,
  λ either. elim either [ inl marked ↦ marked | inr hit ↦ absurd (omega (arith, late, hit.before, hit.inside.low)) ],
)

-- each block that the loop has passed is marked, and other marks are as before
pub record MarksFrom (first behind number : ℕ) (before after : List Bool) : Type 0 where
  pub placed : (number ≤ behind) ⊎ (number ≡ first)
  pub marked : (n : ℕ) → n < length before →
      (get_or after n false ≡ true) ↔ ((get_or before n false ≡ true) ⊎ ((first ≤ n) × (n < number)))

-- Before the loop, at its first block, the marks are as they were.
pub marks_none : (first behind : ℕ) (before : List Bool) → MarksFrom first behind first before before
marks_none first behind before = record {
  placed = inr refl;
  marked = λ n below. (
    λ marked. inl marked,
    λ either. elim either [
      | inl marked ↦ marked
      | inr none ↦ absurd (omega (arith, none.0, none.1))
    ],
  );
}

-- If the mark of the next block becomes true, the loop has passed one more block.
pub marks_more : (first behind number : ℕ) (before after : List Bool) → first ≤ number → number < behind →
    number < length after →
    MarksFrom first behind number before after → MarksFrom first behind (number + 1) before (set after number true)
marks_more first behind number before after low high below m = record {
  placed = inl (omega (arith, high));
  marked = λ n within. elim (cases_eq n number) [
    | inr ne ↦
        let same : get_or (set after number true) n false ≡ get_or after n false = get_or-set_other after number n true false ne in (
          λ marked. elim ((m.marked n within).0 (sym same ∙ marked)) [
            | inl old ↦ inl old
            | inr new ↦ inr (new.0, omega (arith, new.1))
          ],
          λ either. same ∙ (m.marked n within).1 (elim either [
            | inl old ↦ inl old
            | inr new ↦ inr (new.0, omega (arith, new.1, ne))
          ]),
        )
    | inl e ↦
        let here : get_or (set after number true) n false ≡ true =
        ap (λ k. get_or (set after number true) k false) e ∙ get_or-set_same after number true false below in
        (λ marked. inr (omega (arith, e, low), omega (arith, e)), λ either. here)
  ];
}

-- Once the loop has passed the last block that the gap can hit, the marks are as `MarksGap` says.
pub marks_all : (gap : Gap) (size end behind number : ℕ) (before after : List Bool) → 0 < size → gap.from < end →
    behind ≡ min ((min gap.to end - 1) / size + 1) (length before) → behind ≤ number →
    MarksFrom (gap.from / size) behind number before after → MarksGap gap size end before after
marks_all gap size end behind number before after some begins all high m n below = (
  λ marked. elim ((m.marked n below).0 marked) [
    | inl old ↦ inl old
    | inr new ↦ inr (hit_between gap size end n some begins new.0 (elim m.placed [
      | inl within ↦ omega (arith, new.1, within, all)
      | inr at ↦ absurd (omega (arith, new.0, new.1, at))
    ]))
  ],
  λ either. (m.marked n below).1 (elim either [
    | inl old ↦ inl old
    | inr hit ↦
        let between = between_hit gap size end n some hit in
        inr (between.0, omega (arith, between.1, below, high, all))
  ]),
)

-- block n of this size has a byte of one of the gaps before this end
pub record IsHitByAny (gaps : List Gap) (size end n : ℕ) : Type 0 where
  pub place : ℕ
  pub low : n * size ≤ place
  pub high : place < n * size + size
  pub before : place < end
  pub inside : IsInGaps gaps place

-- the marks are those of these gaps
pub record MarksGaps (gaps : List Gap) (size end count : ℕ) (marks : List Bool) : Type 0 where
  pub one_each : length marks ≡ count
  pub marked : (n : ℕ) → n < count → (get_or marks n false ≡ true) ↔ IsHitByAny gaps size end n

-- a byte of one more gap
pub in_gaps_push : (gaps : List Gap) (gap : Gap) (i : ℕ) → IsInGaps (gaps ++ gap ∷ []) i →
    IsInGaps gaps i ⊎ IsInGap gap i
in_gaps_push [] gap i (inl here) = inr here
in_gaps_push [] gap i (inr none) = absurd none
in_gaps_push (first ∷ gaps) gap i (inl here) = inl (inl here)
in_gaps_push (first ∷ gaps) gap i (inr more) = elim (in_gaps_push gaps gap i more) [
  | inl old ↦ inl (inr old)
  | inr new ↦ inr new
]

-- A byte of one of the gaps is still in one if more gaps follow.
pub in_gaps_before : (gaps more : List Gap) (i : ℕ) → IsInGaps gaps i → IsInGaps (gaps ++ more) i
in_gaps_before [] more i none = absurd none
in_gaps_before (first ∷ gaps) more i (inl here) = inl here
in_gaps_before (first ∷ gaps) more i (inr old) = inr (in_gaps_before gaps more i old)

-- A byte of the last gap is in one of the gaps.
pub in_gaps_last : (gaps : List Gap) (gap : Gap) (i : ℕ) → IsInGap gap i → IsInGaps (gaps ++ gap ∷ []) i
in_gaps_last [] gap i here = inl here
in_gaps_last (first ∷ gaps) gap i here = inr (in_gaps_last gaps gap i here)

-- Marks that are all false are those of no gaps.
pub gaps_none : (gaps : List Gap) (size end count : ℕ) (marks : List Bool) → marks ≡ replicate count false →
    MarksGaps (take 0 gaps) size end count marks
gaps_none gaps size end count marks e = record {
  one_each = ap length e ∙ length-replicate count false;
  marked = λ n below. (
    λ marked. absurd (false≢true (sym (ap (λ m. get_or m n false) e ∙ get_or-replicate count n false false below) ∙ marked)),
    λ hit. absurd hit.inside,
  );
}

gaps_more : (gaps : List Gap) (i size end count : ℕ) (gap : Gap) (before after : List Bool) → i < length gaps →
    gap ≡ get_or gaps i gap →
    MarksGaps (take i gaps) size end count before → length after ≡ length before → MarksGap gap size end before after →
    MarksGaps (take (i + 1) gaps) size end count after
gaps_more gaps i size end count gap before after below item m same marks = record {
  one_each = same ∙ m.one_each;
  marked = λ n within.
      let cut : take (i + 1) gaps ≡ take i gaps ++ gap ∷ [] =
      rw add-one (take-suc gaps i gap below ∙ ap (λ g. take i gaps ++ g ∷ []) (sym item)) in
      let inside : n < length before = omega (arith, within, m.one_each) in (
        λ marked. elim ((marks n inside).0 marked) [
          | inl old ↦ let hit = (m.marked n within).0 old in
              record { place = hit.place; low = hit.low; high = hit.high; before = hit.before; inside = rw cut (in_gaps_before (take i gaps) (gap ∷ []) hit.place hit.inside) }
          | inr new ↦ record {
            place = new.place;
            low = new.low;
            high = new.high;
            before = new.before;
            inside = rw cut (in_gaps_last (take i gaps) gap new.place new.inside);
          }
        ],
        λ hit. (marks n inside).1 (elim (in_gaps_push (take i gaps) gap hit.place (rw cut at hit.inside)) [
          | inl old ↦
              inl ((m.marked n within).1 (record { place = hit.place; low = hit.low; high = hit.high; before = hit.before; inside = old }))
          | inr new ↦ inr (record { place = hit.place; low = hit.low; high = hit.high; before = hit.before; inside = new })
        ]),
      );
}

-- the marks of all gaps and of the bytes after the map's end are those of the lost blocks
lost_marked : (map : RescueMap) (gap : Gap) (i size end count : ℕ) (before after : List Bool) →
    length map.gaps.items ≤ i → gap.from ≡ map.end → end ≤ gap.to → count ≡ div_ceil end size →
    MarksGaps (take i map.gaps.items) size end count before → length after ≡ length before →
    MarksGap gap size end before after →
    (blocks : List MapBlock) → KeepsBlocks map blocks → AreLostBlocks blocks size end after
lost_marked map gap i size end count before after all from to many m same marks blocks keeps = record {
  one_each = same ∙ m.one_each ∙ many;
  lost = λ n within.
      let whole : take i map.gaps.items ≡ map.gaps.items = take_all i map.gaps.items (omega (arith, all)) in
      let inside : n < length before = omega (arith, within, same) in
      let few : n < count = omega (arith, inside, m.one_each) in (
        λ marked. elim ((marks n inside).0 marked) [
          | inl old ↦ let hit = (m.marked n few).0 old in
              record { place = hit.place; low = hit.low; high = hit.high; before = hit.before; lost = (keeps hit.place).0 (inl (rw whole at hit.inside)) }
          | inr new ↦ record {
            place = new.place;
            low = new.low;
            high = new.high;
            before = new.before;
            lost = (keeps new.place).0 (inr (omega (arith, new.inside.low, from)));
          }
        ],
        λ lost. (marks n inside).1 (elim ((keeps lost.place).1 lost.lost) [
          | inl gone ↦
              inl
              ((m.marked n few).1 (record { place = lost.place; low = lost.low; high = lost.high; before = lost.before; inside = rw whole gone }))
          | inr behind ↦ inr (record {
            place = lost.place;
            low = lost.low;
            high = lost.high;
            before = lost.before;
            inside = record { low = omega (arith, behind, from); high = omega (arith, lost.before, to) };
          })
        ]),
      );
}

-- a vector has as many marks as it had
pub length_marked : {Z : Type 0} (v : Vec Bool Z) (now new : List Bool) (count : ℕ) → now ≡ v.items → length new ≡ length now →
    length v.items ≡ count → length (with_items v new).items ≡ count
length_marked v now new count e same many =
    ap length (with_items_is v new (same ∙ ap length e ∙ sym v.ok.0)) ∙ same ∙ ap length e ∙ many

-- the same for marks in a vector
pub gaps_more_in : {Z : Type 0} (v : Vec Bool Z) (gaps : List Gap) (i size end count : ℕ) (gap : Gap) (now new : List Bool) →
    i < length gaps → gap ≡ get_or gaps i gap →
    now ≡ v.items → length new ≡ length now → MarksGaps (take i gaps) size end count v.items → MarksGap gap size end now new →
    MarksGaps (take (i + 1) gaps) size end count (with_items v new).items
gaps_more_in v gaps i size end count gap now new below item e same m marks =
    let whole : (with_items v new).items ≡ new = with_items_is v new (same ∙ ap length e ∙ sym v.ok.0) in
    subst (MarksGaps (take (i + 1) gaps) size end count) (sym whole)
    (gaps_more gaps i size end count gap now new below item (subst (MarksGaps (take i gaps) size end count) (sym e) m) same marks)

-- In a vector too, the marks of all gaps and of the bytes after the map's end are those of the lost blocks.
pub lost_marked_in : {Z : Type 0} (v : Vec Bool Z) (map : RescueMap) (gaps : List Gap) (gap : Gap) (i size end count : ℕ) (now new : List Bool) →
    gaps ≡ map.gaps.items → length gaps ≤ i → gap.from ≡ map.end → end ≤ gap.to → count ≡ div_ceil end size →
    now ≡ v.items → length new ≡ length now → MarksGaps (take i gaps) size end count v.items → MarksGap gap size end now new →
    (blocks : List MapBlock) → KeepsBlocks map blocks → AreLostBlocks blocks size end (with_items v new).items
lost_marked_in v map gaps gap i size end count now new g all from to many e same m marks blocks keeps =
    let whole : (with_items v new).items ≡ new = with_items_is v new (same ∙ ap length e ∙ sym v.ok.0) in
    subst (AreLostBlocks blocks size end) (sym whole)
    (lost_marked map gap i size end count now new (omega (arith, all, ap length g)) from to many
    (rw (← g) (subst (MarksGaps (take i gaps) size end count) (sym e) m)) same marks blocks keeps)
