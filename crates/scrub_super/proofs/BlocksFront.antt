-- The front of a raw image, read block by block.
use Rattle.std.proofs.Common.{◌≡◌, ◌<◌, ◌≤◌, ◌+◌, ◌-◌, ◌*◌, ◌/◌, ◌^◌, ◌⊎◌, ℕ, zero, suc, Bool, true, false, cond, List, [], ◌∷◌, ◌++◌, length, take, get_or, slice_get, arith, refl, sym, ◌∙◌, ap, inl, inr, Option, Some, None, IfSome, length-append, set, get_or-set_same, get_or-set_other, Contains}
use Rattle.std.specs.Int.{div_ceil}
use Rattle.std.proofs.lemmas.Grind.{div_ceil_times}
use Rattle.std.proofs.lemmas.Bool.{cases_eq, cases_lt, false≢true, false_from_ne_true}
use Rattle.std.proofs.lemmas.Option.{slice_get_within, slice_get-get_or, slice_get_past, none-some}
use Rattle.std.proofs.lemmas.List.{length-set, length-take-le, get_or-take, get_or_append_left, get_or-append_right}
use Rattle.std.proofs.lemmas.List.Elements.{All-push, Contains-push, Contains-append_left}
use Rattle.std.proofs.Math.Seq.{get_or-append_seam}
use Rattle.std.proofs.lemmas.List.{get_or-append-add}
use Rattle.scrub_disk.specs.Image.{AreBytesAt}
use Rattle.scrub_disk.specs.Limits.{max_extent_bytes}
use Rattle.scrub_disk.specs.Raw.{MayFailIn}
use Rattle.scrub_disk.specs.steps.Ahead.{FilledFrom, IsFilled, StandsBetween}
use Rattle.scrub_super.specs.Blocks.{AreBlockMarks, AreLackingBlocks, IsMarked, LacksByte, byte_left, LosesBlocks}
use Rattle.scrub_super.specs.UnknownSizes.{IsFrontBy}
use Rattle.scrub_super.specs.steps.BlocksRead.{IsBlockRead, AreBlocksRead, AreAllRead, BeginsWith, MarksToo}

-- ---- one block

-- the bytes at the front of a buffer, as a list of their own
taken_at : (bytes : List ℕ) (offset n : ℕ) (out : List ℕ) → n ≤ length out → StandsBetween bytes offset 0 n out →
    AreBytesAt (slice_get bytes) offset (take n out)
taken_at bytes offset n out le stands k hk =
    let small : k < n = omega (arith, hk, length-take-le n out le) in
    stands k (omega arith) small ∙ ap Some (sym (get_or-take n out k 0 small))

-- a buffer is filled with bytes that are known to be at its front
pub filled_front : (bytes : List ℕ) (offset n : ℕ) (out : List ℕ) → n ≤ length out →
    AreBytesAt (slice_get bytes) offset (take n out) → (n < length out → length bytes ≤ offset + n) →
    IsFilled (Some bytes) offset out n
filled_front bytes offset n out le stands ends = record {
  within = le;
  known = record {
    given = λ k low small. stands k (omega (arith, small, length-take-le n out le)) ∙ ap Some (get_or-take n out k 0 small);
    ended = ends;
  };
}

-- a block that was read isn't lost
pub block_read : (fails : ℕ → ℕ → Bool) (raw : Option (List ℕ)) (offset before after n : ℕ) (out : List ℕ) → length out ≡ 512 →
    IsFilled raw offset out n →
    IfSome raw (λ bytes. IsBlockRead bytes fails offset before after out (record { len = n; is_lost = false }))
block_read fails None offset before after n out size filled = tt
block_read fails (Some bytes) offset before after n out size filled =
    let known : FilledFrom bytes offset out n = filled.known in
    record {
      read = λ _. taken_at bytes offset n out filled.within known.given;
      ended = λ short. known.ended (omega (arith, short, size));
      only = λ lost. absurd (false≢true lost);
    }

-- ---- marks

-- each true mark is in the list
pub mark_within : (lost : List Bool) (n : ℕ) → IsMarked lost n → n < length lost
mark_within [] n marked = absurd (false≢true marked)
mark_within (b ∷ lost) zero marked = omega arith
mark_within (b ∷ lost) (suc n) marked = omega (arith, mark_within lost n marked)

-- ---- one block more

-- the bytes and the marks so far, with those of one block more
pub record AddsBlock (read : List ℕ) (lost : List Bool) (out : List ℕ) (len : ℕ) (is_lost : Bool) (new : List ℕ)
    (more : List Bool) : Type 0 where
  pub bytes : new ≡ read ++ take len out
  pub marks : more ≡ lost ++ is_lost ∷ []
  pub few : len ≤ 512
  pub full : length out ≡ 512

module _ {read out new : List ℕ} {lost more : List Bool} {len : ℕ} {is_lost : Bool}
    (adds : AddsBlock read lost out len is_lost new more) where
  length_piece : length (take len out) ≡ len
  length_piece = length-take-le len out (omega (arith, adds.few, adds.full))

  -- There are as many more bytes as were read of the block.
  pub length-next : length new ≡ length read + len
  length-next = omega (arith, ap length adds.bytes, length-append read (take len out), length_piece)

  -- There is one more mark.
  pub length-marks : length more ≡ length lost + 1
  length-marks = omega (arith, ap length adds.marks, length-append lost (is_lost ∷ []))

  mark_before : (n : ℕ) → n < length lost → get_or more n false ≡ get_or lost n false
  mark_before n low = rw adds.marks (get_or_append_left lost (is_lost ∷ []) false n low)

  last_mark : get_or more (length lost) false ≡ is_lost
  last_mark = rw adds.marks (get_or-append_seam lost is_lost [] false)

  mark_cases : (n : ℕ) → IsMarked more n → IsMarked lost n ⊎ ((n ≡ length lost) × (is_lost ≡ true))
  mark_cases n marked = elim (cases_lt n (length lost)) [
    | inl low ↦ inl (sym (mark_before n low) ∙ marked)
    | inr high ↦
        let last : n ≡ length lost = omega (arith, high, mark_within more n marked, length-marks) in
        inr (last, sym last_mark ∙ (rw last at marked))
  ]

  -- Each lost block begins before the end of what was read.
  pub begins_next : length read ≡ 512 * length lost → (is_lost ≡ true → 0 < len) →
      ((n : ℕ) → IsMarked lost n → n * 512 < length read) → (n : ℕ) → IsMarked more n → n * 512 < length new
  begins_next size some before n marked = elim (mark_cases n marked) [
    | inl old ↦ omega (arith, before n old, length-next)
    | inr last ↦ omega (arith, last.0, some last.1, size, length-next)
  ]

  -- the failures that were counted, and one more if they rose
  one_block : {known : List ℕ} {fails : ℕ → ℕ → Bool} {start : ℕ} (before after : ℕ) {former latter : ℕ} →
      length read ≡ 512 * length lost → start ≡ length lost * 512 → before ≤ after →
      (former < latter → before < after) → AreBlocksRead known fails before read lost →
      IsBlockRead known fails start former latter out (record { len = len; is_lost = is_lost }) →
      AreBlocksRead known fails after new more
  one_block {known} {fails} {start} before after size place le counted old block = by is_lost refl
    where
      held' : (i : ℕ) → i < length new → (IsMarked more (i / 512) → ⊥) → slice_get known i ≡ Some (get_or new i 0)
      held' i hi unmarked = rw adds.bytes (elim (cases_lt i (length read)) [
        | inl low ↦
            let before : i / 512 < length lost = omega (arith, low, size) in
            old.held i low (λ marked. unmarked (mark_before (i / 512) before ∙ marked))
            ∙ ap Some (sym (get_or_append_left read (take len out) 0 i low))
        | inr high ↦
            let small : i - length read < len = omega (arith, hi, high, length-next) in
            let last : i / 512 ≡ length lost = omega (arith, high, size, small, adds.few) in
            let kept : is_lost ≡ false =
            false_from_ne_true is_lost (λ marked. unmarked (rw last (last_mark ∙ marked))) in
            let here : start + (i - length read) ≡ i = omega (arith, place, size, high) in
            ap (slice_get known) (sym here)
            ∙ block.read kept (i - length read) (omega (arith, small, length_piece))
            ∙ ap Some (sym (get_or-append_right read (take len out) (length read) i 0 refl high))
      ])

      by : (b : Bool) → is_lost ≡ b → AreBlocksRead known fails after new more
      by false kept = record {
        held = held';
        failed = old.failed;
        few = omega (arith, old.few, le);
        each = old.each;
        only = λ n m. elim (mark_cases n m) [
          | inl was ↦ old.only n was
          | inr is ↦ absurd (false≢true (sym kept ∙ is.1))
        ];
      }
      by true gone =
          let rose = block.only gone in
          record {
            held = held';
            failed = old.failed ++ length lost ∷ [];
            few = omega (arith, old.few, counted rose.0, length-append old.failed (length lost ∷ []));
            each = All-push (λ n. MayFailIn fails (n * 512) 512) old.failed (length lost) old.each (rw place at rose.1);
            only = λ n m. elim (mark_cases n m) [
              | inl was ↦ Contains-append_left old.failed (length lost ∷ []) n (old.only n was)
              | inr is ↦ rw is.0 (Contains-push old.failed (length lost))
            ];
          }

  -- bytes that begin with all begin with those so far
  pub begins_so_far : (known : List ℕ) → BeginsWith known new → BeginsWith known read
  begins_so_far known all i low =
      all i (omega (arith, low, length-next))
      ∙ ap Some ((let e : get_or new i 0 ≡ get_or (read ++ take len out) i 0 = ap (λ (xs : List ℕ). get_or xs i 0) adds.bytes in e)
      ∙ get_or_append_left read (take len out) 0 i low)

  -- and they have the block after them
  pub block_stands : (known : List ℕ) (start : ℕ) → start ≡ length read → BeginsWith known new →
      AreBytesAt (slice_get known) start (take len out)
  block_stands known start place all k hk =
      all (start + k) (omega (arith, place, hk, length_piece, length-next))
      ∙ ap Some ((let e : get_or new (start + k) 0 ≡ get_or (read ++ take len out) (start + k) 0 = ap (λ (xs : List ℕ). get_or xs (start + k) 0) adds.bytes in e)
      ∙ ap (λ (n : ℕ). get_or (read ++ take len out) n 0) (let at : start + k ≡ length read + k = omega (arith, place) in at)
      ∙ get_or-append-add read (take len out) k 0)

  -- the same if the raw image's bytes are known
  module _ {raw was : Option (List ℕ)} (fails : ℕ → ℕ → Bool) {n start : ℕ} (first before after : ℕ)
      (same : was ≡ raw) (number : length lost ≡ n) (size : length read ≡ 512 * n)
      (place : start ≡ n * 512) (low : first ≤ before) (le : before ≤ after)
      (old : IfSome raw (λ known. AreBlocksRead known fails (before - first) read lost))
      (block : IfSome was (λ known. IsBlockRead known fails start before after out (record { len = len; is_lost = is_lost }))) where
    -- With one more block, the bytes and marks so far are still those of the blocks read.
    pub blocks_next : IfSome raw (λ known. AreBlocksRead known fails (after - first) new more)
    blocks_next = by raw old (rw same at block)
      where
        by : (o : Option (List ℕ)) → IfSome o (λ known. AreBlocksRead known fails (before - first) read lost) →
            IfSome o (λ known. IsBlockRead known fails start before after out (record { len = len; is_lost = is_lost })) →
            IfSome o (λ known. AreBlocksRead known fails (after - first) new more)
        by None old block = tt
        by (Some known) old block =
            one_block (before - first) (after - first) (omega (arith, size, number)) (omega (arith, place, number))
            (omega (arith, le, low)) (λ rose. omega (arith, rose, low)) old block

    -- the image ended in the block
    pub blocks_end : len < 512 → IfSome raw (λ known. AreAllRead known fails (after - first) new more)
    blocks_end short = by raw blocks_next (rw same at block)
      where
        by : (o : Option (List ℕ)) → IfSome o (λ known. AreBlocksRead known fails (after - first) new more) →
            IfSome o (λ known. IsBlockRead known fails start before after out (record { len = len; is_lost = is_lost })) →
            IfSome o (λ known. AreAllRead known fails (after - first) new more)
        by None blocks block = tt
        by (Some known) blocks block = record {
          blocks = blocks;
          ended = inl (omega (arith, block.ended short, place, size, length-next));
        }

-- ---- all blocks

-- as many bytes as the largest extent has are all that matters
pub all_read_full : (fails : ℕ → ℕ → Bool) (raw : Option (List ℕ)) (lost : List Bool) (read : List ℕ) (failures : ℕ) →
    length read ≡ max_extent_bytes → IfSome raw (λ known. AreBlocksRead known fails failures read lost) →
    IfSome raw (λ known. AreAllRead known fails failures read lost)
all_read_full fails None lost read failures full blocks = tt
all_read_full fails (Some known) lost read failures full blocks = record { blocks = blocks; ended = inr full }

-- bytes begin with themselves
pub begins_itself : (bytes : List ℕ) → BeginsWith bytes bytes
begins_itself bytes i low = slice_get-get_or bytes i 0 low

-- ---- the bytes that are left

-- a byte of a block that isn't lost
pub left_at : (bytes : List ℕ) (lost : List Bool) (i : ℕ) → (IsMarked lost (i / 512) → ⊥) →
    byte_left bytes lost i ≡ slice_get bytes i
left_at bytes lost i unmarked = rw (false_from_ne_true (get_or lost (i / 512) false) unmarked)

-- a byte that is left is there, and its block isn't lost
pub left_there : (bytes : List ℕ) (lost : List Bool) (i x : ℕ) → byte_left bytes lost i ≡ Some x →
    (IsMarked lost (i / 512) → ⊥) × (slice_get bytes i ≡ Some x)
left_there bytes lost i x is = by (get_or lost (i / 512) false) refl is
  where
    by : (b : Bool) → get_or lost (i / 512) false ≡ b → (cond b None (slice_get bytes i)) ≡ Some x →
        (IsMarked lost (i / 512) → ⊥) × (slice_get bytes i ≡ Some x)
    by true e h = absurd (none-some x h)
    by false e h = ((λ marked. false≢true (sym e ∙ marked)), h)

module _ {known : List ℕ} {fails : ℕ → ℕ → Bool} {lost : List Bool} {failures : ℕ} {read : List ℕ}
    (all : AreAllRead known fails failures read lost) where
  -- below byte 2^26 those of what was read are those of the raw image
  same_left : (i : ℕ) → i < max_extent_bytes → byte_left read lost i ≡ byte_left known lost i
  same_left i small = by (get_or lost (i / 512) false) refl
    where
      unlost : (IsMarked lost (i / 512) → ⊥) → slice_get read i ≡ slice_get known i
      unlost unmarked = elim (cases_lt i (length read)) [
        | inl low ↦ slice_get-get_or read i 0 low ∙ sym (all.blocks.held i low unmarked)
        | inr high ↦ elim all.ended [
          | inl ended ↦ slice_get_past read i high ∙ sym (slice_get_past known i (omega (arith, ended, high)))
          | inr full ↦ absurd (omega (arith, full, high, small))
        ]
      ]

      by : (b : Bool) → get_or lost (i / 512) false ≡ b →
          (cond b None (slice_get read i)) ≡ (cond b None (slice_get known i))
      by true e = refl
      by false e = unlost (λ marked. false≢true (sym e ∙ marked))

  -- and only those blocks are lost that may be
  loses_blocks : AreBlockMarks read lost → LosesBlocks known (λ _. false) fails failures lost
  loses_blocks blocks = record {
    few_blocks = blocks.few;
    lacks = λ n hn l. absurd (false≢true l.lacks);
    failed = all.blocks.failed;
    few = all.blocks.few;
    each = all.blocks.each;
    only = λ n marked. inr (all.blocks.only n marked);
  }

  front_in : (raw : Option (List ℕ)) → IfSome raw (λ text. known ≡ text) → AreBlockMarks read lost →
      IsFrontBy raw (λ _. false) fails failures read lost
  front_in raw is blocks = record { bytes = known; known = is; loses = loses_blocks blocks; same = same_left }

-- what was read is the front of the raw image if its bytes are known, or else of the bytes that were read
pub front_read : (raw : Option (List ℕ)) {fails : ℕ → ℕ → Bool} {failures : ℕ} {lost : List Bool} {read : List ℕ} →
    IfSome raw (λ known. AreAllRead known fails failures read lost) → AreAllRead read fails failures read lost →
    AreBlockMarks read lost → IsFrontBy raw (λ _. false) fails failures read lost
front_read None all own blocks = front_in own None tt blocks
front_read (Some known) all own blocks = front_in all (Some known) refl blocks

-- ---- more lost blocks

-- no mark yet
pub marks_too_none : (marks lost : List Bool) → MarksToo marks 0 lost lost
marks_too_none marks lost = record {
  one_each = refl;
  marked = λ k. ((λ is. inl is), (λ either. elim either [ inl is ↦ is | inr none ↦ absurd (omega (arith, none.0)) ]));
}

-- a block that isn't marked
pub marks_too_same : (marks : List Bool) (n : ℕ) (old new : List Bool) → get_or marks n false ≡ false → MarksToo marks n old new →
    MarksToo marks (n + 1) old new
marks_too_same marks n old new clear m = record {
  one_each = m.one_each;
  marked = λ k. (
    λ is. elim ((m.marked k).0 is) [ inl was ↦ inl was | inr also ↦ inr (omega (arith, also.0), also.1) ],
    λ either. (m.marked k).1 (elim either [
      | inl was ↦ inl was
      | inr also ↦ elim (cases_eq k n) [
        | inl at ↦ absurd (false≢true (sym clear ∙ ap (λ i. get_or marks i false) (sym at) ∙ also.1))
        | inr ne ↦ inr (omega (arith, also.0, ne), also.1)
      ]
    ]),
  );
}

-- one more block is lost
pub marks_too_more : (marks : List Bool) (n : ℕ) (old new : List Bool) → get_or marks n false ≡ true → n < length new →
    MarksToo marks n old new → MarksToo marks (n + 1) old (set new n true)
marks_too_more marks n old new gone below m = record {
  one_each = length-set new n true ∙ m.one_each;
  marked = λ k. elim (cases_eq k n) [
    | inl at ↦ (
      (λ is. inr (omega (arith, at), ap (λ i. get_or marks i false) at ∙ gone)),
      (λ either. ap (λ i. get_or (set new n true) i false) at ∙ get_or-set_same new n true false below),
    )
    | inr ne ↦
        let same : get_or (set new n true) k false ≡ get_or new k false = get_or-set_other new n k true false ne in (
          (λ is. elim ((m.marked k).0 (sym same ∙ is)) [ inl was ↦ inl was | inr also ↦ inr (omega (arith, also.0), also.1) ]),
          (λ either. same ∙ (m.marked k).1 (elim either [
            | inl was ↦ inl was
            | inr also ↦ inr (omega (arith, also.0, ne), also.1)
          ])),
        )
  ];
}

-- there is a mark of a front for each of these marks
pub marks_fit : (marks : List Bool) (read : List ℕ) (lost : List Bool) → length marks ≡ div_ceil (length read) 512 →
    AreBlockMarks read lost → length marks ≤ length lost
marks_fit marks read lost one_each blocks =
    let least : length marks * 512 < length read + 512 = rw one_each (div_ceil_times (length read) 512 (omega arith)).1 in
    omega (arith, least, blocks.all)

-- the marks of a front with more lost blocks are for blocks that begin before the end, too
pub marks_without : (marks : List Bool) (n : ℕ) (read : List ℕ) (old new : List Bool) → length marks ≡ div_ceil (length read) 512 →
    MarksToo marks n old new → AreBlockMarks read old → AreBlockMarks read new
marks_without marks n read old new one_each more blocks = record {
  all = omega (arith, blocks.all, more.one_each);
  few = omega (arith, blocks.few, more.one_each);
  begins = λ k is. elim ((more.marked k).0 is) [
    | inl was ↦ blocks.begins k was
    | inr also ↦
        let least : length marks * 512 < length read + 512 = rw one_each (div_ceil_times (length read) 512 (omega arith)).1 in
        omega (arith, least, mark_within marks k also.1)
  ];
}

module _ {raw : Option (List ℕ)} {fails : ℕ → ℕ → Bool} {failures : ℕ} {read : List ℕ} {old new marks : List Bool} {lacking : ℕ → Bool} {n : ℕ}
    (f : IsFrontBy raw (λ _. false) fails failures read old) (blocks : AreBlockMarks read old)
    (more : MarksToo marks n old new) (all : length marks ≤ n) (one_each : length marks ≡ div_ceil (length read) 512)
    (lacks : AreLackingBlocks (length read) lacking marks) where
  -- in a block that wasn't lost before a byte was read if it is there
  there : (i : ℕ) → i < max_extent_bytes → (IsMarked old (i / 512) → ⊥) → slice_get read i ≡ slice_get f.bytes i
  there i small unmarked = sym (left_at read old i unmarked) ∙ f.same i small ∙ left_at f.bytes old i unmarked

  lost_too : (k : ℕ) → k < 2 ^ 17 → LacksByte (length f.bytes) lacking k → IsMarked new k
  lost_too k hk l = by (get_or old k false) refl
    where
      by : (b : Bool) → get_or old k false ≡ b → IsMarked new k
      by true e = (more.marked k).1 (inl e)
      by false e =
          let own : l.place / 512 ≡ k = omega (arith, l.low, l.high) in
          let same : slice_get read l.place ≡ slice_get f.bytes l.place =
          there l.place (omega (arith, l.high, hk)) (λ marked. false≢true (sym e ∙ ap (λ i. get_or old i false) (sym own) ∙ marked)) in
          let low : l.place < length read =
          slice_get_within read l.place (get_or f.bytes l.place 0) (same ∙ slice_get-get_or f.bytes l.place 0 l.before_end) in
          let enough : length read ≤ length marks * 512 = rw one_each (div_ceil_times (length read) 512 (omega arith)).0 in
          let here : k < length marks = omega (arith, enough, low, l.low) in
          (more.marked k).1
          (inr (omega (arith, here, all), (lacks k here).1 (record { place = l.place; low = l.low; high = l.high; before_end = low; lacks = l.lacks })))

  lost_only : (k : ℕ) → IsMarked new k → LacksByte (length f.bytes) lacking k ⊎ Contains f.loses.failed k
  lost_only k is = elim ((more.marked k).0 is) [
    | inl was ↦ failed was
    | inr also ↦ by ((lacks k (mark_within marks k also.1)).0 also.1) (get_or old k false) refl
  ]
    where
      failed : IsMarked old k → LacksByte (length f.bytes) lacking k ⊎ Contains f.loses.failed k
      failed was = elim (f.loses.only k was) [ inl none ↦ absurd (false≢true none.lacks) | inr listed ↦ inr listed ]

      by : LacksByte (length read) lacking k → (b : Bool) → get_or old k false ≡ b →
          LacksByte (length f.bytes) lacking k ⊎ Contains f.loses.failed k
      by l true e = failed e
      by l false e =
          let own : l.place / 512 ≡ k = omega (arith, l.low, l.high) in
          let small : l.place < max_extent_bytes = omega (arith, l.before_end, blocks.all, blocks.few) in
          let same : slice_get read l.place ≡ slice_get f.bytes l.place =
          there l.place small (λ marked. false≢true (sym e ∙ ap (λ i. get_or old i false) (sym own) ∙ marked)) in
          inl (record {
            place = l.place;
            low = l.low;
            high = l.high;
            before_end =
                slice_get_within f.bytes l.place (get_or read l.place 0) (sym same ∙ slice_get-get_or read l.place 0 l.before_end);
            lacks = l.lacks;
          })

  same_new : (i : ℕ) → i < max_extent_bytes → byte_left read new i ≡ byte_left f.bytes new i
  same_new i small = by (get_or new (i / 512) false) refl
    where
      by : (b : Bool) → get_or new (i / 512) false ≡ b → (cond b None (slice_get read i)) ≡ (cond b None (slice_get f.bytes i))
      by true e = refl
      by false e = there i small (λ marked. false≢true (sym e ∙ (more.marked (i / 512)).1 (inl marked)))

  -- the front without blocks that lack a byte
  pub front_without : IsFrontBy raw lacking fails failures read new
  front_without = record {
    bytes = f.bytes;
    known = f.known;
    loses = record {
      few_blocks = omega (arith, f.loses.few_blocks, more.one_each);
      lacks = lost_too;
      failed = f.loses.failed;
      few = f.loses.few;
      each = f.loses.each;
      only = lost_only;
    };
    same = same_new;
  }
