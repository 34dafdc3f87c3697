-- What each page of extent 0 holds: a record there is decided, and so is each other case. So an image has a list of what
-- they hold.
use Rattle.std.proofs.Common.{◌≡◌, ◌⊎◌, ◌<◌, ◌≤◌, ◌+◌, ◌*◌, ℕ, suc, Bool, true, false, List, length, map, take, refl, sym, ◌∙◌, arith, subst, Option, Some, None, inl, inr, nat_lt, slice_get, if◌then◌else◌}
use Rattle.std.specs.List.{list_any, range_with_len}
use Rattle.std.proofs.Math.Nat.{le-mul_of_pos_right}
use Rattle.std.proofs.lemmas.List.FromFn.{get_or-map-range_with_len, length-map-range_with_len}
use Rattle.std.proofs.lemmas.Option.{get_or_from_slice_get, none-some, same_Some, slice_get_within}
use Rattle.list_facts.proofs.Decisions.{Decided, decided_at_most, decided_below, decided_both, decided_less, decided_like, decided_not, decided_number, decided_numbers, some_below}
use Rattle.scrub_disk.specs.Image.{Image}
use Rattle.scrub_super.specs.declared.kind.RecordKind.{RecordKind}
use Rattle.scrub_super.specs.declared.kind.RecordKind.TheVariants.{Ssb1, Ssb2}
use Rattle.scrub_super.specs.declared.pages.Rank.{Rank}
use Rattle.scrub_super.specs.declared.pages.Rank.TheVariants.{Tie, Counts, Older}
use Rattle.scrub_super.specs.declared.pages.SuperblockPage.{SuperblockPage}
use Rattle.scrub_super.specs.declared.pages.SuperblockPage.TheVariants.{Lost, Record, Damaged, Stray, Held}
use Rattle.scrub_super.specs.Contents.{Contents}
use Rattle.scrub_super.specs.Record.{record_bytes}
use Rattle.scrub_super.specs.Chosen.{RecordStandsAt, newest_records}
use Rattle.scrub_super.specs.Pages.{AreSuperblockPages, HasLooseLetters, HasStrayByte, IsHeldByte, IsRank, IsRecordless, IsSuperblockPage, kind_of, magic_of}
use Rattle.scrub_super.proofs.Laws.{one_record_on_page}
use Rattle.scrub_super.proofs.RecordsThere.{record_there, some_choice}

-- how new a record is
some_rank : (image : Image) (n : ℕ) → (rank : Rank) × IsRank image n rank
some_rank image n =
    let c = some_choice image in (
      (if list_any (λ r. nat_lt n r.1.generation) c.1.valid then Older
          else if nat_lt 1 (length (newest_records c.1.valid)) then Tie else Counts),
      (c.1.valid, c.1.are, refl),
    )

-- the byte is in a record of these contents that begins at a page
abbrev IsWithin : Image → ℕ → ℕ → Contents → Type 0
IsWithin image i start c =
    (start * image.geometry.page ≤ i) × (i < start * image.geometry.page + length (record_bytes image.geometry c))

-- the record at a page holds the byte
abbrev Holds : Image → ℕ → ℕ → Type 0
Holds image i start = (c : Contents) × RecordStandsAt image start c × IsWithin image i start c

decided_holds : (image : Image) (i start : ℕ) → Decided (Holds image i start)
decided_holds image i start = by (record_there image start)
  where
    by : ((c : Contents) × RecordStandsAt image start c) ⊎ ((c : Contents) → RecordStandsAt image start c → ⊥) →
        Decided (Holds image i start)
    by (inr none) = inr (λ x. none x.0 x.1)
    by (inl x) =
        within
        (decided_both (decided_at_most (start * image.geometry.page) i)
        (decided_less i (start * image.geometry.page + length (record_bytes image.geometry x.0))))
      where
        within : Decided (IsWithin image i start x.0) → Decided (Holds image i start)
        within (inl both) = inl (x.0, x.1, both)
        within (inr outside) = inr (λ y.
            let same : y.0 ≡ x.0 = one_record_on_page image start y.0 x.0 y.1 x.1 in
            outside (subst (IsWithin image i start) same y.2))

-- a page starts at or past its number, so the search ends
start_below : (page start i : ℕ) → 0 < page → start * page ≤ i → start < suc i
start_below page start i some from =
    let most : start ≤ start * page = le-mul_of_pos_right start some in omega (arith, most, from)

-- whether a record holds a byte
pub decided_held : (image : Image) (i : ℕ) → Decided (IsHeldByte image i)
decided_held image i = by (some_below (Holds image i) (decided_holds image i) (suc i))
  where
    by : ((k : ℕ) × (k < suc i) × Holds image i k) ⊎ ((k : ℕ) → k < suc i → Holds image i k → ⊥) → Decided (IsHeldByte image i)
    by (inl (k, below, x)) = inl (record { start = k; contents = x.0; stands = x.1; from = x.2.0; to = x.2.1 })
    by (inr none) = inr (λ h.
        none h.start (start_below image.geometry.page h.start i (omega (arith, image.geometry.page_least)) h.from)
        (h.contents, h.stands, (h.from, h.to)))

-- byte k of a page is held unless it is zero
abbrev IsHeldUnlessZero : Image → ℕ → List ℕ → ℕ → Type 0
IsHeldUnlessZero image q bytes k =
    (b : ℕ) → slice_get bytes k ≡ Some b → ¬ (b ≡ 0) → IsHeldByte image (q * image.geometry.page + k)

decided_byte : (image : Image) (q : ℕ) (bytes : List ℕ) (k : ℕ) → Decided (IsHeldUnlessZero image q bytes k)
decided_byte image q bytes k = by (slice_get bytes k) refl
  where
    by : (o : Option ℕ) → slice_get bytes k ≡ o → Decided (IsHeldUnlessZero image q bytes k)
    by None none = inl (λ b is other. absurd (none-some b (sym none ∙ is)))
    by (Some v) is = by_zero (decided_number v 0) (decided_held image (q * image.geometry.page + k))
      where
        by_zero : Decided (v ≡ 0) → Decided (IsHeldByte image (q * image.geometry.page + k)) →
            Decided (IsHeldUnlessZero image q bytes k)
        by_zero (inl zero) d = inl (λ b at other. absurd (other (same_Some b v (sym at ∙ is) ∙ zero)))
        by_zero (inr other) (inl held) = inl (λ b at o. held)
        by_zero (inr other) (inr loose) = inr (λ all. loose (all v is other))

some_stray : (image : Image) (q : ℕ) (bytes : List ℕ) → (stray : Bool) × HasStrayByte image q bytes stray
some_stray image q bytes =
    by (decided_below (IsHeldUnlessZero image q bytes) (decided_byte image q bytes) (length bytes))
  where
    by : Decided ((k : ℕ) → k < length bytes → IsHeldUnlessZero image q bytes k) →
        (stray : Bool) × HasStrayByte image q bytes stray
    by (inl all) = (false, (λ k b is other. all k (slice_get_within bytes k b is) b is other))
    by (inr fails) = (true, (λ held. fails (λ k below b is other. held k b is other)))

decided_letters : (image : Image) (q : ℕ) (bytes : List ℕ) (kind : RecordKind) → Decided (HasLooseLetters image q bytes kind)
decided_letters image q bytes kind =
    decided_like
    (decided_both (decided_numbers (take 4 bytes) (magic_of kind)) (decided_not (decided_held image (q * image.geometry.page))))
    (λ h. record { letters = h.0; loose = h.1 })
    (λ l. (l.letters, l.loose))

some_page : (image : Image) (q : ℕ) → (page : SuperblockPage) × IsSuperblockPage image q page
some_page image q = by_bytes (image.page 0 q) refl
  where
    by_bytes : (o : Option (List ℕ)) → image.page 0 q ≡ o → (page : SuperblockPage) × IsSuperblockPage image q page
    by_bytes None lost = (Lost, lost)
    by_bytes (Some bytes) readable = by_record (record_there image q)
      where
        stray : (stray : Bool) × HasStrayByte image q bytes stray
        stray = some_stray image q bytes

        by_record : ((c : Contents) × RecordStandsAt image q c) ⊎ ((c : Contents) → RecordStandsAt image q c → ⊥) →
            (page : SuperblockPage) × IsSuperblockPage image q page
        by_record (inl x) =
            let rank = some_rank image x.0.generation in (
              Record (kind_of x.0) x.0.generation (q * image.geometry.page + length (record_bytes image.geometry x.0)) rank.0 stray.0,
              (x.0, x.1, refl, refl, refl, rank.1, (bytes, readable, stray.1)),
            )
        by_record (inr none) = by_letters (decided_letters image q bytes Ssb1) (decided_letters image q bytes Ssb2)
          where
            recordless : IsRecordless image q bytes
            recordless = record { readable = readable; no_record = λ r. none r.0 r.1 }

            by_letters : Decided (HasLooseLetters image q bytes Ssb1) → Decided (HasLooseLetters image q bytes Ssb2) →
                (page : SuperblockPage) × IsSuperblockPage image q page
            by_letters (inl one) d = (Damaged Ssb1, (bytes, recordless, one))
            by_letters (inr neither) (inl two) = (Damaged Ssb2, (bytes, recordless, two))
            by_letters (inr neither) (inr nor) = by_stray stray.0 stray.1
              where
                none_loose : (kind : RecordKind) → ¬ HasLooseLetters image q bytes kind
                none_loose Ssb1 = neither
                none_loose Ssb2 = nor

                by_stray : (b : Bool) → HasStrayByte image q bytes b → (page : SuperblockPage) × IsSuperblockPage image q page
                by_stray true is = (Stray, (bytes, recordless, none_loose, is))
                by_stray false is = (Held, (bytes, recordless, none_loose, is))

-- an image has a list of what its pages of extent 0 hold
pub some_pages : (image : Image) → (pages : List SuperblockPage) × AreSuperblockPages image pages
some_pages image = (
  map (λ q. (some_page image q).0) (range_with_len 0 n),
  record {
    count = length-map-range_with_len (λ q. (some_page image q).0) 0 n;
    each = λ q page is.
        let many : length (map (λ r. (some_page image r).0) (range_with_len 0 n)) ≡ n =
        length-map-range_with_len (λ r. (some_page image r).0) 0 n in
        let here : q < length (map (λ r. (some_page image r).0) (range_with_len 0 n)) =
        slice_get_within (map (λ r. (some_page image r).0) (range_with_len 0 n)) q page is in
        let there : page ≡ (some_page image q).0 =
        sym (get_or_from_slice_get (map (λ r. (some_page image r).0) (range_with_len 0 n)) q page page is)
        ∙ get_or-map-range_with_len (λ r. (some_page image r).0) 0 n q q page (omega (arith, here, many)) (omega arith) in
        subst (λ (p : SuperblockPage). IsSuperblockPage image q p) (sym there) (some_page image q).1;
  },
)
  where
    n : ℕ
    n = image.geometry.pages
