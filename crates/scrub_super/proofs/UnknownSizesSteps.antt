-- Records in the front of a raw image: those in readable bytes, and the search from one multiple of 64 to the next.
use Rattle.std.proofs.Common.{◌≡◌, ◌<◌, ◌≤◌, ◌+◌, ◌-◌, ◌*◌, ◌/◌, ◌%◌, ◌⊎◌, ◌++◌, ℕ, Bool, List, [], ◌∷◌, length, take, drop, get_or, arith, refl, sym, ◌∙◌, ap, inl, inr, Option, Some, None, IfSome, length-append, option_to_list}
use Rattle.std.specs.List.{between, Contains, AllPairs}
use Rattle.std.proofs.lemmas.Bool.{cases_lt}
use Rattle.std.proofs.lemmas.Option.{slice_get_within, slice_get-get_or, none-some, same_Some}
use Rattle.std.proofs.lemmas.List.{append-nil, get_or_append_left, length-take-le, get_or-take}
use Rattle.std.proofs.lemmas.List.Edits.{length-between, get_or-between}
use Rattle.std.proofs.lemmas.List.Prefix.{front_from_reads}
use Rattle.std.proofs.lemmas.List.Elements.{Contains-push, Contains-push_cases, Contains-append_left}
use Rattle.sha2.specs.Sha256.{sha256}
use Rattle.sha2.proofs.Facts256.{length-sha256}
use Rattle.list_facts.proofs.Rising.{rises_more}
use Rattle.scrub_disk.specs.declared.geometry.Geometry.{Geometry}
use Rattle.scrub_super.specs.declared.unknown_sizes.FoundRecord.{FoundRecord}
use Rattle.scrub_super.specs.declared.kind.RecordKind.{RecordKind}
use Rattle.scrub_super.specs.Contents.{Contents}
use Rattle.scrub_super.specs.Record.{record_bytes, BeginsWithRecord}
use Rattle.scrub_super.specs.steps.RecordRead.{record_body, BeginsWithSome, kind_by}
use Rattle.scrub_super.specs.Pages.{kind_of}
use Rattle.scrub_super.specs.Blocks.{AreBlockMarks, IsMarked, byte_left}
use Rattle.scrub_super.specs.steps.BlocksRead.{IsReadableTo, BeginsInPlace, TellsRecord}
use Rattle.scrub_super.specs.UnknownSizes.{StandsByOwnSizes, IsFoundRecord, AreFoundRecords}
use Rattle.scrub_super.proofs.Found.{known_kind}
use Rattle.scrub_super.proofs.OneRecord.{one_record_lem}
use Rattle.scrub_super.proofs.BlocksFront.{left_at, left_there}

-- a record of any sizes has at least 32 bytes
pub some_record : (g : Geometry) (c : Contents) → 32 ≤ length (record_bytes g c)
some_record g c =
    omega (arith, length-append (record_body g c) (sha256 (record_body g c)), length-sha256 (record_body g c))

-- ---- a record in bytes that are cut off after it

module _ {g : Geometry} {x : List ℕ} {c : Contents} (b : BeginsWithRecord g x c) where
  record_fits : length (record_bytes g c) ≤ length x
  record_fits = omega (arith, ap length b.spelled, length-append (record_bytes g c) b.rest)

  record_reads : (k : ℕ) → k < length (record_bytes g c) → get_or x k 0 ≡ get_or (record_bytes g c) k 0
  record_reads k hk = rw b.spelled (get_or_append_left (record_bytes g c) b.rest 0 k hk)

  -- bytes that read like these begin with it
  record_here : (y : List ℕ) → length (record_bytes g c) ≤ length y →
      ((k : ℕ) → k < length (record_bytes g c) → get_or y k 0 ≡ get_or x k 0) → BeginsWithRecord g y c
  record_here y fits reads = record {
    contents = b.contents;
    rest = drop (length (record_bytes g c)) y;
    spelled = front_from_reads 0 y (record_bytes g c) fits (λ k hk. reads k hk ∙ record_reads k hk);
  }

cut_record : {g : Geometry} {x : List ℕ} (n : ℕ) {c : Contents} → BeginsWithRecord g x c → n ≤ length x →
    length (record_bytes g c) ≤ n → BeginsWithRecord g (take n x) c
cut_record {x = x} n b within fits =
    record_here b (take n x) (omega (arith, length-take-le n x within, fits))
    (λ k hk. get_or-take n x k 0 (omega (arith, hk, fits)))

uncut_record : {g : Geometry} (x : List ℕ) (n : ℕ) {c : Contents} → BeginsWithRecord g (take n x) c → n ≤ length x →
    BeginsWithRecord g x c × (length (record_bytes g c) ≤ n)
uncut_record {g} x n {c} b within =
    let fits : length (record_bytes g c) ≤ n = omega (arith, record_fits b, length-take-le n x within) in
    (record_here b x (omega (arith, fits, within)) (λ k hk. sym (get_or-take n x k 0 (omega (arith, hk, fits)))), fits)

-- ---- the record at one offset

-- how much room there is for a record at an offset
pub record IsRoom (offset size : ℕ) (g : Geometry) (room : ℕ) : Type 0 where
  pub within : room ≤ size
  pub page_bound : 0 < room → offset % g.page ≡ 0
  pub inside : 0 < room → offset + room ≤ g.page * g.pages
  pub all : (n : ℕ) → n ≤ size → offset % g.page ≡ 0 → offset + n ≤ g.page * g.pages → n ≤ room

module _ {bytes part : List ℕ} {offset room : ℕ} {g : Geometry} (fits : IsRoom offset (length bytes) g room)
    (is : part ≡ take room bytes) where
  -- it is enough for each record
  in_room : {r : FoundRecord} → Some g ≡ Some r.geometry → (t : TellsRecord bytes offset r) →
      BeginsWithRecord g part t.0
  in_room e t =
      let place : BeginsInPlace bytes offset g t.0 = rw (same_Some _ _ e) t.2 in
      rw is
      (cut_record room place.begins fits.within
      (fits.all (length (record_bytes g t.0)) (record_fits place.begins) place.page_bound place.within))

  -- If no record begins in the room, none for a disk of these sizes is at the offset.
  pub none_in_room : {r : FoundRecord} → ((c : Contents) → BeginsWithRecord g part c → ⊥) → Some g ≡ Some r.geometry →
      TellsRecord bytes offset r → ⊥
  none_in_room none e t = none t.0 (in_room e t)

  module _ {generation runs : ℕ} {retired : Option ℕ} {kind : RecordKind}
      (some : BeginsWithSome g part generation runs retired) (kind_is : kind ≡ kind_by retired)
    where
      -- A record that begins in the room is at the offset, with its kind and generation.
      pub found_in_room : TellsRecord bytes offset (record { offset = offset; kind = kind; generation = generation; geometry = g })
      found_in_room =
          let whole = uncut_record bytes room (rw is at some.begins) fits.within in
          let positive : 0 < room = omega (arith, whole.1, some_record g some.contents) in (
            some.contents,
            refl,
            record {
              page_bound = fits.page_bound positive;
              within = omega (arith, fits.inside positive, whole.1);
              begins = whole.0;
            },
            kind_is ∙ known_kind some,
            sym some.generation,
          )

      -- A record that begins in the room is the only one at the offset for a disk of these sizes.
      pub only_in_room : {r : FoundRecord} → Some g ≡ Some r.geometry → TellsRecord bytes offset r →
          Some (record { offset = offset; kind = kind; generation = generation; geometry = g }) ≡ Some r
      only_in_room {r} e t =
          let same : some.contents ≡ t.0 = one_record_lem g part _ _ some.begins (in_room e t) in
          let kinds : kind ≡ r.kind = kind_is ∙ known_kind some ∙ ap kind_of same ∙ sym t.3 in
          let generations : generation ≡ r.generation =
          sym some.generation ∙ ap (λ c. c.generation) same ∙ sym t.4 in
          let geometries : g ≡ r.geometry = same_Some _ _ e in
          let place : offset ≡ r.offset = sym t.1 in
          λ i. Some (record { offset = place i; kind = kinds i; generation = generations i; geometry = geometries i })

-- ---- readable bytes from an offset on

module _ (bytes : List ℕ) {lost : List Bool} {offset end : ℕ} (up : IsReadableTo (length bytes) lost offset end) where
  length_part : length (between offset end bytes) ≡ end - offset
  length_part = length-between bytes offset end up.within

  -- each of them is left
  part_left : (k : ℕ) → k < end - offset →
      byte_left bytes lost (offset + k) ≡ Some (get_or (between offset end bytes) k 0)
  part_left k hk =
      left_at bytes lost (offset + k) (up.readable (offset + k) (omega arith) (omega (arith, hk)))
      ∙ slice_get-get_or bytes (offset + k) 0 (omega (arith, hk, up.within))
      ∙ ap Some (sym (get_or-between bytes offset end k 0 (omega (arith, hk))))

  -- and the byte where they end isn't
  end_not_left : {x : ℕ} → byte_left bytes lost end ≡ Some x → ⊥
  end_not_left is =
      let there = left_there bytes lost end _ is in
      there.0 (up.stops (slice_get_within bytes end _ there.1))

  -- a record that they begin with is at the offset
  stands_of_tells : {r : FoundRecord} → offset % 64 ≡ 0 → TellsRecord (between offset end bytes) offset r →
      IsFoundRecord (byte_left bytes lost) r
  stands_of_tells {r} step t = (t.0, rw t.1 stands, t.3, t.4)
    where
      fits : length (record_bytes r.geometry t.0) ≤ end - offset
      fits = omega (arith, record_fits t.2.begins, length_part)

      stands : StandsByOwnSizes (byte_left bytes lost) offset r.geometry t.0
      stands = record {
        step = step;
        page_bound = t.2.page_bound;
        within = t.2.within;
        contents = t.2.begins.contents;
        stands = λ k hk. part_left k (omega (arith, hk, fits)) ∙ ap Some (record_reads t.2.begins k hk);
      }

  -- and the other way round
  tells_of_stands : {r : FoundRecord} → r.offset ≡ offset → IsFoundRecord (byte_left bytes lost) r →
      TellsRecord (between offset end bytes) offset r
  tells_of_stands {r} here f = (
    f.0,
    here,
    record {
      page_bound = stands.page_bound;
      within = stands.within;
      begins = record {
        contents = stands.contents;
        rest = drop (length (record_bytes r.geometry f.0)) (between offset end bytes);
        spelled =
            front_from_reads 0 (between offset end bytes) (record_bytes r.geometry f.0)
            (omega (arith, enough, length_part))
            (λ k hk. same_Some _ _ (sym (part_left k (omega (arith, hk, enough))) ∙ stands.stands k hk));
      };
    },
    f.2,
    f.3,
  )
    where
      stands : StandsByOwnSizes (byte_left bytes lost) offset r.geometry f.0
      stands = rw here at f.1

      enough : length (record_bytes r.geometry f.0) ≤ end - offset
      enough = elim (cases_lt (end - offset) (length (record_bytes r.geometry f.0))) [
        | inl longer ↦
            let at_end : offset + (end - offset) ≡ end = omega (arith, up.from) in
            absurd (end_not_left (rw at_end at (stands.stands (end - offset) longer)))
        | inr fits ↦ fits
      ]

-- ---- all offsets

-- the records below an offset
pub record AreRecordsBelow (at : ℕ → Option ℕ) (limit : ℕ) (records : List FoundRecord) : Type 0 where
  pub rising : AllPairs (λ a b. a.offset < b.offset) records
  pub in_list : (r : FoundRecord) → r.offset < limit → IsFoundRecord at r → Contains records r
  pub below : (r : FoundRecord) → Contains records r → r.offset < limit
  pub found : (r : FoundRecord) → Contains records r → IsFoundRecord at r

-- a multiple of 64 below the next one is this one or lower
this_or_lower : (slot o : ℕ) → o % 64 ≡ 0 → o < (slot + 1) * 64 → (o ≡ slot * 64) ⊎ (o < slot * 64)
this_or_lower slot o step low =
    elim (cases_lt o (slot * 64)) [ inl lower ↦ inr lower | inr from ↦ inl (omega (arith, step, low, from)) ]

multiple : (slot : ℕ) → (slot * 64) % 64 ≡ 0
multiple slot = omega arith

-- the record at the offset is found, if there is one
pub slot_more : (bytes : List ℕ) {part : List ℕ} (lost : List Bool) (slot : ℕ) {end offset : ℕ} {known : Option FoundRecord} {records : List FoundRecord} →
    offset ≡ slot * 64 → part ≡ between (slot * 64) end bytes → IsReadableTo (length bytes) lost (slot * 64) end →
    IfSome known (TellsRecord part offset) → ((r : FoundRecord) → TellsRecord part offset r → known ≡ Some r) →
    AreRecordsBelow (byte_left bytes lost) (slot * 64) records →
    AreRecordsBelow (byte_left bytes lost) ((slot + 1) * 64) (records ++ option_to_list known)
slot_more bytes {part} lost slot {end} {offset} {known} {records} here is up tells only old = by known refl
  where
    next : (r : FoundRecord) → r.offset < (slot + 1) * 64 → IsFoundRecord (byte_left bytes lost) r →
        (known ≡ Some r) ⊎ Contains records r
    next r low f = elim (this_or_lower slot r.offset f.1.step low) [
      | inl same ↦ inl (only r (rw (is, here) (tells_of_stands bytes up same f)))
      | inr lower ↦ inr (old.in_list r lower f)
    ]

    by : (o : Option FoundRecord) → known ≡ o →
        AreRecordsBelow (byte_left bytes lost) ((slot + 1) * 64) (records ++ option_to_list known)
    by None none = rw (none, append-nil) (record {
      rising = old.rising;
      in_list = λ r low f. elim (next r low f) [ inl e ↦ absurd (none-some r (sym none ∙ e)) | inr c ↦ c ];
      below = λ r c. omega (arith, old.below r c);
      found = old.found;
    })
    by (Some one) some =
        let t : TellsRecord (between (slot * 64) end bytes) (slot * 64) one = rw (is, here) at (rw some at tells) in
        let place : one.offset ≡ slot * 64 = t.1 in
        rw some (record {
          rising = rises_more (λ r. r.offset) records one old.rising (λ r c. omega (arith, old.below r c, place));
          in_list = λ r low f. elim (next r low f) [
            | inl e ↦ let same : r ≡ one = same_Some _ _ (sym e ∙ some) in rw same (Contains-push records one)
            | inr c ↦ Contains-append_left records (one ∷ []) r c
          ];
          below = λ r c. elim (Contains-push_cases records one r c) [
            | inl was ↦ omega (arith, old.below r was)
            | inr same ↦ rw (← same) (omega (arith, place))
          ];
          found = λ r c. elim (Contains-push_cases records one r c) [
            | inl was ↦ old.found r was
            | inr same ↦ rw (← same) (stands_of_tells bytes up (multiple slot) t)
          ];
        })

-- a record begins before the bytes end
begins_within : (bytes : List ℕ) (lost : List Bool) (r : FoundRecord) → IsFoundRecord (byte_left bytes lost) r →
    r.offset < length bytes
begins_within bytes lost r f =
    let first = f.1.stands 0 (omega (arith, some_record r.geometry f.0)) in
    omega (arith, slice_get_within bytes (r.offset + 0) _ (left_there bytes lost (r.offset + 0) _ first).1)

-- past all bytes, the records are all that are there
pub all_slots : (bytes : List ℕ) (lost : List Bool) {limit : ℕ} {records : List FoundRecord} → length bytes ≤ limit →
    AreRecordsBelow (byte_left bytes lost) limit records → AreFoundRecords (byte_left bytes lost) records
all_slots bytes lost enough h = record {
  rising = h.rising;
  exact = λ r. (h.found r, λ f. h.in_list r (omega (arith, begins_within bytes lost r f, enough)) f);
}

-- ---- where the readable bytes end

module _ {bytes : List ℕ} {lost : List Bool} {offset block : ℕ} (marks : AreBlockMarks bytes lost)
    (within : offset ≤ length bytes)
    (before : (n : ℕ) → offset / 512 ≤ n → n < block → IsMarked lost n → ⊥) where
  -- Readable bytes end at the first lost block from the offset on, or at the offset if it is in that block.
  pub end_at_block : {end : ℕ} → offset / 512 ≤ block → IsMarked lost block →
      ((end ≡ offset) × (block * 512 ≤ offset)) ⊎ ((end ≡ block * 512) × (offset ≤ block * 512)) →
      IsReadableTo (length bytes) lost offset end
  end_at_block {end} from marked (inl (here, past)) = record {
    from = omega (arith, here);
    within = omega (arith, here, within);
    readable = λ i low high. absurd (omega (arith, low, high, here));
    stops = λ h. let q : end / 512 ≡ block = omega (arith, here, past, from) in rw q marked;
  }
  end_at_block {end} from marked (inr (there, ahead)) = record {
    from = omega (arith, there, ahead);
    within = omega (arith, there, marks.begins block marked);
    readable = λ i low high. before (i / 512) (omega (arith, low)) (omega (arith, high, there));
    stops = λ h. let q : end / 512 ≡ block = omega (arith, there) in rw q marked;
  }

  -- If no block from the offset on is lost, the readable bytes end where all bytes end.
  pub end_with_bytes : length lost ≤ block → IsReadableTo (length bytes) lost offset (length bytes)
  end_with_bytes all = record {
    from = within;
    within = omega arith;
    readable = λ i low high. before (i / 512) (omega (arith, low)) (omega (arith, high, marks.all, all));
    stops = λ h. absurd (omega (arith, h));
  }

-- and they end there for a later offset too
pub end_later : {size : ℕ} {lost : List Bool} {offset later end : ℕ} → IsReadableTo size lost offset end →
    offset ≤ later → later < end → IsReadableTo size lost later end
end_later up le lt = record {
  from = omega (arith, lt);
  within = up.within;
  readable = λ i low high. up.readable i (omega (arith, low, le)) high;
  stops = up.stops;
}
