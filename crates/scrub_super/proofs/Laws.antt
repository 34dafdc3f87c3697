-- At most one record begins on a page, so an image has one choice.
use Rattle.std.proofs.Common.{◌≡◌, ◌≤◌, ℕ, List, [], length, drop, arith, sym, ◌∙◌, ap, inl, inr, nat_lt, option_map, slice_get}
use Rattle.std.proofs.lemmas.Bool.{cases_lt}
use Rattle.std.proofs.lemmas.Option.{same_Some}
use Rattle.std.proofs.lemmas.List.{append-nil}
use Rattle.std.proofs.lemmas.List.Prefix.{front_from_reads}
use Rattle.list_facts.proofs.Rising.{one_rising_by}
use Rattle.scrub_disk.specs.Image.{Image}
use Rattle.scrub_super.specs.Contents.{Contents}
use Rattle.scrub_super.specs.Record.{record_bytes}
use Rattle.scrub_super.specs.Chosen.{AreRecords, Choice, IsChoice, RecordStandsAt, newest_records}
use Rattle.scrub_super.proofs.OneRecord.{one_record_lem}

-- if one record is as long as the other or longer
longer_record : {image : Image} {g : ℕ} (c d : Contents) →
    length (record_bytes image.geometry d) ≤ length (record_bytes image.geometry c) →
    RecordStandsAt image g c → RecordStandsAt image g d → c ≡ d
longer_record {image} c d fits h k = one_record_lem image.geometry whole c d
    (record { contents = h.contents; rest = []; spelled = sym (append-nil whole) })
    (record {
      contents = k.contents;
      rest = drop (length (record_bytes image.geometry d)) whole;
      spelled =
          front_from_reads 0 whole (record_bytes image.geometry d) fits
          (λ i hi. same_Some _ _ (sym (h.stands i (omega arith)) ∙ k.stands i hi));
    })
  where
    whole : List ℕ
    whole = record_bytes image.geometry c

-- two records on one page are the same
pub one_record_on_page : (image : Image) (g : ℕ) (c d : Contents) → RecordStandsAt image g c →
    RecordStandsAt image g d → c ≡ d
one_record_on_page image g c d h k = elim (cases_lt (length (record_bytes image.geometry c)) (length (record_bytes image.geometry d))) [
  | inl shorter ↦ sym (longer_record d c (omega arith) k h)
  | inr fits ↦ longer_record c d fits h k
]

-- ---- the choice

-- two lists of an image's records are the same
pub one_list_of_records : {image : Image} {rs ss : List (ℕ × Contents)} → AreRecords image rs → AreRecords image ss → rs ≡ ss
one_list_of_records {image} {rs} {ss} x y =
    one_rising_by (λ (r : ℕ × Contents). r.0) rs ss x.rising y.rising
    (λ r there. (y.exact r.0 r.1).1 ((x.exact r.0 r.1).0 there))
    (λ r there. (x.exact r.0 r.1).1 ((y.exact r.0 r.1).0 there))

-- and so are two choices of it
pub one_choice_lem : (image : Image) (a b : Choice) → IsChoice image a → IsChoice image b → a ≡ b
one_choice_lem image a b x y =
    let valid : x.valid ≡ y.valid = one_list_of_records x.are y.are in
    let geometry : a.geometry ≡ b.geometry = x.geometry ∙ sym y.geometry in
    let superblock : a.superblock ≡ b.superblock =
    x.superblock
    ∙ ap (λ (rs : List (ℕ × Contents)). option_map (λ r. r.1) (slice_get (newest_records rs) 0)) valid
    ∙ sym y.superblock in
    let page : a.page ≡ b.page =
    x.page ∙ ap (λ (rs : List (ℕ × Contents)). option_map (λ r. r.0) (slice_get (newest_records rs) 0)) valid ∙ sym y.page in
    let records : a.records ≡ b.records = x.records ∙ ap (λ (rs : List (ℕ × Contents)). length rs) valid ∙ sym y.records in
    let tie : a.tie ≡ b.tie =
    x.tie ∙ ap (λ (rs : List (ℕ × Contents)). nat_lt 1 (length (newest_records rs))) valid ∙ sym y.tie in
    let bad_pages : a.bad_pages ≡ b.bad_pages = x.bad_pages ∙ sym y.bad_pages in
    λ i. record
    { geometry = geometry i; superblock = superblock i; page = page i; records = records i; tie = tie i; bad_pages = bad_pages i }
