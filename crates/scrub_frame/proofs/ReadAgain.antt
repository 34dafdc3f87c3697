-- Values that are read from the bytes that spell them: locators, and lists whose elements are spelled in parts of one size.
use Rattle.std.proofs.Common.{◌≡◌, ◌<◌, ◌^◌, ℕ, List, length, take, drop}
use Rattle.std.proofs.lemmas.List.{take_at, drop_at}
use Rattle.byteorder.specs.Endian.{big_number}
use Rattle.list_facts.proofs.Decisions.{Decided, decided_both, decided_less, decided_like, decided_number}
use Rattle.scrub_frame.specs.declared.locator.Locator.{Locator}
use Rattle.scrub_frame.specs.Locator.{locator_bytes, IsLocator}
use Rattle.scrub_frame.specs.Frame.{digest_size}
use Rattle.scrub_frame.proofs.Bytes.{number-bytes}

-- the locator that sixty bytes spell
abbrev pub read_locator : List ℕ → Locator
read_locator y = record {
  extent = big_number 4 (take 4 y);
  offset = big_number 4 (take 4 (drop 4 y));
  length = big_number 4 (take 4 (drop 8 y));
  uuid = take 16 (drop 12 y);
  digest = drop 28 y;
}

-- a locator is read again from the bytes that spell it
pub locator_again : (l : Locator) → IsLocator l → read_locator (locator_bytes l) ≡ l
locator_again l h = λ i. record { extent = a i; offset = b i; length = c i; uuid = d i; digest = e i }
  where
    a : big_number 4 (take 4 (locator_bytes l)) ≡ l.extent
    a = number-bytes l.extent h.extent

    b : big_number 4 (take 4 (drop 4 (locator_bytes l))) ≡ l.offset
    b = number-bytes l.offset h.offset

    c : big_number 4 (take 4 (drop 8 (locator_bytes l))) ≡ l.length
    c = number-bytes l.length h.size

    d : take 16 (drop 12 (locator_bytes l)) ≡ l.uuid
    d = take_at l.uuid l.digest 16 h.uuid

    e : drop 28 (locator_bytes l) ≡ l.digest
    e = drop_at l.uuid l.digest 16 h.uuid

-- whether a locator keeps the limits of its fields is decided
pub decided_locator : (l : Locator) → Decided (IsLocator l)
decided_locator l =
    let numbers : Decided ((l.extent < 2 ^ 32) × (l.offset < 2 ^ 32)) =
    decided_both (decided_less l.extent (2 ^ 32)) (decided_less l.offset (2 ^ 32)) in
    let sizes : Decided ((l.length < 2 ^ 32) × (length l.uuid ≡ 16)) =
    decided_both (decided_less l.length (2 ^ 32)) (decided_number (length l.uuid) 16) in
    let both : Decided (((l.extent < 2 ^ 32) × (l.offset < 2 ^ 32)) × ((l.length < 2 ^ 32) × (length l.uuid ≡ 16))) =
    decided_both numbers sizes in
    let all : Decided ((((l.extent < 2 ^ 32) × (l.offset < 2 ^ 32)) × ((l.length < 2 ^ 32) × (length l.uuid ≡ 16))) × (length l.digest ≡ digest_size)) =
    decided_both both (decided_number (length l.digest) digest_size) in
    decided_like all
    (λ h. record { extent = h.0.0.0; offset = h.0.0.1; size = h.0.1.0; uuid = h.0.1.1; digest = h.1 })
    (λ h. (((h.extent, h.offset), (h.size, h.uuid)), h.digest))
