-- What was found in the front of a raw image is what the raw image holds, and there is one answer.
use Rattle.std.proofs.Common.{◌≡◌, ◌<◌, ◌+◌, ℕ, Bool, List, arith, sym, ◌∙◌, Option}
use Rattle.list_facts.proofs.Rising.{one_rising_by}
use Rattle.scrub_disk.specs.Limits.{max_extent_bytes}
use Rattle.scrub_super.specs.declared.unknown_sizes.FoundRecord.{FoundRecord}
use Rattle.scrub_super.specs.declared.unknown_sizes.LostBytes.{LostBytes}
use Rattle.scrub_super.specs.Blocks.{byte_left}
use Rattle.scrub_super.specs.UnknownSizes.{IsFoundRecord, IsFrontBy, AreFoundRecords, AreLostRanges, AreFoundByOwnSizes, AreFoundInSome}

-- a record depends only on the bytes below 2^26
pub same_record : (at also : ℕ → Option ℕ) (r : FoundRecord) → ((i : ℕ) → i < max_extent_bytes → at i ≡ also i) →
    IsFoundRecord at r → IsFoundRecord also r
same_record at also r same f = (
  f.0,
  record {
    step = f.1.step;
    page_bound = f.1.page_bound;
    within = f.1.within;
    contents = f.1.contents;
    stands = λ k hk.
        sym (same (r.offset + k) (omega (arith, hk, f.1.within, r.geometry.extent_fits))) ∙ f.1.stands k hk;
  },
  f.2,
  f.3,
)

same_records : {at also : ℕ → Option ℕ} {records : List FoundRecord} → ((i : ℕ) → i < max_extent_bytes → at i ≡ also i) →
    AreFoundRecords at records → AreFoundRecords also records
same_records {at} {also} same h = record {
  rising = h.rising;
  exact = λ r. (
    (λ c. same_record at also r same ((h.exact r).0 c)),
    (λ f. (h.exact r).1 (same_record also at r (λ i small. sym (same i small)) f)),
  );
}

-- what is found in a front is what the bytes have of which it is the front
pub found_in_front : (raw : Option (List ℕ)) (lacking : ℕ → Bool) (fails : ℕ → ℕ → Bool) (failures : ℕ) {lost : List Bool} {read : List ℕ} {records : List FoundRecord} {ranges : List LostBytes} →
    IsFrontBy raw lacking fails failures read lost → AreFoundRecords (byte_left read lost) records → AreLostRanges lost ranges →
    AreFoundInSome raw lacking fails failures records ranges
found_in_front raw lacking fails failures {lost} f hr hl = record {
  bytes = f.bytes;
  known = f.known;
  found = record { lost = lost; loses = f.loses; found = record { records_are = same_records f.same hr; ranges_are = hl } };
}

-- records and lost ranges that are found are one answer
pub one_answer_lem : (bytes : List ℕ) (lost : List Bool) (a b : List FoundRecord) (r s : List LostBytes) →
    AreFoundByOwnSizes bytes lost a r → AreFoundByOwnSizes bytes lost b s → (a ≡ b) × (r ≡ s)
one_answer_lem bytes lost a b r s x y = (
  one_rising_by (λ f. f.offset) a b x.records_are.rising y.records_are.rising
      (λ f c. (y.records_are.exact f).1 ((x.records_are.exact f).0 c))
      (λ f c. (x.records_are.exact f).1 ((y.records_are.exact f).0 c)),
  one_rising_by (λ l. l.from) r s x.ranges_are.rising y.ranges_are.rising
      (λ l c. (y.ranges_are.exact l).1 ((x.ranges_are.exact l).0 c))
      (λ l c. (x.ranges_are.exact l).1 ((y.ranges_are.exact l).0 c)),
)
