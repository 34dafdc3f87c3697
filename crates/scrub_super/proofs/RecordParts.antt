-- The parts of the bytes that begin with a record, by its own numbers and by those in a head.
use Rattle.std.proofs.Common.{◌≡◌, ◌≤◌, ◌+◌, ◌*◌, ◌-◌, ℕ, List, ◌++◌, [], length, take, drop, arith, append_assoc, length-append, sym, ◌∙◌, ap, Option, Some, None, option_map}
use Rattle.std.specs.List.{flat_map}
use Rattle.byteorder.specs.Endian.{big_bytes}
use Rattle.sha2.specs.Sha256.{sha256}
use Rattle.sha2.proofs.Facts256.{length-sha256}
use Rattle.scrub_disk.specs.declared.geometry.Geometry.{Geometry}
use Rattle.scrub_frame.specs.Locator.{locator_bytes}
use Rattle.scrub_frame.proofs.Locators.{length-locators}
use Rattle.scrub_frame.specs.Frame.{digest_size}
use Rattle.scrub_super.specs.Contents.{Contents, retired_in}
use Rattle.scrub_super.specs.Record.{record_bytes, AreContents, BeginsWithRecord}
use Rattle.scrub_super.specs.steps.RecordRead.{record_body, head_bytes, record_head_size, retired_count, digest_place, IsHead}
use Rattle.scrub_super.proofs.BytesInParts.{AreParts, parts_of, whole_of, body_of}
use Rattle.scrub_super.proofs.Fronts.{length_head, one_head}
use Rattle.scrub_super.proofs.Listed.{count_in, length_pointers, length_retired, pointers_in, small_count}

-- what the digest of some contents is taken of, after a head with these numbers
abbrev pub body_behind : Geometry → ℕ → ℕ → Option ℕ → Contents → List ℕ
body_behind g n r k c =
    head_bytes g n r k ++
    (flat_map (big_bytes 4) c.pointers ++ (flat_map (big_bytes 4) (retired_in c) ++ flat_map locator_bytes c.runs))

-- that is a record without its digest: its magic and the number of its retired extents are as in a head, with a list of these
-- and without
pub body_is : (g : Geometry) (c : Contents) → record_body g c ≡ body_behind g c.generation (length c.runs) (count_in c) c
body_is g c = by c.retired
  where
    parts : (head retired : List ℕ) →
        head ++ flat_map (big_bytes 4) c.pointers ++ retired ++ flat_map locator_bytes c.runs
        ≡ head ++ (flat_map (big_bytes 4) c.pointers ++ (retired ++ flat_map locator_bytes c.runs))
    parts head retired =
        append_assoc (head ++ flat_map (big_bytes 4) c.pointers) retired (flat_map locator_bytes c.runs)
        ∙ append_assoc head (flat_map (big_bytes 4) c.pointers) (retired ++ flat_map locator_bytes c.runs)

    by : (o : Option (List ℕ)) →
        record_body g (record c { retired = o })
        ≡ body_behind g c.generation (length c.runs) (option_map length o) (record c { retired = o })
    by None = parts (head_bytes g c.generation (length c.runs) None) (flat_map (big_bytes 4) [])
    by (Some xs) = parts (head_bytes g c.generation (length c.runs) (Some (length xs))) (flat_map (big_bytes 4) xs)

-- and with its digest
pub record_is : (g : Geometry) (c : Contents) →
    record_bytes g c
    ≡ body_behind g c.generation (length c.runs) (count_in c) c ++ sha256 (body_behind g c.generation (length c.runs) (count_in c) c)
record_is g c = ap (λ body. body ++ sha256 body) (body_is g c)

-- the parts of a record of these contents
abbrev pub AreRecordParts : Geometry → List ℕ → ℕ → ℕ → Option ℕ → Contents → Type 0
AreRecordParts g x n r k c =
    AreParts x (head_bytes g n r k) (flat_map (big_bytes 4) c.pointers) (flat_map (big_bytes 4) (retired_in c))
    (flat_map locator_bytes c.runs) (sha256 (body_behind g n r k c))
    (record_head_size k) (4 * (g.extents - 1)) (4 * retired_count k) (60 * r)

-- the parts and the head of a record
module _ {g : Geometry} {x : List ℕ} {c : Contents} (b : BeginsWithRecord g x c) where
  -- The bytes have the parts of the record: head, pointers, retired extents, locators and digest.
  pub record_parts : AreRecordParts g x c.generation (length c.runs) (count_in c) c
  record_parts =
      parts_of b.rest (length_head g c.generation (length c.runs) (count_in c)) (length_pointers (pointers_in b.contents))
      (length_retired c.retired) (length-locators c.runs b.contents.each_run)
      (length-sha256 _) (b.spelled ∙ ap (λ bytes. bytes ++ b.rest) (record_is g c))

  -- The bytes begin with the head of the record.
  pub is_head : IsHead g (take (record_head_size (count_in c)) x) c.generation (length c.runs) (count_in c)
  is_head = record {
    fits = b.contents.generation;
    few = b.contents.run_count;
    small = small_count g c.retired b.contents.retired;
    spelled = record_parts.head_is;
  }

-- a record has at least 32 bytes
pub some_bytes : (g : Geometry) (c : Contents) → 32 ≤ length (record_bytes g c)
some_bytes g c =
    omega (arith, length-append (record_body g c) (sha256 (record_body g c)), length-sha256 (record_body g c))

-- the length of the record of some contents
pub length_record : {g : Geometry} {c : Contents} → AreContents g c →
    length (record_bytes g c) ≡ digest_place g (length c.runs) (count_in c) + digest_size
length_record {g} {c} h = ap length (record_is g c) ∙ with_digest (body_behind g c.generation (length c.runs) (count_in c) c) parts
  where
    parts : length (body_behind g c.generation (length c.runs) (count_in c) c) ≡ digest_place g (length c.runs) (count_in c)
    parts =
        simp length-append
        (omega (
          arith,
          length_head g c.generation (length c.runs) (count_in c),
          length_pointers (pointers_in h),
          length_retired c.retired,
          length-locators c.runs h.each_run,
        ))

    with_digest : (body : List ℕ) {size : ℕ} → length body ≡ size → length (body ++ sha256 body) ≡ size + digest_size
    with_digest body is = omega (arith, is, length-append body (sha256 body), length-sha256 body)

-- Bytes with the parts of a record, of contents within the limits, begin with that record.
pub record_of_parts : {g : Geometry} {x : List ℕ} {c : Contents} → AreContents g c →
    AreRecordParts g x c.generation (length c.runs) (count_in c) c → BeginsWithRecord g x c
record_of_parts {g} {x} {c} contents parts = record {
  contents = contents;
  rest = behind;
  spelled = whole_of parts ∙ ap (λ bytes. bytes ++ behind) (sym (record_is g c));
}
  where
    behind : List ℕ
    behind =
        drop (record_head_size (count_in c) + 4 * (g.extents - 1) + 4 * retired_count (count_in c) + 60 * length c.runs + digest_size) x

-- the same by the head that is there
module _ {g : Geometry} {x : List ℕ} {n r : ℕ} {k : Option ℕ} {c : Contents}
    (h : IsHead g (take (record_head_size k) x) n r k) (b : BeginsWithRecord g x c) where
  -- the head is that of the record
  pub record_head : (c.generation ≡ n) × (length c.runs ≡ r) × (count_in c ≡ k)
  record_head = one_head x (is_head b) h

  -- The parts of the record are where the numbers in the head place them.
  pub known_parts : AreRecordParts g x n r k c
  known_parts = rw (record_head.0, record_head.1, record_head.2) at (record_parts b)

  -- the digest follows what it is taken of
  pub known_digest : take digest_size (drop (digest_place g r k) x) ≡ sha256 (take (digest_place g r k) x)
  known_digest = known_parts.digest_is ∙ ap sha256 (sym (body_of known_parts))
