-- Index runs as payloads: `RUN1`, the number of entries, the entries, and the SHA-256 (FIPS 180-4) of all before it.
-- Numbers are big-endian.
use Rattle.std.specs.Prelude.{◌≡◌, ◌<◌, ◌≤◌, ◌^◌, ℕ, List, ◌∷◌, ◌++◌, length, All, AllPairs, codes}
use Rattle.std.specs.List.{flat_map}
use Rattle.byteorder.specs.Endian.{big_bytes}
use Rattle.sha2.specs.Sha256.{sha256}
use Rattle.scrub_frame.specs.Locator.{locator_bytes, IsLocator}
use Rattle.scrub_run.specs.Entry.{EntryValue, IsBelow}

-- the four bytes that each run begins with
abbrev pub run_magic : List ℕ
run_magic = codes "RUN1"

-- the bytes of the run of these entries: `RUN1`; the number of entries in four bytes; of each entry the identifier, the
-- number of its locators in one byte, and the locators; and the digest of all before it
abbrev pub run_bytes : List EntryValue → List ℕ
run_bytes entries =
    let body = codes "RUN1" ++ (big_bytes 4 (length entries)
    ++ flat_map (λ (e : EntryValue). e.id.0 ++ (length e.locators ∷ flat_map locator_bytes e.locators)) entries) in
    body ++ sha256 body

-- each identifier is below those of all later entries
abbrev pub RisesById : List EntryValue → Type 0
RisesById entries = AllPairs (λ e f. IsBelow e.id f.id) entries

-- what a run can hold: fewer than 2^32 entries, each with an identifier of sixteen bytes and at most 64 locators, each
-- identifier below those of all later entries
pub record AreEntries (entries : List EntryValue) : Type 0 where
  pub count : length entries < 2 ^ 32
  pub each : All (λ (e : EntryValue). (length e.id.0 ≡ 16) × (length e.locators ≤ 64) × All IsLocator e.locators) entries
  pub rising : AllPairs (λ e f. IsBelow e.id f.id) entries

-- the payload is, from its first byte to its last, the run of these entries; that of no entries has forty bytes
pub record IsRun (payload : List ℕ) (entries : List EntryValue) : Type 0 where
  pub entries_of_run : AreEntries entries
  pub spelled : payload ≡ run_bytes entries
