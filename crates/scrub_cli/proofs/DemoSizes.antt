-- How many bytes the parts of the demo's disk have.
use Rattle.std.proofs.Common.{◌≡◌, ℕ, List, [], ◌∷◌, ◌++◌, ◌∙◌, None, length, arith, ap, length-append}
use Rattle.std.specs.List.{flat_map}
use Rattle.std.proofs.lemmas.List.Elements.{All-head}
use Rattle.sha2.specs.Sha256.{sha256}
use Rattle.sha2.proofs.Facts256.{length-sha256}
use Rattle.scrub_disk.specs.declared.geometry.Geometry.{Geometry}
use Rattle.scrub_frame.specs.declared.locator.Locator.{Locator}
use Rattle.scrub_frame.specs.Locator.{locator_bytes}
use Rattle.scrub_frame.proofs.Locators.{length-locators}
use Rattle.scrub_run.specs.Entry.{EntryValue}
use Rattle.scrub_run.specs.Run.{IsRun}
use Rattle.scrub_run.specs.steps.Parts.{entry_bytes, IsEntry, run_body}
use Rattle.scrub_super.specs.Contents.{Contents}
use Rattle.scrub_super.specs.Record.{record_bytes, AreContents}
use Rattle.scrub_super.proofs.RecordParts.{length_record}

-- a run of one shard with one chunk
pub run_size : (e : EntryValue) (payload : List ℕ) → length e.locators ≡ 1 → IsRun payload (e ∷ []) → length payload ≡ 117
run_size e payload one is =
    omega (
      arith,
      ap length is.spelled,
      length-append (run_body (e ∷ [])) (sha256 (run_body (e ∷ []))),
      length-sha256 (run_body (e ∷ [])),
      body,
    )
  where
    entry : IsEntry e
    entry = All-head IsEntry e [] is.entries_of_run.each

    spelled : length (flat_map entry_bytes (e ∷ [])) ≡ 77
    spelled =
        omega (
          arith,
          length-append (entry_bytes e) [],
          length-append e.id.0 (length e.locators ∷ flat_map locator_bytes e.locators),
          length-locators e.locators entry.2,
          entry.0,
          one,
        )

    body : length (run_body (e ∷ [])) ≡ 85
    body = omega (arith, spelled)

-- what is written of a record, by its parts
pub record_written : (g : Geometry) (n : ℕ) (ps qs : List ℕ) (rs ts : List Locator) (c : Contents) (bytes before : List ℕ) →
    c ≡ record { generation = n; pointers = ps; retired = None; runs = rs } →
    bytes ≡ before ++ record_bytes g c → before ≡ [] → ps ≡ qs → rs ≡ ts →
    bytes ≡ record_bytes g (record { generation = n; pointers = qs; retired = None; runs = ts })
record_written g n ps qs rs ts c bytes before same written none pointers runs =
    written ∙ ap (λ (xs : List ℕ). xs ++ record_bytes g c) none ∙ ap (record_bytes g) same
    ∙ ap (λ (xs : List ℕ). record_bytes g (record { generation = n; pointers = xs; retired = None; runs = rs })) pointers
    ∙ ap (λ (ls : List Locator). record_bytes g (record { generation = n; pointers = qs; retired = None; runs = ls })) runs

-- a record of two pointers and one run, which lists no retired extents
pub record_size : (g : Geometry) (n : ℕ) (ps : List ℕ) (rs : List Locator) (c : Contents) (bytes before : List ℕ) →
    c ≡ record { generation = n; pointers = ps; retired = None; runs = rs } →
    bytes ≡ before ++ record_bytes g c → before ≡ [] → length ps ≡ 2 → length rs ≡ 1 → AreContents g c → length bytes ≡ 126
record_size g n ps rs c bytes before same written none two one is =
    omega (arith, ap length written, length-append before (record_bytes g c), ap length none, whole)
  where
    known : AreContents g (record { generation = n; pointers = ps; retired = None; runs = rs })
    known = rw same at is

    whole : length (record_bytes g c) ≡ 126
    whole =
        omega (
          arith,
          ap (λ (x : Contents). length (record_bytes g x)) same,
          length_record known,
          known.pointer_count,
          two,
          one,
        )
