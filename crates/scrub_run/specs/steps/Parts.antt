-- The parts of an index run, each by itself, as the code reads and writes them.
use Rattle.std.specs.Prelude.{◌≡◌, ◌≤◌, ℕ, List, ◌∷◌, ◌++◌, length, All}
use Rattle.std.specs.List.{flat_map}
use Rattle.byteorder.specs.Endian.{big_bytes}
use Rattle.scrub_frame.specs.Locator.{locator_bytes, IsLocator}
use Rattle.scrub_run.specs.Entry.{EntryValue}
use Rattle.scrub_run.specs.Run.{run_magic}

-- the bytes of an entry
abbrev pub entry_bytes : EntryValue → List ℕ
entry_bytes e = e.id.0 ++ (length e.locators ∷ flat_map locator_bytes e.locators)

-- an entry that a run can hold
abbrev pub IsEntry : EntryValue → Type 0
IsEntry e = (length e.id.0 ≡ 16) × (length e.locators ≤ 64) × All IsLocator e.locators

-- all of a run before its digest
abbrev pub run_body : List EntryValue → List ℕ
run_body entries = run_magic ++ (big_bytes 4 (length entries) ++ flat_map entry_bytes entries)
