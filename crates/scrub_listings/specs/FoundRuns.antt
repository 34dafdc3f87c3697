-- The lines of the index runs that are found on a disk, wherever they lie, and where their locators are in extent 0.
use Rattle.std.specs.Prelude.{◌≡◌, ◌↔◌, ◌++◌, ◌∷◌, [], ℕ, Bool, List, IsTrue, codes, length}
use Rattle.std.specs.Fmt.{decimal}
use Rattle.std.specs.List.{flat_map}
use Rattle.scrub_disk.specs.Image.{Image}
use Rattle.scrub_scan.specs.Line.{spaced}
use Rattle.scrub_scan.specs.declared.standing.Standing.{Standing}
use Rattle.scrub_loose.specs.Listed.{AreListedRuns, ListedValue}
use Rattle.scrub_loose.specs.Outer.{IsReadableDisk}
use Rattle.scrub_listings.specs.Locators.{place_words}

-- the line of a run begins with the place of its frame, the length of its payload, its UUID, and how many entries it has:
-- `run EXTENT OFFSET LENGTH UUID SHARDS`
abbrev pub run_words : Standing → ℕ → List ℕ
run_words s count = codes "run" ++ spaced (place_words s.extent s.offset s.length s.uuid) ++ spaced (decimal count)

-- the places of its locator in extent 0, a space before each
abbrev pub at_words : List ℕ → List ℕ
at_words places = flat_map (λ p. spaced (decimal p)) places

-- the line of a run, with its line feed
abbrev pub run_line : ListedValue → List ℕ
run_line v = run_words v.run.frame v.run.entries ++ at_words v.places ++ 10 ∷ []

-- the last line: how many runs there are
abbrev pub runs_total : ℕ → List ℕ
runs_total count = codes "total" ++ spaced (decimal count) ++ 10 ∷ []

-- the text is the lines of the found runs of an image, ascending by place, and of how many there are; the truth value says
-- whether each page of the disk can be read
pub record IsRunsListing (image : Image) (text : List ℕ) (clean : Bool) : Type 0 where
  pub listed : List ListedValue
  pub are : AreListedRuns image listed
  pub text_is : text ≡ flat_map run_line listed ++ runs_total (length listed)
  pub verdict : IsTrue clean ↔ IsReadableDisk image
