-- The lines of the named locators: owner, place and status, and of each that has spares, or else loose copies, the first one and
-- how many.
use Rattle.std.specs.Prelude.{◌≡◌, ◌++◌, ◌∷◌, [], ℕ, Bool, List, codes, length}
use Rattle.std.specs.Fmt.{decimal}
use Rattle.std.specs.List.{flat_map}
use Rattle.scrub_disk.specs.Image.{Image}
use Rattle.scrub_frame.specs.declared.locator.Locator.{Locator}
use Rattle.scrub_scan.specs.declared.standing.Standing.{Standing}
use Rattle.scrub_scan.specs.Line.{spaced}
use Rattle.scrub_scan.specs.Scanned.{Scanned}
use Rattle.scrub_check.specs.Spares.{spares_by, spares_of}
use Rattle.scrub_check.specs.declared.statuses.checked.Checked.{Checked}
use Rattle.scrub_loose.specs.Copies.{CopiesValue, loose_by}
use Rattle.scrub_loose.specs.Loose.{AreLoose, LooseValue, loose_of}
use Rattle.scrub_found.specs.Scrubbed.{Scrubbed, IsScrubbed, is_clean_disk}
use Rattle.scrub_found.specs.Texts.{owner_text, status_text, uuid_text}

-- the text of where a locator points: `EXTENT OFFSET LENGTH UUID`
abbrev pub place_text : Locator → List ℕ
place_text l = decimal l.extent ++ spaced (decimal l.offset) ++ spaced (decimal l.length) ++ spaced (uuid_text l.uuid)

-- the line of a named locator: `OWNER EXTENT OFFSET LENGTH UUID STATUS` and a line feed
abbrev pub locator_line : Checked → List ℕ
locator_line c = owner_text c.owner ++ spaced (place_text c.locator) ++ spaced (status_text c.status) ++ 10 ∷ []

-- a place, a length and a UUID: `EXTENT OFFSET LENGTH UUID`
abbrev pub place_words : ℕ → ℕ → ℕ → List ℕ → List ℕ
place_words extent offset size uuid = decimal extent ++ spaced (decimal offset) ++ spaced (decimal size) ++ spaced (uuid_text uuid)

-- the line of the first of some copies, after a word for their kind, and of how many they are: `WORD EXTENT OFFSET LENGTH UUID
-- COUNT` and a line feed
abbrev pub count_line : List ℕ → Standing → ℕ → List ℕ
count_line word s count = word ++ spaced (place_words s.extent s.offset s.length s.uuid) ++ spaced (decimal count) ++ 10 ∷ []

-- that line, if there are copies, or else nothing
abbrev pub copies_line : List ℕ → List Standing → List ℕ
copies_line word [] = []
copies_line word (s ∷ ss) = count_line word s (length (s ∷ ss))

-- the lines of the spares and of the loose copies of one locator: one at most, as a locator with a spare has no loose copies
abbrev pub copies_lines : List Standing → List Standing → List ℕ
copies_lines spares loose = copies_line (codes "spare") spares ++ copies_line (codes "loose") loose

-- the line of a named locator, and after it that of its spares, or that of its loose copies
abbrev pub lines_of_one : List Scanned → List Standing → Checked → List ℕ
lines_of_one all loose c = locator_line c ++ copies_lines (spares_of all c) (loose_of all loose c)

-- the lines of some named locators, in their order, by the loose frames of the disk
abbrev pub locator_lines : List Scanned → List Standing → List Checked → List ℕ
locator_lines all loose checked = flat_map (lines_of_one all loose) checked

-- the lines of a named locator, by the frames among which its copies are
abbrev pub lines_by : CopiesValue → Checked → List ℕ
lines_by v c = locator_line c ++ copies_lines (spares_by v.spares c) (loose_by v c)

-- the text is the lines of the named locators of what is found in an image, and the truth value says whether it is clean
pub record IsLocatorListing (image : Image) (text : List ℕ) (clean : Bool) : Type 0 where
  pub found : Scrubbed
  pub scrubbed : IsScrubbed image found
  pub loose : LooseValue
  pub are_loose : AreLoose [] image found.plan loose
  pub text_is : text ≡ locator_lines found.all loose.frames found.checked
  pub verdict : clean ≡ is_clean_disk found
