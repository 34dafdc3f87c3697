-- Loose copies and crowded extents, by the copies that the code keeps.
use Rattle.std.specs.Prelude.{◌≡◌, ◌==◌, ◌++◌, ℕ, List, Contains, map}
use Rattle.std.specs.List.{list_any}
use Rattle.scrub_scan.specs.declared.standing.Standing.{Standing}
use Rattle.scrub_scan.specs.Scanned.{Scanned}
use Rattle.scrub_check.specs.declared.statuses.checked.Checked.{Checked}
use Rattle.scrub_check.specs.Spares.{AreSpares, spares_by}
use Rattle.scrub_check.specs.steps.LocatorIndex.{AreBarredExtents}
use Rattle.scrub_loose.specs.Copies.{CopiesValue, loose_by}
use Rattle.scrub_loose.specs.Loose.{LooseValue, loose_of}
use Rattle.scrub_reclaim.specs.declared.doubts.Doubt.{Doubt}
use Rattle.scrub_reclaim.specs.Doubts.{crowded_now, first_doubt, loose_doubt}
use Rattle.scrub_reclaim.specs.Room.{is_closed}

-- the copies are kept of a disk with these loose frames: the spares of each named locator and its loose copies, no other loose
-- frame, and the crowded extents in which no copy was looked for
pub record AreKept (all : List Scanned) (checked : List Checked) (loose : LooseValue) (v : CopiesValue) : Type 0 where
  pub spares : AreSpares all checked v.spares
  pub each : (c : Checked) → Contains checked c → loose_by v c ≡ loose_of all loose.frames c
  pub asked : (s : Standing) → Contains v.loose s → (c : Checked) × Contains checked c × Contains (loose_of all loose.frames c) s
  pub crowded : v.crowded ≡ crowded_now all loose.crowded checked

-- the doubt that the loose copies of a named locator make, by the copies that are kept, and by the frames that stay
abbrev pub loose_doubts_by : CopiesValue → List Standing → Checked → List Doubt
loose_doubts_by v stay c = first_doubt (loose_doubt c.owner) (loose_by v c) (spares_by stay c)

-- the extents that hold a loose frame that is kept, and the crowded ones
abbrev pub closed_by : CopiesValue → List ℕ
closed_by v = map (λ s. s.extent) v.loose ++ v.crowded

-- the numbers of the extents into which nothing may be put: those into which unsound locators point, and the closed ones
pub record AreShut (all : List Scanned) (loose : LooseValue) (checked : List Checked) (barred closed : List ℕ) : Type 0 where
  pub unsound : AreBarredExtents checked barred
  pub shut : (e : ℕ) → list_any (λ n. n == e) closed ≡ is_closed all loose checked e
