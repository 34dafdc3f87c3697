-- What the lines of a disk are made of, as the code keeps it.
use Rattle.std.specs.Prelude.{◌==◌, ◌++◌, ℕ, Bool, List, Option, [], length, map, if◌then◌else◌}
use Rattle.std.specs.List.Sorted.{IsPermutation}
use Rattle.scrub_disk.specs.Image.{Image}
use Rattle.scrub_super.specs.declared.pages.SuperblockPage.{SuperblockPage}
use Rattle.scrub_check.specs.Candidates.{AreCandidates, CandidateValue}
use Rattle.scrub_check.specs.steps.LocatorIndex.{IsLocatorIndex}
use Rattle.scrub_loose.specs.Loose.{AreCopies, LooseValue}
use Rattle.scrub_found.specs.Judged.{AreJudgedBut, run_states}
use Rattle.scrub_reclaim.specs.declared.doubts.Doubt.{Doubt}
use Rattle.scrub_reclaim.specs.declared.reclaim_parts.ReclaimParts.{ReclaimParts}
use Rattle.scrub_reclaim.specs.Doubts.{doubts_in}
use Rattle.scrub_reclaim.specs.Reclaimable.{all_candidate_lines}
use Rattle.scrub_reclaim.specs.Room.{room_lines}
use Rattle.scrub_reclaim.specs.steps.KeptCopies.{AreKept}

module _ {D : Type 0} where
  -- the index is that of the judged locators, and the listed extents are those of the candidates, in some order
  pub record AreLists (g : ReclaimParts D) : Type 0 where
    pub locators : IsLocatorIndex g.judged.checked.items g.locators
    pub listed : IsPermutation (map (λ a. a.extent) g.candidates.items) g.listed

  -- the locators are judged as they are in the image, the lists are made of them, and the candidates follow from them
  pub record AreReclaimParts (image : Image) (g : ReclaimParts D) : Type 0 where
    pub judged : AreJudgedBut [] image g.judged
    pub lists : AreLists g
    pub candidates : AreCandidates g.judged.scan.plan g.judged.scan.all.extents g.judged.checked.items g.judged.in_doubt g.candidates.items
    pub copies : AreCopies [] image g.judged.scan.plan g.judged.scan.all.extents g.judged.checked.items g.copies

  -- the copies are kept of a disk with these loose frames
  abbrev pub AreKeptOf : LooseValue → ReclaimParts D → Type 0
  AreKeptOf loose g = AreKept g.judged.scan.all.extents g.judged.checked.items loose g.copies

  -- the doubts of a disk with these parts, with these pages of extent 0 and these loose frames
  abbrev pub doubts_of : Option ℕ → List SuperblockPage → LooseValue → ReclaimParts D → List Doubt
  doubts_of last pages loose g =
      doubts_in g.judged.scan.chosen last pages (run_states g.judged.runs.items) g.judged.scan.plan.geometry.page
      g.judged.scan.all.extents loose g.judged.checked.items g.candidates.items

  -- the extents to reclaim: all candidates if it is clear, or else none
  abbrev pub listed_if : Bool → ReclaimParts D → List CandidateValue
  listed_if clear g = if clear then g.candidates.items else []

  -- the lines of the extents with room, if there are extents to reclaim, or else nothing
  abbrev pub rooms_if : Bool → LooseValue → ReclaimParts D → List ℕ
  rooms_if clear loose g =
      if length (listed_if clear g) == 0 then []
      else room_lines g.judged.scan.plan.geometry g.judged.scan.all.extents loose g.judged.checked.items (listed_if clear g)

  -- the lines of the extents to reclaim, and then those of the extents with room
  abbrev pub lines_if : Bool → LooseValue → ReclaimParts D → List ℕ
  lines_if clear loose g = all_candidate_lines g.judged.checked.items (listed_if clear g) ++ rooms_if clear loose g
