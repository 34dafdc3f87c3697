-- Lemmas on doubts, extents to reclaim and room, and on what resets and copies keep.

-- pages, moves and room, as the code finds them
pub mod PageRanges
pub mod JoinedPages
pub mod ByPlace
pub mod MoveLines
pub mod RoomLines
-- doubts, and what follows if none of a kind is accepted
pub mod RunDoubts
pub mod SpareDoubts
pub mod DoubtParts
pub mod LastLaw
pub mod SpareLaw
pub mod LooseLaw
pub mod LooseDoubts
-- the whole text, and that reclaiming is safe
pub mod Clear
-- the best copies of locators
pub mod BestCopies
-- what a reset keeps
pub mod ResetForms
pub mod CarriedNames
pub mod SameBelow
pub mod SameExtents
pub mod LooseFrames
pub mod RisenTexts
pub mod Reset
pub mod ResetCopies
-- what a manifest rests on
pub mod SameManifests
-- what a copy into room keeps
pub mod NextPlaces
pub mod KeptExtents
pub mod CopiedExtents
pub mod CopyLaw
-- sound disks
pub mod SoundDisks
-- that there is an answer; disks that meet the premises
pub mod Existing
pub mod SmallDisks
pub mod FoundOnSmallDisks
pub mod ActingCanHappen
