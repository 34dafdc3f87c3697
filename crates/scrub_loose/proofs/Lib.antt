-- Lemmas on frames at any byte, and on loose copies.

-- what is claimed at a place, and in an extent
pub mod ReadableClaims
pub mod Crowds
pub mod BytesInMemory
pub mod ClaimedBytes
-- frames place by place and extent by extent
pub mod FoundFrames
pub mod SearchedExtents
-- what is asked for, and what is found of it
pub mod AskedContents
pub mod CopiesFound
-- that there is one answer, and that there is an answer
pub mod OneLoose
pub mod LooseThere
-- outer frames, the index runs among them, and where their locators are
pub mod OuterFrames
pub mod RunsFound
pub mod RunsThere
pub mod ReadablePages
pub mod Naming
