-- Lemmas on locators, runs and the lists that follow.

-- chunks, payloads and runs
pub mod PlannedFindings
pub mod ChunkForms
pub mod Payloads
pub mod RunStates
pub mod Listed
pub mod RunsApart
pub mod IndexRuns
-- the status of a locator
pub mod StatusKinds
pub mod ClaimedFrames
pub mod Gaps
pub mod StatusByFrame
pub mod StatusThere
pub mod OneStatus
pub mod OpenPlaces
pub mod JudgedPlaces
-- lists of locators: named, checked, by place
pub mod NamedLists
pub mod Owners
pub mod CheckedLists
pub mod Rebuilt
pub mod SoundAndOthers
pub mod SortedPlaces
pub mod PartedPlaces
pub mod Starts
-- searches and counts among what ascends
pub mod Counts
pub mod Rising
pub mod Distinct
pub mod Searches
pub mod StartSearch
-- the lists that follow from checked locators
pub mod PartedItems
pub mod PartedExtents
pub mod SpareCopies
pub mod SharedPlaces
pub mod BrokenShards
pub mod UuidNumbers
pub mod SameUuids
pub mod Sizes
pub mod Reclaimable
pub mod KeptChunks
pub mod OneList
-- worked examples
pub mod Examples
