-- Lemmas on records, the choice and the plan.

-- the bytes of a record: its parts, how it is read and written
pub mod BytesInParts
pub mod Fronts
pub mod Heads
pub mod Listed
pub mod RecordParts
pub mod OneRecord
pub mod Refused
pub mod Found
pub mod Written
-- extents, the plan and its resets
pub mod Extents
pub mod Plans
pub mod PlanParts
pub mod Resets
pub mod GivenRuns
-- the records of extent 0, and the one that is used
pub mod RecordsSeenSteps
pub mod Choices
pub mod BytesFromPages
pub mod Laws
pub mod NewestRecords
-- what each page of extent 0 is
pub mod PageLaws
pub mod PageSteps
-- records of any sizes in a raw image
pub mod Geometries
pub mod BlocksFront
pub mod UnknownSizesSteps
pub mod LostRuns
pub mod FoundByOwnSizes
-- that there is an answer
pub mod BytesHere
pub mod RecordsThere
pub mod PlansFit
pub mod PagesThere
pub mod SizesThere
