-- Steps of the code: of reading a record, of the choice, and of reading a raw image in blocks.
pub mod Limits
pub mod PlanParts
pub mod RecordRead
pub mod ByConditions
pub mod RecordsSeen
pub mod BytesFrom
pub mod PagesFound
pub mod BlocksRead
