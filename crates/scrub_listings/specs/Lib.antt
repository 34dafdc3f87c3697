-- For public clauses.
pub mod FoundRuns
pub mod Locators
pub mod Remarks
pub mod Manifest
pub mod Superblocks
pub mod Sizes
pub mod Summary
-- Steps of the code, and lemmas that types need.
pub mod steps
