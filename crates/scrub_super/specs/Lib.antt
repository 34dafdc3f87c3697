-- For public clauses.
pub mod Contents
pub mod Record
pub mod Chosen
pub mod Pages
pub mod Planned
pub mod Plan
pub mod Reset
pub mod GivenRuns
pub mod Blocks
pub mod UnknownSizes
-- Files of other crates that public clauses cite.
pub use Rattle.scrub_disk.specs.Image
pub use Rattle.scrub_frame.specs.Locator
-- Steps of the code, and lemmas that types need.
pub mod steps
