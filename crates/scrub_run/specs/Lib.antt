-- For public clauses.
pub mod Entry
pub mod Locators
pub mod Run
-- Steps of the code.
pub mod steps
-- Files of other crates that public clauses cite.
pub use Rattle.scrub_frame.specs.Locator
