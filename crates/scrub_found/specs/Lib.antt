-- For public clauses.
pub mod Scrubbed
pub mod Resets
pub mod Texts
pub mod Takings
pub mod GivenRuns
pub mod Judged
