-- For public clauses.
pub mod Output
pub mod Json
pub mod Report
pub mod Index
pub mod Answer
-- Steps of the code, and lemmas that types need.
pub mod steps
