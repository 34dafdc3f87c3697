-- For public clauses.
pub mod Doubts
pub mod Reclaimable
pub mod Reset
pub mod Room
pub mod Copy
pub mod Same
pub mod AllRight
-- Steps of the code, and lemmas that types need.
pub mod steps
