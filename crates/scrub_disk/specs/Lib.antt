-- For public clauses.
pub mod Limits
pub mod Faults
pub mod Image
pub mod Buffered
pub mod BytesAndMarks
pub mod Memory
pub mod Raw
pub mod Stored
pub mod Joined
pub mod Parted
pub mod OneExtent
-- Steps of the code, and lemmas that types need.
pub mod steps
