-- For public clauses.
pub mod Bytes
pub mod Shard
pub mod Tar
pub mod Archive
pub mod PartialArchive
-- Steps of the code, and lemmas that types need.
pub mod steps
