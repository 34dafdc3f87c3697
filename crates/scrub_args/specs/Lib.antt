-- For public clauses.
pub mod CommandLine
pub mod Accepting
pub mod Args
pub mod Pair
pub mod ShardId
-- Steps of the code, and lemmas that types need.
pub mod steps
