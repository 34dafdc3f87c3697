-- For public clauses.
pub mod Binding
pub mod ShardMap
-- Files of other crates that public clauses cite.
pub use Rattle.scrub_run.specs.Entry
pub use Rattle.scrub_run.specs.Run
-- Steps of the code, and lemmas that types need.
pub mod steps
