-- For public clauses.
pub mod Gathered
pub mod Lanes
-- A file of another crate that public clauses cite.
pub use Rattle.sha2.specs.Sha256
