-- For public clauses.
pub mod Builders
