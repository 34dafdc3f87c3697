-- For public clauses.
pub mod Number
pub mod Fields
pub mod Lines
pub mod Map
pub mod Fault
pub mod Rescued
pub mod MissingBytes
-- Steps of the code, and lemmas that types need.
pub mod steps
