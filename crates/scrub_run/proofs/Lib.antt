-- Lemmas on the bytes of index runs.

-- identifiers, entries and runs
pub mod Order
pub mod Entries
pub mod Runs
pub mod Examples
-- that bytes are a run, or none
pub mod RunsThere
