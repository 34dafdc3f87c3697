-- Lemmas on what the builders put.
pub mod Built
-- Which extents are planned.
pub mod Planned
