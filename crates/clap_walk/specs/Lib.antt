-- Definitions for the lemmas and the law of this crate.
pub mod Rules
pub mod Rows
