-- Lemmas on walks of `clap`, lowest first.

-- what each use of an argument keeps, and the command that a walk stops at
pub mod Walks
-- the values that a walk leaves
pub mod Values
-- what is found in arguments without a fault
pub mod Given
-- a test of a table of rules, by which `refl` proves that it is usual
pub mod UsualByTest
