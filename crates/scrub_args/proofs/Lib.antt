-- Lemmas that several proofs of this crate share.

-- the command line, and what arguments without a fault name
pub mod CommandLines
pub mod Whole
-- the values of options and arguments
pub mod ArgsFound
pub mod Numbers
pub mod LongNumbers
pub mod Pairs
pub mod Acceptable
-- worked examples
pub mod Examples
