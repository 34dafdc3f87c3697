-- For clauses of private functions: what parsing the arguments finds.
pub mod Parsed
