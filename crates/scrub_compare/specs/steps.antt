-- Steps of the code.
pub mod Changes
pub mod Rows
