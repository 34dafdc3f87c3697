-- Steps of the code.
pub mod Member
