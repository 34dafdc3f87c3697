-- Steps of the code.
pub mod Parts
