-- Steps of the code.
pub mod Manifest
pub mod Sizes
pub mod Summary
