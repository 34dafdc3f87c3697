-- Steps of the code: marking gaps, and reading lines.
pub mod Gaps
pub mod Reading
