-- Steps of the code: of loading an image, and of filling a block.
pub mod Marked
pub mod Ahead
pub mod Added
-- Lemmas that types need: pages are whole.
pub mod WholePages
