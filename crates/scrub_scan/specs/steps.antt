-- Steps of the code.
pub mod FrameRead
pub mod Pages
pub mod Gathering
pub mod Tiled
-- Lemmas that types need.
pub mod OneFrame
pub mod Props
