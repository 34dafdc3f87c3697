-- Steps of the code: moving the cursors on.
pub mod Cursors
-- Parts of runs.
pub mod Parts
