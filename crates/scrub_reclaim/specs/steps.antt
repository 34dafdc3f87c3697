-- Steps of the code.
pub mod ReclaimParts
pub mod KeptCopies
pub mod Moves
pub mod PageDoubts
pub mod PageRanges
pub mod Room
