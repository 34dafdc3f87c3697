-- Lemmas on messages that are hashed side by side.

-- operations in one lane
mod LaneByLane
mod Maj
mod Rotations
-- messages in lanes, and the digests of a batch
mod Carrying
mod Placing
mod Gathering
