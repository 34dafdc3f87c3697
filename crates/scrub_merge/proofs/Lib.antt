-- Lemmas on the shard map.

-- identifiers, newest bindings and the map
pub mod Identifiers
pub mod Maps
pub mod Parted
-- cursors: what is left ahead of them, and what is bound as they move on
pub mod Left
pub mod NextBound
pub mod Moves
pub mod Heaps
-- that there is a map
pub mod MapsThere
