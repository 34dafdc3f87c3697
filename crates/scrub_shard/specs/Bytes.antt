-- The bytes of a shard, as contracts see them.
use Rattle.std.specs.Prelude.{ℕ, List, Bool}

-- the bytes of a shard, and whether an index run is lost that may have a newer entry; a lost superblock doesn't count
pub record BytesValue : Type 0 where
  pub bytes : List ℕ
  pub is_doubtful : Bool
