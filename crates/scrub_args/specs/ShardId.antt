-- The argument that names a shard.
use Rattle.std.specs.Prelude.{◌≡◌, Ok, length as len}
use Rattle.hex.specs.Hex.{decode_of}
use Rattle.clap.specs.Words.{Text}
use Rattle.scrub_run.specs.declared.shard_id.ShardId.{ShardId}

-- the text is an identifier in 32 hexadecimal digits, in either case
pub record IsIdText (text : Text) (id : ShardId) : Type 0 where
  pub digits : len text ≡ 32
  pub bytes : decode_of text ≡ Ok id.0

-- the text is no identifier
abbrev pub IsNoIdText : Text → Type 0
IsNoIdText text = (id : ShardId) → ¬ IsIdText text id
