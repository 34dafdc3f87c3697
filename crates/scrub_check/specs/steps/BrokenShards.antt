-- The shards that name dangling locators, as the code finds them.
use Rattle.std.specs.Prelude.{Option, Some, None, if◌then◌else◌}
use Rattle.scrub_run.specs.declared.shard_id.ShardId.{ShardId}
use Rattle.scrub_check.specs.declared.named.Owner.{Owner}
use Rattle.scrub_check.specs.declared.named.Owner.TheVariants.{Run, Shard}
use Rattle.scrub_check.specs.declared.statuses.checked.Checked.{Checked}
use Rattle.scrub_check.specs.Checked.{is_dangling}

-- the shard that an owner is, if it is one
abbrev pub shard_of : Owner → Option ShardId
shard_of (Shard id) = Some id
shard_of (Run k) = None

-- the shard that names a locator, if the locator dangles
abbrev pub broken_owner : Checked → Option ShardId
broken_owner c = if is_dangling c.status then shard_of c.owner else None
