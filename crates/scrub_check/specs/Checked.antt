-- The named locators with their statuses, and the lists that are drawn from them alone.
use Rattle.std.specs.Prelude.{◌≡◌, ◌↔◌, ◌&&◌, Bool, true, false, not, List, All, AllPairs, Contains, map}
use Rattle.std.specs.Str.{bytes_eq}
use Rattle.std.specs.List.{filter, list_any}
use Rattle.scrub_disk.specs.Image.{Image}
use Rattle.scrub_super.specs.Plan.{PlanValue}
use Rattle.scrub_run.specs.declared.shard_id.ShardId.{ShardId}
use Rattle.scrub_run.specs.Entry.{IsBelow}
use Rattle.scrub_check.specs.declared.named.Owner.{Owner}
use Rattle.scrub_check.specs.declared.named.Owner.TheVariants.{Run, Shard}
use Rattle.scrub_check.specs.declared.named.Named.{Named}
use Rattle.scrub_check.specs.declared.statuses.checked.Checked.{Checked}
use Rattle.scrub_check.specs.declared.statuses.status.Status.{Status}
use Rattle.scrub_check.specs.declared.statuses.status.Status.TheVariants.{Hidden, Sound}
use Rattle.scrub_check.specs.Status.{HasStatusIn}

-- a checked locator without its status: the locator and its owner
abbrev pub named_of : Checked → Named
named_of c = record { owner = c.owner; locator = c.locator }

-- this named locator with its status
pub record IsChecked (image : Image) (plan : PlanValue) (name : Named) (c : Checked) : Type 0 where
  pub same : named_of c ≡ name
  pub status : HasStatusIn image plan c.locator c.status

-- each of the checked locators has its status by the plan
abbrev pub HaveStatuses : Image → PlanValue → List Checked → Type 0
HaveStatuses image plan checked = All (λ c. HasStatusIn image plan c.locator c.status) checked

-- these named locators in their order, each with its status
pub record AreChecked (image : Image) (plan : PlanValue) (names : List Named) (checked : List Checked) : Type 0 where
  pub same : map (λ c. record { owner = c.owner; locator = c.locator }) checked ≡ names
  pub statuses : All (λ c. HasStatusIn image plan c.locator c.status) checked

-- the status is sound
abbrev pub is_sound : Status → Bool
is_sound Sound = true
is_sound _ = false

-- the status is hidden
abbrev pub is_hidden : Status → Bool
is_hidden Hidden = true
is_hidden _ = false

-- the status is neither sound nor hidden
abbrev pub is_dangling : Status → Bool
is_dangling status = not (is_sound status) && not (is_hidden status)

-- the hidden ones of the checked locators, in their order
abbrev pub hidden : List Checked → List Checked
hidden checked = filter (λ c. is_hidden c.status) checked

-- the dangling ones of the checked locators, in their order
abbrev pub dangling : List Checked → List Checked
dangling checked = filter (λ c. is_dangling c.status) checked

-- this shard names the locator
abbrev pub is_owned_by : ShardId → Owner → Bool
is_owned_by id (Shard other) = bytes_eq other.0 id.0
is_owned_by id (Run k) = false

-- a locator that this shard names dangles
abbrev pub is_broken : List Checked → ShardId → Bool
is_broken checked id = list_any (λ c. is_owned_by id c.owner && is_dangling c.status) checked

-- the broken shards, all of them and no other, in strictly ascending order of identifier
pub record AreBrokenShards (checked : List Checked) (ids : List ShardId) : Type 0 where
  pub rising : AllPairs IsBelow ids
  pub exact : (id : ShardId) → Contains ids id ↔ (is_broken checked id ≡ true)
