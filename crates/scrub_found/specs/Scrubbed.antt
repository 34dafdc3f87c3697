-- What is found on a whole disk, each part as it is in the image, and whether it is clean.
use Rattle.std.specs.Prelude.{◌≡◌, ◌==◌, ◌&&◌, ◌||◌, Bool, true, false, not, List, length, is_none, is_some}
use Rattle.std.specs.List.{list_all, list_any}
use Rattle.scrub_disk.specs.Image.{Image}
use Rattle.scrub_super.specs.Chosen.{Choice, IsChoice}
use Rattle.scrub_super.specs.Plan.{PlanValue, plan_of}
use Rattle.scrub_scan.specs.declared.item.Item.{Item}
use Rattle.scrub_scan.specs.declared.item.Item.TheVariants.{Chunk, Pad}
use Rattle.scrub_scan.specs.Scanned.{Scanned}
use Rattle.scrub_scan.specs.AllFindings.{AreAllFindings}
use Rattle.scrub_run.specs.declared.shard_id.ShardId.{ShardId}
use Rattle.scrub_merge.specs.Binding.{BindingValue}
use Rattle.scrub_merge.specs.ShardMap.{IsShardMap}
use Rattle.scrub_check.specs.declared.statuses.checked.Checked.{Checked}
use Rattle.scrub_check.specs.declared.lists.place.SharedPlace.{SharedPlace}
use Rattle.scrub_check.specs.Runs.{ReadRunsValue, AreReadRuns}
use Rattle.scrub_check.specs.Named.{named_locators}
use Rattle.scrub_check.specs.Checked.{AreChecked, AreBrokenShards, is_sound}
use Rattle.scrub_check.specs.Shared.{AreShared}
use Rattle.scrub_check.specs.Candidates.{CandidateValue, AreCandidates}

-- what is found on a disk: the choice, the plan, the scanned extents, the runs, the bindings, the checked locators, and
-- the shared places, broken shards and candidates
pub record Scrubbed : Type 0 where
  pub choice : Choice
  pub plan : PlanValue
  pub all : List Scanned
  pub read : ReadRunsValue
  pub bindings : List BindingValue
  pub checked : List Checked
  pub shared : List SharedPlace
  pub broken : List ShardId
  pub candidates : List CandidateValue

-- a newer superblock or a newer binding may have been lost, or it is open which is the newer one: there is a tie, an
-- unreadable page of extent 0, or a lost run
abbrev pub is_in_doubt : Choice → ReadRunsValue → Bool
is_in_doubt choice read = choice.tie || not (length choice.bad_pages == 0) || list_any is_none read.runs

-- each part of what is found is as it is in the image, with a plan that follows from the choice in this way
pub record IsScrubbedBy (follows : Choice → PlanValue → Type 0) (image : Image) (s : Scrubbed) : Type 0 where
  pub choice : IsChoice image s.choice
  pub plan : follows s.choice s.plan
  pub all : AreAllFindings image s.plan s.all
  pub read : AreReadRuns image s.plan s.read
  pub bindings : IsShardMap s.read.runs s.bindings
  pub checked : AreChecked image s.plan (named_locators s.plan.runs s.bindings) s.checked
  pub shared : AreShared s.checked s.shared
  pub broken : AreBrokenShards s.checked s.broken
  pub candidates : AreCandidates s.plan s.all s.checked (is_in_doubt s.choice s.read) s.candidates

-- each part of what is found is as it is in the image, with the plan of the choice
abbrev pub IsScrubbed : Image → Scrubbed → Type 0
IsScrubbed image s = IsScrubbedBy (λ choice plan. plan ≡ plan_of choice) image s

-- the item is neither torn nor noise nor lost, so it is a chunk or zeros
abbrev pub is_clean_item : Item → Bool
is_clean_item (Chunk form start stop uuid n digest) = true
is_clean_item (Pad start stop) = true
is_clean_item _ = false

-- each page of the extent can be read, and each of its items is clean
abbrev pub is_clean_extent : Scanned → Bool
is_clean_extent f = length f.findings.bad_pages == 0 && list_all is_clean_item f.findings.items

-- a superblock counts, there is no tie, each page of extent 0 can be read, all scanned extents are clean, no run is lost,
-- each named locator is sound, and no place is shared; orphans, twins, tails and candidates don't count against it
abbrev pub is_clean_disk : Scrubbed → Bool
is_clean_disk s =
    is_some s.choice.superblock && not s.choice.tie && length s.choice.bad_pages == 0
    && list_all is_clean_extent s.all && list_all is_some s.read.runs
    && list_all (λ c. is_sound c.status) s.checked && length s.shared == 0
