-- What the code keeps of a disk until it is written.
use Rattle.std.specs.Prelude.{◌≡◌, ◌==◌, ◌&&◌, ℕ, Bool, List, [], Option, None, is_some, length, map, not, option_map}
use Rattle.std.specs.List.{list_all}
use Rattle.scrub_disk.specs.Image.{Image}
use Rattle.scrub_frame.specs.declared.locator.Locator.{Locator}
use Rattle.scrub_super.specs.Chosen.{IsChoice}
use Rattle.scrub_super.specs.Plan.{PlanValue}
use Rattle.scrub_scan.specs.Scanned.{Scanned}
use Rattle.scrub_scan.specs.AllFindings.{AreAllFindings}
use Rattle.scrub_run.specs.declared.shard_id.ShardId.{ShardId}
use Rattle.scrub_merge.specs.Binding.{BindingValue}
use Rattle.scrub_merge.specs.ShardMap.{IsShardMap}
use Rattle.scrub_check.specs.declared.runs.RunState.{RunState}
use Rattle.scrub_check.specs.Runs.{AreReadRuns, ReadRunsValue}
use Rattle.scrub_check.specs.declared.lists.liveness.Liveness.{Liveness}
use Rattle.scrub_check.specs.declared.lists.place.SharedPlace.{SharedPlace}
use Rattle.scrub_check.specs.Candidates.{AreCandidates, CandidateValue}
use Rattle.scrub_check.specs.declared.statuses.checked.Checked.{Checked}
use Rattle.scrub_check.specs.Checked.{AreChecked}
use Rattle.scrub_check.specs.Chunks.{orphans}
use Rattle.scrub_check.specs.Drawn.{AreDrawnFrom}
use Rattle.scrub_check.specs.Live.{live_bytes}
use Rattle.scrub_check.specs.Named.{named_locators}
use Rattle.scrub_check.specs.Shared.{AreShared}
use Rattle.scrub_check.specs.WholeScan.{IsWholeScan}
use Rattle.scrub_found.specs.declared.judging.DrawnScan.{DrawnScan}
use Rattle.scrub_found.specs.declared.judging.Judged.{Judged}
use Rattle.scrub_found.specs.declared.runs.RunRow.{RunRow}
use Rattle.scrub_found.specs.declared.scanning.Scan.{Scan}
use Rattle.scrub_found.specs.GivenRuns.{FollowsFrom, IsScrubbedFrom}
use Rattle.scrub_found.specs.Scrubbed.{Scrubbed, is_clean_extent, is_in_doubt}

module _ {D : Type 0} where
  -- what was chosen, planned and scanned is as it is in the image, with the plan by these index runs, if they are given, or else
  -- by the choice as if these extents had been reset
  pub record IsScanFrom (given : Option (List Locator)) (resets : List ℕ) (image : Image) (s : Scan D) : Type 0 where
    pub chosen : IsChoice image s.chosen
    pub planned : FollowsFrom given resets s.chosen s.plan
    pub scanned : AreAllFindings image s.plan s.all.extents
    pub whole : IsWholeScan image s.plan s.all.extents

  -- the same by the choice
  abbrev pub IsScanBut : List ℕ → Image → Scan D → Type 0
  IsScanBut resets image s = IsScanFrom None resets image s

  -- the same without resets
  abbrev pub IsScan : Image → Scan D → Type 0
  IsScan image s = IsScanBut [] image s

-- what became of the runs of some rows
abbrev pub run_states : List RunRow → List RunState
run_states rows = map (λ r. r.state) rows

-- the rows are of the runs that were read: each with its locator, how many entries it has, None if it is lost, and what
-- became of it
pub record AreRowsOf (locators : List Locator) (read : ReadRunsValue) (rows : List RunRow) : Type 0 where
  pub locators_are : map (λ r. r.locator) rows ≡ locators
  pub entries_are : map (λ r. r.entries) rows ≡ map (option_map length) read.runs
  pub states_are : run_states rows ≡ read.states

-- what follows from which chunks are live
pub record IsLivenessBy (plan : PlanValue) (all : List Scanned) (checked : List Checked) (in_doubt : Bool) (l : Liveness) : Type 0 where
  pub live : l.live.items ≡ map (live_bytes checked) all
  pub orphans_are : l.orphans.items ≡ orphans all checked
  pub shared : AreShared checked l.shared.items
  pub candidates : AreCandidates plan all checked in_doubt l.candidates.items

module _ {D : Type 0} where
  -- the locators are judged as they are in an image, with the plan by these index runs, if they are given, or else by the choice as
  -- if these extents had been reset; and the rows and the shard map are those of the runs that were read
  pub record AreJudgedFrom (given : Option (List Locator)) (resets : List ℕ) (image : Image) (j : Judged D) : Type 0 where
    pub read : ReadRunsValue
    pub rows : AreRowsOf j.scan.plan.runs read j.runs.items
    pub doubt : j.in_doubt ≡ is_in_doubt j.scan.chosen read
    pub scanned : IsScanFrom given resets image j.scan
    pub read_are : AreReadRuns image j.scan.plan read
    pub map_is : IsShardMap read.runs j.map
    pub checked : AreChecked image j.scan.plan (named_locators j.scan.plan.runs j.map) j.checked.items

  -- the same by the choice
  abbrev pub AreJudgedBut : List ℕ → Image → Judged D → Type 0
  AreJudgedBut resets image j = AreJudgedFrom None resets image j

  -- the rows, the shard map and the lists are as they are in an image, in which these are the named locators with their
  -- statuses
  pub record IsDrawnFrom (image : Image) (checked : List Checked) (d : DrawnScan D) : Type 0 where
    pub read : ReadRunsValue
    pub rows : AreRowsOf d.scan.plan.runs read d.runs.items
    pub doubt : d.in_doubt ≡ is_in_doubt d.scan.chosen read
    pub scanned : IsScan image d.scan
    pub read_are : AreReadRuns image d.scan.plan read
    pub map_is : IsShardMap read.runs d.map
    pub checked_are : AreChecked image d.scan.plan (named_locators d.scan.plan.runs d.map) checked
    pub lists : AreDrawnFrom checked d.drawn

  -- what follows from which of its chunks are live
  abbrev pub IsLivenessOf : Judged D → Liveness → Type 0
  IsLivenessOf j l = IsLivenessBy j.scan.plan j.scan.all.extents j.checked.items j.in_doubt l

-- what is found on a disk beside judged locators: the runs that were read, and the lists that are made when they are asked
-- for
pub record Beside : Type 0 where
  pub read : ReadRunsValue
  pub shared : List SharedPlace
  pub broken : List ShardId
  pub candidates : List CandidateValue

module _ {D : Type 0} where
  -- all that is found on a scanned disk with this shard map and these checked locators
  abbrev pub found_with : Scan D → List BindingValue → List Checked → Beside → Scrubbed
  found_with s bindings checked b = record {
    choice = s.chosen;
    plan = s.plan;
    all = s.all.extents;
    read = b.read;
    bindings = bindings;
    checked = checked;
    shared = b.shared;
    broken = b.broken;
    candidates = b.candidates;
  }

  -- all that is found on the disk
  abbrev pub found_in : Judged D → Beside → Scrubbed
  found_in j b = found_with j.scan j.map j.checked.items b

  -- with these beside them, the judged locators are what is found in the image, with the plan by these index runs, if they are given,
  -- or else by the choice as if these extents had been reset; and the rows are those of the runs that were read
  pub record IsFoundFrom (given : Option (List Locator)) (resets : List ℕ) (image : Image) (j : Judged D) (b : Beside) : Type 0 where
    pub rows : AreRowsOf j.scan.plan.runs b.read j.runs.items
    pub scrubbed : IsScrubbedFrom given resets image (found_in j b)

  -- the same by the choice
  abbrev pub IsFoundBut : List ℕ → Image → Judged D → Beside → Type 0
  IsFoundBut resets image j b = IsFoundFrom None resets image j b

  -- the same without resets
  abbrev pub IsFoundOn : Image → Judged D → Beside → Type 0
  IsFoundOn image j b = IsFoundBut [] image j b

  -- whether a scan is clean, by the rows of its runs, whether each named locator is sound, and the shared places
  abbrev pub is_clean_by : Scan D → List RunRow → Bool → List SharedPlace → Bool
  is_clean_by s rows sound shared =
      is_some s.chosen.superblock && not s.chosen.tie && length s.chosen.bad_pages == 0
      && list_all is_clean_extent s.all.extents && list_all (λ r. is_some r.entries) rows && sound && length shared == 0
