-- Which index runs are read, and what becomes of the others.
use Rattle.std.specs.Prelude.{◌≡◌, ◌<◌, ◌^◌, ℕ, false, List, Option, Some, None}
use Rattle.std.specs.Prelude.{length as len}
use Rattle.std.specs.List.{AllZip, zip}
use Rattle.scrub_disk.specs.Image.{Image}
use Rattle.scrub_frame.specs.declared.locator.Locator.{Locator}
use Rattle.scrub_super.specs.Plan.{PlanValue, pointer_of}
use Rattle.scrub_run.specs.Entry.{EntryValue}
use Rattle.scrub_run.specs.Run.{IsRun}
use Rattle.scrub_merge.specs.Binding.{Runs}
use Rattle.scrub_check.specs.declared.statuses.status.Status.{Status}
use Rattle.scrub_check.specs.declared.runs.RunState.{RunState}
use Rattle.scrub_check.specs.declared.runs.RunState.TheVariants.{Read, BadChunk, NotARun}
use Rattle.scrub_check.specs.Status.{NamesChunk, HasStatusIn, is_retired}

-- by a plan the locator names a chunk: its extent isn't retired, and has a pointer, under which the chunk is there
pub record NamesChunkIn (image : Image) (plan : PlanValue) (l : Locator) : Type 0 where
  pub in_use : is_retired plan l.extent ≡ false
  pub pointer : ℕ
  pub has_pointer : pointer_of plan l.extent ≡ Some pointer
  pub chunk : NamesChunk image pointer l

-- what was read of the run of a locator, and what became of it: its chunk's payload is the run of these entries, or is
-- no run; or the locator names no chunk, and the run is lost with the locator's status
abbrev pub HasRunIn : Image → PlanValue → Locator → Option (List EntryValue) → RunState → Type 0
HasRunIn image plan l (Some entries) Read = (names : NamesChunkIn image plan l) × IsRun names.chunk.payload entries
HasRunIn image plan l None NotARun =
    (names : NamesChunkIn image plan l) × ((entries : List EntryValue) → ¬ IsRun names.chunk.payload entries)
HasRunIn image plan l None (BadChunk status) = HasStatusIn image plan l status × ¬ NamesChunkIn image plan l
HasRunIn image plan l _ _ = ⊥

-- index runs, newest first: the entries of each, None if it is lost, and what became of each
pub record ReadRunsValue : Type 0 where
  pub runs : Runs
  pub states : List RunState

-- there are as many runs as states, fewer than 2^32
pub record AreCounted (r : ReadRunsValue) : Type 0 where
  pub same : len r.states ≡ len r.runs
  pub few : len r.runs < 2 ^ 32

-- the runs that a plan names, in its order: what was read of each, and what became of it; both lists are as
-- long, because `zip` ends with the shorter one
pub record AreReadRuns (image : Image) (plan : PlanValue) (r : ReadRunsValue) : Type 0 where
  pub same : len r.states ≡ len r.runs
  pub each : AllZip (λ l x. HasRunIn image plan l x.0 x.1) plan.runs (zip r.runs r.states)

-- the statuses of the locators of the runs that a plan names
abbrev pub AreRunStatuses : Image → PlanValue → List Status → Type 0
AreRunStatuses image plan statuses = AllZip (HasStatusIn image plan) plan.runs statuses
