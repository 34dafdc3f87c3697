-- An index run and what became of it, each alone.
use Rattle.std.specs.Prelude.{◌≡◌, ℕ, List, Option, Some, None, MatchBool, MatchOption}
use Rattle.std.specs.List.{AllZip}
use Rattle.scrub_disk.specs.Image.{Image}
use Rattle.scrub_frame.specs.declared.locator.Locator.{Locator}
use Rattle.scrub_super.specs.Plan.{PlanValue, pointer_of}
use Rattle.scrub_run.specs.Entry.{EntryValue}
use Rattle.scrub_run.specs.Run.{IsRun}
use Rattle.scrub_check.specs.declared.statuses.status.Status.TheVariants.{OutOfRange}
use Rattle.scrub_check.specs.declared.runs.RunState.{RunState}
use Rattle.scrub_check.specs.declared.runs.RunState.TheVariants.{Read, BadChunk, NotARun}
use Rattle.scrub_check.specs.Runs.{ReadRunsValue}
use Rattle.scrub_check.specs.Status.{NamesChunk, HasStatus, HasStatusInRetired, is_retired}

-- the locator names a chunk, be it hidden or sound, whose payload is the run of these entries
pub record NamesRun (image : Image) (w : ℕ) (l : Locator) (entries : List EntryValue) : Type 0 where
  pub names : NamesChunk image w l
  pub run : IsRun names.payload entries

-- the entries of the run that a locator names, or None if it names none
abbrev pub IsRunOf : Image → ℕ → Locator → Option (List EntryValue) → Type 0
IsRunOf image w l (Some entries) = NamesRun image w l entries
IsRunOf image w l None = (entries : List EntryValue) → ¬ NamesRun image w l entries

-- what became of a run: read, lost with the status of its chunk, or lost since the payload is no run
abbrev pub HasRunState : Image → ℕ → Locator → RunState → Type 0
HasRunState image w l Read = (entries : List EntryValue) × NamesRun image w l entries
HasRunState image w l (BadChunk status) = HasStatus image w l status × ¬ NamesChunk image w l
HasRunState image w l NotARun = NamesChunk image w l × ((entries : List EntryValue) → ¬ NamesRun image w l entries)

-- the run of a locator into an extent in use, under the plan's write pointer of it, or None if it has none
abbrev pub IsRunInUse : Image → PlanValue → Locator → Option (List EntryValue) → Type 0
IsRunInUse image plan l run = MatchOption (pointer_of plan l.extent) (run ≡ None) (λ w. IsRunOf image w l run)

-- what became of a run in an extent in use, under the plan's write pointer of it, or lost as out of range if it has
-- none
abbrev pub HasRunStateInUse : Image → PlanValue → Locator → RunState → Type 0
HasRunStateInUse image plan l state = MatchOption (pointer_of plan l.extent) (state ≡ BadChunk OutOfRange) (λ w. HasRunState image w l state)

-- a run in a retired extent is lost with the status of its locator
abbrev pub IsLostInRetired : Image → Locator → RunState → Type 0
IsLostInRetired image l (BadChunk status) = HasStatusInRetired image l status
IsLostInRetired image l _ = ⊥

-- the run of a locator by a plan, which says whether its extent is retired
abbrev pub IsRunIn : Image → PlanValue → Locator → Option (List EntryValue) → Type 0
IsRunIn image plan l run = MatchBool (is_retired plan l.extent) (run ≡ None) (IsRunInUse image plan l run)

-- what became of a run by a plan, which says whether its extent is retired
abbrev pub HasRunStateIn : Image → PlanValue → Locator → RunState → Type 0
HasRunStateIn image plan l state = MatchBool (is_retired plan l.extent) (IsLostInRetired image l state) (HasRunStateInUse image plan l state)

-- the runs that a plan names, in its order: what was read of each, and, apart from that, what became of each
pub record AreReadApart (image : Image) (plan : PlanValue) (r : ReadRunsValue) : Type 0 where
  pub runs : AllZip (IsRunIn image plan) plan.runs r.runs
  pub states : AllZip (HasRunStateIn image plan) plan.runs r.states
