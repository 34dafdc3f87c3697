-- Index runs that were read, in lists.
use Rattle.std.proofs.Common.{◌≡◌, ◌<◌, ◌^◌, List, length, map, arith, sym, ◌∙◌}
use Rattle.std.specs.List.{AllZip, zip}
use Rattle.std.proofs.lemmas.List.{length-map}
use Rattle.std.proofs.lemmas.Slice.Zip.{AllZip-long, length-zip}
use Rattle.list_facts.proofs.Zips.{AllZip-map_seconds, AllZip-zip_of_maps}
use Rattle.scrub_disk.specs.Image.{Image}
use Rattle.scrub_super.specs.Plan.{PlanValue}
use Rattle.scrub_merge.specs.Binding.{Runs}
use Rattle.scrub_check.specs.declared.runs.RunWithStatus.{RunWithStatus}
use Rattle.scrub_check.specs.declared.runs.RunState.{RunState}
use Rattle.scrub_check.specs.declared.statuses.status.Status.{Status}
use Rattle.scrub_check.specs.steps.RunWithStatus.{IsRunWithStatus}
use Rattle.scrub_check.specs.Runs.{HasRunIn, AreCounted, AreReadRuns, AreRunStatuses, ReadRunsValue}
use Rattle.scrub_check.specs.Status.{HasStatusIn}

-- the lists have what was read of each
pub are_read : (image : Image) (plan : PlanValue) (judged : List RunWithStatus) (runs : Runs) (states : List RunState) →
    runs ≡ map (λ one. one.run) judged → states ≡ map (λ one. one.state) judged →
    AllZip (IsRunWithStatus image plan) plan.runs judged → AreReadRuns image plan (record { runs = runs; states = states })
are_read image plan judged runs states runs_are states_are all =
    rw runs_are
    (rw states_are
    (record {
      same = length-map judged (λ one. one.state) ∙ sym (length-map judged (λ one. one.run));
      each = AllZip-zip_of_maps (IsRunWithStatus image plan) (HasRunIn image plan) (λ one. one.run) (λ one. one.state) (λ l one is. is.run) plan.runs judged all;
    }))

-- the statuses of runs that were judged
pub have_statuses : (image : Image) (plan : PlanValue) (judged : List RunWithStatus) (statuses : List Status) →
    statuses ≡ map (λ one. one.status) judged → AllZip (IsRunWithStatus image plan) plan.runs judged →
    AreRunStatuses image plan statuses
have_statuses image plan judged statuses are all =
    rw are (AllZip-map_seconds (IsRunWithStatus image plan) (HasStatusIn image plan) (λ one. one.status) (λ l one is. is.status) plan.runs judged all)

-- there are as many as the plan names
pub as_many : (image : Image) (plan : PlanValue) (r : ReadRunsValue) → AreReadRuns image plan r → length r.runs ≡ length plan.runs
as_many image plan r read =
    let pairs = zip r.runs r.states in
    let long : length pairs ≡ length plan.runs = AllZip-long (λ l x. HasRunIn image plan l x.0 x.1) plan.runs pairs read.each in
    omega (arith, long, length-zip r.runs r.states, read.same)

-- and so few
pub counted : (image : Image) (plan : PlanValue) (r : _) → length plan.runs < 2 ^ 32 → AreReadRuns image plan r → AreCounted r
counted image plan r few read = record { same = read.same; few = omega (arith, as_many image plan r read, few) }
