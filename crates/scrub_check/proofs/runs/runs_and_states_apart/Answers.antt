use Rattle.scrub_check.proofs.RunsApart.{apart, read_runs_of, run_alone, state_alone, together}
use Rattle.scrub_check.proofs.runs.runs_and_states_apart.Goals as goal

pub returns-clause-one : goal.returns-clause-one
returns-clause-one c image plan l run state =
    (λ h. (run_alone image plan l run state h, state_alone image plan l run state h), λ h. together image plan l run state h.0 h.1)

pub returns-clause-all : goal.returns-clause-all
returns-clause-all c image plan r = (apart image plan r, read_runs_of image plan r)
