-- How a run ends that wrote a whole answer: its exit status, and what it reports on the error stream.
use Rattle.std.specs.Prelude.{◌≡◌, ◌<◌, ◌++◌, [], Bool, true, false, ℕ, List, length}
use Rattle.std.specs.Io.KnownBytes.{Keeps}
use Rattle.scrub_cli.specs.declared.process.outcome.Outcome.{Outcome}
use Rattle.scrub_cli.specs.declared.process.outcome.Outcome.TheVariants.{Clean, Findings, Warned, Remarked}
use Rattle.scrub_cli.specs.declared.process.fault.Fault.TheVariants.{Output}
use Rattle.scrub_cli.specs.Fault.{status_of, text_of}
use Rattle.scrub_cli.specs.Streams.{Gets, Held}

-- the outcome of what is clean, or has findings
abbrev pub outcome_of : Bool → Outcome
outcome_of true = Clean
outcome_of false = Findings

-- the outcome of what is clean, or has findings, with these lines for the error stream after the answer, if there are any
abbrev pub IsWarnedOutcome : Bool → List ℕ → Outcome → Type 0
IsWarnedOutcome clean lines (Warned own) = (own.items ≡ lines) × (0 < length lines)
IsWarnedOutcome clean lines (Remarked own) = ⊥
IsWarnedOutcome clean lines outcome = (lines ≡ []) × (outcome ≡ outcome_of clean)

-- the outcome of all shards with these lines for the error stream: it is clean if there are none
abbrev pub IsOutcomeWith : List ℕ → Outcome → Type 0
IsOutcomeWith lines Clean = lines ≡ []
IsOutcomeWith lines (Remarked own) = (own.items ≡ lines) × (0 < length lines)
IsOutcomeWith lines outcome = ⊥

-- the exit status: 0 if all is clean, or else 1
abbrev pub status_of_outcome : Outcome → ℕ
status_of_outcome Clean = 0
status_of_outcome Findings = 1
status_of_outcome (Warned lines) = 1
status_of_outcome (Remarked lines) = 1

-- after its answer a run reports its lines, or the beginning of them if it isn't said that all was told; or it leaves the error
-- stream as it was
abbrev pub Warns : Outcome → Bool → Held → Type 0
Warns Clean told err = Keeps err.0 err.1
Warns Findings told err = Keeps err.0 err.1
Warns (Warned lines) told err = Gets told err lines.items
Warns (Remarked lines) told err = Gets told err lines.items

-- the lines that a run reports even if its output fails, before that
abbrev pub lines_before : Outcome → List ℕ
lines_before (Remarked lines) = lines.items
lines_before outcome = []

-- the run ended with the status of an output that failed after this many bytes, and its error stream got these lines and then the
-- text of that, or the beginning of both if it isn't said that all was told
pub record IsReportedBehind (lines : List ℕ) (count ended : ℕ) (told : Bool) (err : Held) : Type 0 where
  pub status : ended ≡ status_of (Output count)
  pub text : Gets told err (lines ++ text_of (Output count))
