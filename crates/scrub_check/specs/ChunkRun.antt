-- What is read of a chunk that is known to be there.
use Rattle.std.specs.Prelude.{ℕ, List, Option, Some, None}
use Rattle.scrub_disk.specs.Image.{Image}
use Rattle.scrub_frame.specs.declared.form.Form.{Form}
use Rattle.scrub_frame.specs.declared.locator.Locator.{Locator}
use Rattle.scrub_scan.specs.declared.standing.Standing.{Standing}
use Rattle.scrub_scan.specs.Standing.{Stands, HasPayload}
use Rattle.scrub_run.specs.Entry.{EntryValue}
use Rattle.scrub_run.specs.Run.{IsRun}
use Rattle.scrub_check.specs.declared.runs.RunState.{RunState}
use Rattle.scrub_check.specs.declared.runs.RunState.TheVariants.{Read, NotARun}

-- the chunk that a locator names, as a frame of this form at its place
abbrev pub standing_of : Locator → Form → Standing
standing_of l f = record { extent = l.extent; offset = l.offset; form = f; uuid = l.uuid; length = l.length; digest = l.digest }

-- the chunk that a locator names is at its place, in one of the forms
pub record StandsThere (image : Image) (l : Locator) : Type 0 where
  pub form : Form
  pub stands : Stands image (standing_of l form)

-- the chunk at a locator's place has this payload, in one of the forms
pub record HasPayloadThere (image : Image) (l : Locator) (payload : List ℕ) : Type 0 where
  pub form : Form
  pub has : HasPayload image (standing_of l form) payload

-- the payload of the chunk at a locator's place is the run of these entries
pub record HoldsRun (image : Image) (l : Locator) (entries : List EntryValue) : Type 0 where
  pub payload : List ℕ
  pub has : HasPayloadThere image l payload
  pub run : IsRun payload entries

-- what is read of the chunk at a locator's place: its run, or that its payload is no run
abbrev pub IsStateOf : Image → Locator → Option (List EntryValue) → RunState → Type 0
IsStateOf image l (Some entries) Read = HoldsRun image l entries
IsStateOf image l None NotARun = (entries : List EntryValue) → ¬ HoldsRun image l entries
IsStateOf image l _ _ = ⊥
