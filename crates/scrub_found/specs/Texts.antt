-- The texts for UUIDs, for owners and statuses of locators, and for what became of a run.
use Rattle.std.specs.Prelude.{ℕ, List, ◌++◌, codes}
use Rattle.std.specs.Fmt.{decimal}
use Rattle.hex.specs.Hex.{encode_lower}
use Rattle.uuid.specs.Text.{hyphenated_text, lower}
use Rattle.scrub_check.specs.declared.named.Owner.{Owner}
use Rattle.scrub_check.specs.declared.named.Owner.TheVariants.{Run, Shard}
use Rattle.scrub_check.specs.declared.statuses.status.Status.{Status}
use Rattle.scrub_check.specs.declared.statuses.status.Status.TheVariants.{OutOfRange, Retired, PastPointer, Unreadable, NoFrame, WrongUuid, WrongLength, WrongDigest, Hidden, Sound}
use Rattle.scrub_check.specs.declared.runs.RunState.{RunState}
use Rattle.scrub_check.specs.declared.runs.RunState.TheVariants.{Read, BadChunk, NotARun}

-- a UUID as RFC 9562 writes it, with hyphens, in lower case
abbrev pub uuid_text : List ℕ → List ℕ
uuid_text uuid = hyphenated_text lower uuid

-- the owner of a locator: `run` with the run's number, or `shard` with its identifier as 32 hexadecimal digits in lower
-- case
abbrev pub owner_text : Owner → List ℕ
owner_text (Run number) = codes "run " ++ decimal number
owner_text (Shard id) = codes "shard " ++ encode_lower id.0

-- the word for a locator's status, as `no_frame`; only the first eight are ever a reason
abbrev pub status_text : Status → List ℕ
status_text OutOfRange = codes "out_of_range"
status_text Retired = codes "retired"
status_text PastPointer = codes "past_pointer"
status_text Unreadable = codes "unreadable"
status_text NoFrame = codes "no_frame"
status_text WrongUuid = codes "wrong_uuid"
status_text WrongLength = codes "wrong_length"
status_text WrongDigest = codes "wrong_digest"
status_text Hidden = codes "hidden"
status_text Sound = codes "sound"

-- the word for what became of an index run: it was read, the status of its chunk, or it is no run
abbrev pub state_text : RunState → List ℕ
state_text Read = codes "read"
state_text (BadChunk status) = status_text status
state_text NotARun = codes "not_a_run"
