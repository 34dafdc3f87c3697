-- Steps of the code: payloads by the copies that were found.
use Rattle.std.specs.Prelude.{◌≡◌, ◌<◌, ◌==◌, ◌&&◌, ℕ, Bool, false, List, None, Some, MatchBool, All, length, not}
use Rattle.std.specs.List.{AllZip, flat_map, position}
use Rattle.scrub_disk.specs.Image.{Image}
use Rattle.scrub_scan.specs.declared.standing.Standing.{Standing}
use Rattle.scrub_scan.specs.Standing.{Stands}
use Rattle.scrub_check.specs.declared.statuses.checked.Checked.{Checked}
use Rattle.scrub_check.specs.Checked.{is_dangling}
use Rattle.scrub_check.specs.ChunkRun.{StandsThere}
use Rattle.scrub_loose.specs.Copies.{CopiesValue, copies_by}
use Rattle.scrub_shard.specs.Shard.{IsPayloadOf, asks_for_nothing}
use Rattle.scrub_shard.specs.declared.shard.ShardAnswer.{ShardAnswer}
use Rattle.scrub_shard.specs.declared.shard.ShardAnswer.TheVariants.{NoSuchShard, PayloadLost, Found}

-- a locator asks for bytes, dangles, and has no copy among these
abbrev pub is_lost_by : CopiesValue → Checked → Bool
is_lost_by found c = not (asks_for_nothing c.locator) && (is_dangling c.status && length (copies_by found c) == 0)

-- copies that can be read, at least one
pub record AreReadable (image : Image) (copies : List Standing) : Type 0 where
  pub some : 0 < length copies
  pub stand : All (Stands image) copies

-- a payload is left for the locator: it asks for no bytes, its chunk is there, or it has copies among these
abbrev pub HasPayloadLeft : Image → CopiesValue → Checked → Type 0
HasPayloadLeft image found c =
    MatchBool (asks_for_nothing c.locator) (Unit {0})
    (MatchBool (is_dangling c.status) (AreReadable image (copies_by found c)) (StandsThere image c.locator))

-- a payload is left for the locator unless it is lost
abbrev pub HasPayloadUnlessLost : Image → CopiesValue → Checked → Type 0
HasPayloadUnlessLost image found c = is_lost_by found c ≡ false → HasPayloadLeft image found c

-- the payload for a locator, by the copies among these
abbrev pub IsPayloadBy : Image → CopiesValue → Checked → List ℕ → Type 0
IsPayloadBy image found c payload = IsPayloadOf image (copies_by found c) c payload

-- the bytes are such payloads for these locators, one directly after another
pub record AreBytesBy (image : Image) (found : CopiesValue) (own : List Checked) (bytes : List ℕ) : Type 0 where
  pub payloads : List (List ℕ)
  pub each : AllZip (IsPayloadBy image found) own payloads
  pub joined : bytes ≡ flat_map (λ payload. payload) payloads

-- the answer by the locators of an entry, by the copies among these
abbrev pub IsAnswerWith : Image → CopiesValue → Bool → List Checked → ShardAnswer → Type 0
IsAnswerWith image found doubtful own NoSuchShard = ⊥
IsAnswerWith image found doubtful own (PayloadLost number) = position (is_lost_by found) own ≡ Some number
IsAnswerWith image found doubtful own (Found bytes) =
    (position (is_lost_by found) own ≡ None) × AreBytesBy image found own bytes.bytes × (bytes.is_doubtful ≡ doubtful)
