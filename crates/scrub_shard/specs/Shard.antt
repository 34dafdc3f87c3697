-- The bytes of a shard: the payloads of the locators of its entry in the shard map, one directly after another.
use Rattle.std.specs.Prelude.{◌≡◌, ◌<◌, ◌==◌, ◌&&◌, ℕ, Bool, true, List, [], ◌∷◌, Option, None, Some, MatchBool, All, Contains, length, not, slice_get}
use Rattle.std.specs.List.{AllZip, flat_map, position}
use Rattle.std.specs.Str.{bytes_eq}
use Rattle.sha2.specs.Sha256.{sha256}
use Rattle.scrub_disk.specs.Image.{Image}
use Rattle.scrub_frame.specs.declared.locator.Locator.{Locator}
use Rattle.scrub_super.specs.Chosen.{Choice, IsChoice}
use Rattle.scrub_super.specs.Plan.{PlanValue}
use Rattle.scrub_scan.specs.declared.standing.Standing.{Standing}
use Rattle.scrub_scan.specs.AllFindings.{AreAllFindings}
use Rattle.scrub_scan.specs.Scanned.{Scanned}
use Rattle.scrub_scan.specs.Standing.{HasPayload, Stands}
use Rattle.scrub_run.specs.declared.shard_id.ShardId.{ShardId}
use Rattle.scrub_merge.specs.Binding.{BindingValue}
use Rattle.scrub_merge.specs.ShardMap.{IsShardMap}
use Rattle.scrub_check.specs.declared.statuses.checked.Checked.{Checked}
use Rattle.scrub_check.specs.Checked.{AreChecked, is_dangling}
use Rattle.scrub_check.specs.ChunkRun.{HasPayloadThere}
use Rattle.scrub_check.specs.Named.{named_by_shard}
use Rattle.scrub_check.specs.declared.runs.RunState.TheVariants.{Read}
use Rattle.scrub_check.specs.Runs.{ReadRunsValue, AreReadRuns}
use Rattle.scrub_check.specs.Spares.{frames}
use Rattle.scrub_found.specs.GivenRuns.{FollowsFrom}
use Rattle.scrub_loose.specs.Anywhere.{IsCrowded}
use Rattle.scrub_loose.specs.Loose.{AreLoose, LooseValue, copies_for}
use Rattle.scrub_shard.specs.Bytes.{BytesValue}
use Rattle.scrub_shard.specs.declared.shard.ShardAnswer.{ShardAnswer}
use Rattle.scrub_shard.specs.declared.shard.ShardAnswer.TheVariants.{NoSuchShard, PayloadLost, Found}

-- ---- the shard map

-- what is found on a disk up to its shard map: the choice, the plan, the scanned extents, the runs and the bindings
pub record Mapped : Type 0 where
  pub choice : Choice
  pub plan : PlanValue
  pub all : List Scanned
  pub read : ReadRunsValue
  pub bindings : List BindingValue

-- each part of it is as it is in the image, with the plan by these index runs, if they are given, or else by the choice
pub record IsMappedFrom (given : Option (List Locator)) (image : Image) (m : Mapped) : Type 0 where
  pub choice : IsChoice image m.choice
  pub plan : FollowsFrom given [] m.choice m.plan
  pub all : AreAllFindings image m.plan m.all
  pub read : AreReadRuns image m.plan m.read
  pub bindings : IsShardMap m.read.runs m.bindings

-- each part of it is as it is in the image, with the plan by the superblock that counts
abbrev pub IsMapped : Image → Mapped → Type 0
IsMapped image m = IsMappedFrom None image m

-- the entry of a shard in the shard map
pub record IsBoundBy (bindings : List BindingValue) (id : ShardId) (b : BindingValue) : Type 0 where
  pub among : Contains bindings b
  pub named : b.id ≡ id

-- the shard map has no entry of the shard
abbrev pub IsUnbound : List BindingValue → ShardId → Type 0
IsUnbound bindings id = (b : BindingValue) → ¬ IsBoundBy bindings id b

-- ---- the payloads

-- the locator asks for no bytes: its length is 0, and its digest is that of no bytes
abbrev pub asks_for_nothing : Locator → Bool
asks_for_nothing l = l.length == 0 && bytes_eq l.digest (sha256 [])

-- the payload of the first of some copies
abbrev pub HasFirstPayload : Image → List Standing → List ℕ → Type 0
HasFirstPayload image [] payload = ⊥
HasFirstPayload image (s ∷ ss) payload = HasPayload image s payload

-- the payload for a locator with these copies: no bytes if it asks for none; or else that of its chunk if the locator is sound or
-- hidden, or that of its first copy
abbrev pub IsPayloadOf : Image → List Standing → Checked → List ℕ → Type 0
IsPayloadOf image copies c payload =
    MatchBool (asks_for_nothing c.locator) (payload ≡ [])
    (MatchBool (is_dangling c.status) (HasFirstPayload image copies payload) (HasPayloadThere image c.locator payload))

-- the payload for a locator, by the copies that it has: its spares, or else its loose copies
abbrev pub IsPayloadFor : Image → List Scanned → List Standing → Checked → List ℕ → Type 0
IsPayloadFor image all loose c payload = IsPayloadOf image (copies_for all loose c) c payload

-- the bytes are the payloads for these locators, one directly after another
pub record AreBytesFor (image : Image) (all : List Scanned) (loose : List Standing) (own : List Checked) (bytes : List ℕ) : Type 0 where
  pub payloads : List (List ℕ)
  pub each : AllZip (IsPayloadFor image all loose) own payloads
  pub joined : bytes ≡ flat_map (λ payload. payload) payloads

-- the payload for a locator is lost: it asks for bytes, dangles and has no copy
abbrev pub is_payload_lost : List Scanned → List Standing → Checked → Bool
is_payload_lost all loose c = not (asks_for_nothing c.locator) && (is_dangling c.status && length (copies_for all loose c) == 0)

-- the number of the first locator whose payload is lost, from 0
abbrev pub first_lost : List Scanned → List Standing → List Checked → Option ℕ
first_lost all loose own = position (is_payload_lost all loose) own

-- ---- the answer

-- the answer by the locators of the entry: their bytes, and whether the entry is doubtful; or, if one has no payload, the
-- number of the first such
abbrev pub IsAnswerBy : Image → List Scanned → List Standing → Bool → List Checked → ShardAnswer → Type 0
IsAnswerBy image all loose doubtful own NoSuchShard = ⊥
IsAnswerBy image all loose doubtful own (PayloadLost number) = first_lost all loose own ≡ Some number
IsAnswerBy image all loose doubtful own (Found found) =
    (first_lost all loose own ≡ None) × AreBytesFor image all loose own found.bytes × (found.is_doubtful ≡ doubtful)

-- the answer by an entry of the shard map, the plan and the scanned extents: that by its locators, with their statuses, and by
-- the loose frames of the disk
pub record IsEntryAnswer (image : Image) (plan : PlanValue) (all : List Scanned) (b : BindingValue) (a : ShardAnswer) : Type 0 where
  pub own : List Checked
  pub checked : AreChecked image plan (named_by_shard b) own
  pub loose : LooseValue
  pub are_loose : AreLoose [] image plan loose
  pub answer : IsAnswerBy image all loose.frames b.doubtful own a

-- the answer by the shard map: that of the shard's entry, or that there is none
abbrev pub IsAnswerIn : Image → Mapped → ShardId → ShardAnswer → Type 0
IsAnswerIn image m id NoSuchShard = IsUnbound m.bindings id
IsAnswerIn image m id (PayloadLost number) =
    (b : BindingValue) × IsBoundBy m.bindings id b × IsEntryAnswer image m.plan m.all b (PayloadLost number)
IsAnswerIn image m id (Found found) = (b : BindingValue) × IsBoundBy m.bindings id b × IsEntryAnswer image m.plan m.all b (Found found)

-- the answer for a shard of an image, by these index runs, if they are given, or else by the superblock that counts
pub record IsShardAnswerFrom (given : Option (List Locator)) (image : Image) (id : ShardId) (a : ShardAnswer) : Type 0 where
  pub found : Mapped
  pub mapped : IsMappedFrom given image found
  pub answer : IsAnswerIn image found id a

-- the answer for a shard of an image, by the superblock that counts
abbrev pub IsShardAnswer : Image → ShardId → ShardAnswer → Type 0
IsShardAnswer image id a = IsShardAnswerFrom None image id a

-- ---- what the answer says of the entry

-- the payload has the length and the digest that the locator has
pub record HasContentOf (l : Locator) (payload : List ℕ) : Type 0 where
  pub length_is : length payload ≡ l.length
  pub digest_is : sha256 payload ≡ l.digest

-- the bytes are a list of bytes for each of these locators, in their order, one directly after another, each with the
-- locator's length and digest
pub record HaveContentsOf (locators : List Locator) (bytes : List ℕ) : Type 0 where
  pub payloads : List (List ℕ)
  pub each : AllZip HasContentOf locators payloads
  pub joined : bytes ≡ flat_map (λ payload. payload) payloads

-- the bytes have the contents that the newest entry of the shard in the readable runs asks for
pub record HaveContentsOfEntryFrom (given : Option (List Locator)) (image : Image) (id : ShardId) (bytes : List ℕ) : Type 0 where
  pub found : Mapped
  pub mapped : IsMappedFrom given image found
  pub entry : BindingValue
  pub bound : IsBoundBy found.bindings id entry
  pub contents : HaveContentsOf entry.locators bytes

-- the bytes have the contents that this entry asks for, by the superblock that counts
abbrev pub HaveContentsOfEntry : Image → ShardId → List ℕ → Type 0
HaveContentsOfEntry image id bytes = HaveContentsOfEntryFrom None image id bytes

-- no frame among these has the length and the digest that the locator asks for
abbrev pub HasNone : (Standing → Type 0) → Locator → Type 0
HasNone Among l = (s : Standing) → Among s → (s.length ≡ l.length) × (s.digest ≡ l.digest) → ⊥

-- the frame is at any byte of an extent in use that isn't crowded
pub record IsInUse (image : Image) (plan : PlanValue) (s : Standing) : Type 0 where
  pub planned : Contains plan.planned s.extent
  pub sparse : ¬ IsCrowded image s.extent
  pub stands : Stands image s

-- the payload for a locator is nowhere: the locator asks for bytes, or for a digest that isn't that of no bytes; it dangles; and
-- what it asks for has no chunk in the tilings of the scanned extents, and no frame at any byte of an extent in use that
-- isn't crowded
pub record IsNowhere (image : Image) (plan : PlanValue) (all : List Scanned) (c : Checked) : Type 0 where
  pub asks : (c.locator.length ≡ 0) × (c.locator.digest ≡ sha256 []) → ⊥
  pub dangles : is_dangling c.status ≡ true
  pub no_chunk : HasNone (Contains (frames all)) c.locator
  pub no_frame : HasNone (IsInUse image plan) c.locator

-- the payload for the locator of this number in the entry of the shard is nowhere, and that for no locator before it
pub record IsLostInEntryFrom (given : Option (List Locator)) (image : Image) (id : ShardId) (number : ℕ) : Type 0 where
  pub found : Mapped
  pub mapped : IsMappedFrom given image found
  pub entry : BindingValue
  pub bound : IsBoundBy found.bindings id entry
  pub own : List Checked
  pub checked : AreChecked image found.plan (named_by_shard entry) own
  pub one : Checked
  pub is : slice_get own number ≡ Some one
  pub nowhere : IsNowhere image found.plan found.all one
  pub first : (k : ℕ) (c : Checked) → k < number → slice_get own k ≡ Some c → ¬ IsNowhere image found.plan found.all c

-- that payload is nowhere, and that for no locator before it, by the superblock that counts
abbrev pub IsLostInEntry : Image → ShardId → ℕ → Type 0
IsLostInEntry image id number = IsLostInEntryFrom None image id number

-- ---- without retired extents, and by given index runs

-- the frame is at any byte of an extent other than extent 0
pub record IsBehindExtent0 (image : Image) (s : Standing) : Type 0 where
  pub behind : 0 < s.extent
  pub stands : Stands image s

-- the locator asks for bytes, or for a digest that isn't that of no bytes, and no frame at any byte of an extent other than
-- extent 0 has its length and digest
pub record IsOnNoExtent (image : Image) (l : Locator) : Type 0 where
  pub asks : (l.length ≡ 0) × (l.digest ≡ sha256 []) → ⊥
  pub no_frame : HasNone (IsBehindExtent0 image) l

-- each index run is read
abbrev pub EachRunIsRead : Mapped → Type 0
EachRunIsRead m = All (λ s. s ≡ Read) m.read.states

-- no extent is crowded
abbrev pub NoExtentIsCrowded : Image → Type 0
NoExtentIsCrowded image = (e : ℕ) → ¬ IsCrowded image e

-- both are bytes of the shard of one entry: what its locators ask for, one directly after another; and they may be old alike
pub record AreAlikeBytes (m : Mapped) (id : ShardId) (found other : BytesValue) : Type 0 where
  pub entry : BindingValue
  pub bound : IsBoundBy m.bindings id entry
  pub contents : HaveContentsOf entry.locators found.bytes
  pub other_contents : HaveContentsOf entry.locators other.bytes
  pub same_doubt : other.is_doubtful ≡ found.is_doubtful

-- a shard with these bytes has such bytes, too, if the index runs of the superblock that counts are given
pub record HasBytesByOwnList (image : Image) (m : Mapped) (id : ShardId) (found : BytesValue) : Type 0 where
  pub other : BytesValue
  pub answer : IsShardAnswerFrom (Some m.plan.runs) image id (Found other)
  pub alike : AreAlikeBytes m id found other

-- two answers for a shard are alike: there is no such shard, the same payload is lost, or both are such bytes
abbrev pub AreAlike : Mapped → ShardId → ShardAnswer → ShardAnswer → Type 0
AreAlike m id NoSuchShard NoSuchShard = Unit {0}
AreAlike m id (PayloadLost number) (PayloadLost other) = number ≡ other
AreAlike m id (Found found) (Found other) = AreAlikeBytes m id found other
AreAlike m id _ _ = ⊥
