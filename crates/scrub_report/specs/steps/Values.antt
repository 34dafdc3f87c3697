-- The values of an object's members, as the code keeps them, what they are as JSON, and the objects of the report's lists.
use Rattle.std.specs.Prelude.{ℕ, List, [], ◌∷◌, Option, codes, map, option_map}
use Rattle.hex.specs.Hex.{encode_lower}
use Rattle.uuid.specs.Text.{hyphenated_text, lower}
use Rattle.serde_json.specs.Data.{Data, boolean, string}
use Rattle.scrub_disk.specs.declared.geometry.Geometry.{Geometry}
use Rattle.scrub_frame.specs.declared.locator.Locator.{Locator}
use Rattle.scrub_super.specs.Chosen.{Choice}
use Rattle.scrub_scan.specs.declared.item.Item.{Item}
use Rattle.scrub_scan.specs.Line.{line_of}
use Rattle.scrub_scan.specs.Scanned.{Scanned}
use Rattle.scrub_run.specs.declared.shard_id.ShardId.{ShardId}
use Rattle.scrub_check.specs.declared.lists.place.SharedPlace.{SharedPlace}
use Rattle.scrub_check.specs.declared.runs.RunState.{RunState}
use Rattle.scrub_check.specs.Candidates.{CandidateValue}
use Rattle.scrub_report.specs.Json.{list, natural, natural_or_null, with_keys}
use Rattle.scrub_report.specs.Report.{locator_data, numbers_data, place_data}
use Rattle.scrub_found.specs.Texts.{owner_text, state_text, status_text}
use Rattle.scrub_report.specs.declared.keys.KeyValue.{KeyValue}
use Rattle.scrub_report.specs.declared.keys.KeyValue.TheVariants as key
use Rattle.scrub_found.specs.declared.runs.RunRow.{RunRow}
use Rattle.scrub_report.specs.declared.object.Value.{Value}
use Rattle.scrub_report.specs.declared.object.Value.TheVariants.{Number, Optional, Optional32, Flag, Owner, Status, State, Uuid, Numbers, Items}

-- the line of an item
abbrev pub item_data : Item → Data
item_data item = string (line_of item)

-- a list of the lines of items
abbrev pub items_data : List Item → Data
items_data items = list (map item_data items)

-- the value of a member, as JSON
abbrev pub value_data : Value → Data
value_data (Number n) = natural n
value_data (Optional n) = natural_or_null n
value_data (Optional32 n) = natural_or_null n
value_data (Flag b) = boolean b
value_data (Owner o) = string (owner_text o)
value_data (Status s) = string (status_text s)
value_data (State s) = string (state_text s)
value_data (Uuid u) = string (hyphenated_text lower u)
value_data (Numbers ns) = numbers_data ns.now
value_data (Items items) = items_data items.now

-- the value of `broken` and of `doubtful`
abbrev pub ids_data : List ShardId → Data
ids_data ids = list (map (λ (id : ShardId). string (encode_lower id.0)) ids)

-- one of `candidates`
abbrev pub candidate_data : CandidateValue → Data
candidate_data c = with_keys (
    (codes "extent", natural c.extent) ∷
    (codes "free", natural c.free) ∷
    (codes "keep", numbers_data (map (λ k. k.start) c.chunks)) ∷ [])

-- one of `extents`, with its live bytes
abbrev pub extent_data : ℕ → Scanned → Data
extent_data live f = with_keys (
    (codes "bad", numbers_data f.findings.bad_pages) ∷
    (codes "extent", natural f.extent) ∷
    (codes "items", items_data f.findings.items) ∷
    (codes "live", natural live) ∷
    (codes "pointer", natural f.pointer) ∷
    (codes "tail", natural f.findings.tail_count) ∷
    (codes "tail_at", natural_or_null f.findings.tail_first) ∷ [])

-- one of `runs`
abbrev pub run_data : Locator → Option ℕ → RunState → Data
run_data locator entries state = with_keys (
    (codes "entries", natural_or_null entries) ∷
    (codes "extent", natural locator.extent) ∷
    (codes "offset", natural locator.offset) ∷
    (codes "state", string (state_text state)) ∷ [])

-- one of `runs`, by its row
abbrev pub row_data : RunRow → Data
row_data r = run_data r.locator r.entries r.state

-- one of `shared`
abbrev pub shared_data : SharedPlace → Data
shared_data p = with_keys ((codes "count", natural p.count) ∷ (codes "extent", natural p.extent) ∷ (codes "offset", natural p.offset) ∷ [])

-- the value of `super`
abbrev pub super_data : Choice → Data
super_data choice = with_keys (
    (codes "bad", numbers_data choice.bad_pages) ∷
    (codes "generation", natural_or_null (option_map (λ c. c.generation) choice.superblock)) ∷
    (codes "page", natural_or_null choice.page) ∷
    (codes "records", natural choice.records) ∷
    (codes "tie", boolean choice.tie) ∷ [])

-- the value of `geometry`
abbrev pub geometry_data : Geometry → Data
geometry_data g = with_keys ((codes "extents", natural g.extents) ∷ (codes "page", natural g.page) ∷ (codes "pages", natural g.pages) ∷ [])

-- the value of a key of the report, as JSON
abbrev pub key_data : KeyValue → Data
key_data (key.Candidates cs) = list (map candidate_data cs.now)
key_data (key.Count n) = natural n
key_data (key.Flag b) = boolean b
key_data (key.Geometry g) = geometry_data g
key_data (key.Ids ids) = ids_data ids.now
key_data (key.Locators cs) = list (map locator_data cs.now)
key_data (key.Numbers ns) = numbers_data ns.now
key_data (key.Places ps) = list (map place_data ps.now)
key_data (key.Runs rs) = list (map row_data rs.now)
key_data (key.Shared ps) = list (map shared_data ps.now)
key_data (key.Super c) = super_data c.now
