-- Steps of the code: the JSON tokens of values, texts of lists in pieces, and the report's tokens before, between and
-- after its extents and its orphans.
use Rattle.std.specs.Prelude.{◌≡◌, ◌*◌, ℕ, Bool, IfOk, IfSome, List, [], ◌∷◌, ◌++◌, Result, Vec, codes, drop, length, map, nat_lt, slice_get, take}
use Rattle.std.specs.Int.{div_ceil}
use Rattle.std.specs.List.{flat_map, zip}
use Rattle.json.specs.Token.{Token, begin_array, begin_object, end_array, end_object, key}
use Rattle.json.specs.Tree.{json_tokens}
use Rattle.serde_json.specs.Data.{Data, boolean}
use Rattle.serde_json.specs.Written.{comma_if, compact_text, outline}
use Rattle.json.specs.Print.{print}
use Rattle.scrub_report.specs.Json.{natural, list, with_keys}
use Rattle.scrub_report.specs.declared.listed.Listed.{Listed}
use Rattle.scrub_report.specs.declared.report.LaterTexts.{LaterTexts}
use Rattle.scrub_scan.specs.Scanned.{Scanned}
use Rattle.scrub_report.specs.steps.Values.{candidate_data, extent_data, geometry_data, ids_data, row_data, shared_data, super_data}
use Rattle.scrub_run.specs.declared.shard_id.ShardId.{ShardId}
use Rattle.scrub_report.specs.Report.{locator_data, numbers_data, place_data}

-- the JSON tokens that a value is written in
abbrev pub value_tokens : Data → List Token
value_tokens d = json_tokens (outline d)

-- the tokens of a key and its value
abbrev pub member_tokens : List ℕ → Data → List Token
member_tokens name d = key name ∷ value_tokens d

-- the tokens of some keys and their values, one after another, without the braces
abbrev pub members_tokens : List (List ℕ × Data) → List Token
members_tokens ms = flat_map (λ m. member_tokens m.0 m.1) ms

-- the tokens of some values, one after another
abbrev pub values_tokens : List Data → List Token
values_tokens ds = flat_map value_tokens ds

-- the tokens of some elements, each shown as a value, one after another
abbrev pub shown_tokens : {X : Type 0} → (X → Data) → List X → List Token
shown_tokens show xs = flat_map (λ x. value_tokens (show x)) xs

-- the tokens of a list that isn't closed yet, of some elements, each shown as a value
abbrev pub list_begun : {X : Type 0} → (X → Data) → List X → List Token
list_begun show xs = begin_array ∷ shown_tokens show xs

-- ---- texts of lists in pieces

-- the text of up to this many values from a number of them on, after a comma if that isn't 0
abbrev pub piece_text : List Data → ℕ → ℕ → List ℕ
piece_text ds from size = comma_if (nat_lt 0 from) ++ print (values_tokens (take size (drop from ds)))

-- the texts of all values, in pieces of this many; a piece that was made is right
pub record ArePieces {Z : Type 0} {E : Type 0} (ds : List Data) (size : ℕ) (texts : List (Result (Vec ℕ Z) E)) : Type 0 where
  pub count : length texts ≡ div_ceil (length ds) size
  pub each : (n : ℕ) → IfSome (slice_get texts n) (λ text. IfOk text (λ bytes. bytes.items ≡ piece_text ds (n * size) size))

-- the text of a report: three texts, between them those of its extents and of its orphans, and a line feed
abbrev pub joined_text : List ℕ → List Data → List ℕ → List Data → List ℕ → List ℕ
joined_text begun extents middle orphans end =
    begun ++ (print (values_tokens extents) ++ (middle ++ (print (values_tokens orphans) ++ end))) ++ 10 ∷ []

-- a scanned extent with its live bytes as a value
abbrev pub pair_data : Scanned × ℕ → Data
pair_data p = extent_data p.1 p.0

-- scanned extents with their live bytes as values
abbrev pub extent_values : List Scanned → List ℕ → List Data
extent_values all live = map pair_data (zip all live)

-- ---- the report

module _ {D : Type 0} where
  -- the report's keys before `extents` with their values
  abbrev pub first_keys : Listed D → List ShardId → Bool → List (List ℕ × Data)
  first_keys l broken clean =
      (codes "broken", ids_data broken) ∷
      (codes "candidates", list (map candidate_data l.liveness.candidates.items)) ∷
      (codes "clean", boolean clean) ∷
      (codes "dangling", list (map locator_data l.dangling.items)) ∷
      (codes "doubtful", ids_data l.shards.doubtful.items) ∷ []

  -- the values of the scanned extents
  abbrev pub listed_extents : Listed D → List Data
  listed_extents l = extent_values l.scan.all.extents l.liveness.live.items

  -- the report's keys between `extents` and `orphans` with their values
  abbrev pub middle_keys : Listed D → List (List ℕ × Data)
  middle_keys l =
      (codes "geometry", geometry_data l.scan.plan.geometry) ∷
      (codes "hidden", list (map locator_data l.hidden.items)) ∷ []

  -- the values of the orphans
  abbrev pub listed_orphans : Listed D → List Data
  listed_orphans l = map place_data l.liveness.orphans.items

  -- the report's keys after `orphans` with their values
  abbrev pub last_keys : Listed D → List (List ℕ × Data)
  last_keys l =
      (codes "retired", numbers_data l.scan.plan.retired) ∷
      (codes "runs", list (map row_data l.runs.items)) ∷
      (codes "shards", natural l.shards.count) ∷
      (codes "shared", list (map shared_data l.liveness.shared.items)) ∷
      (codes "super", super_data l.scan.chosen) ∷
      (codes "twins", list (map place_data l.twins.items)) ∷ []

  -- the report's keys after `extents` with their values
  abbrev pub later_keys : Listed D → List (List ℕ × Data)
  later_keys l = middle_keys l ++ (codes "orphans", list (listed_orphans l)) ∷ last_keys l

  -- all keys of the report with their values, from the lists that the code keeps
  abbrev pub all_keys : Listed D → List ShardId → Bool → List (List ℕ × Data)
  all_keys l broken clean = first_keys l broken clean ++ (codes "extents", list (listed_extents l)) ∷ later_keys l

  -- the report's tokens before the first extent
  abbrev pub begun_tokens : Listed D → List ShardId → Bool → List Token
  begun_tokens l broken clean =
      begin_object ∷ (members_tokens (first_keys l broken clean) ++ (key (codes "extents") ∷ begin_array ∷ []))

  -- the report's tokens between the last extent and the first orphan
  abbrev pub middle_tokens : Listed D → List Token
  middle_tokens l =
      end_array ∷ (members_tokens (middle_keys l) ++ (key (codes "orphans") ∷ begin_array ∷ []))

  -- the report's tokens after the last orphan
  abbrev pub ended_tokens : Listed D → List Token
  ended_tokens l = end_array ∷ (members_tokens (last_keys l) ++ end_object ∷ [])

  -- the texts after the last extent
  pub record AreLaterTexts (l : Listed D) (texts : LaterTexts) : Type 0 where
    pub middle : texts.middle.items ≡ print (middle_tokens l)
    pub orphans : ArePieces (listed_orphans l) 32768 texts.orphans.items
    pub end : texts.end.items ≡ print (ended_tokens l)

  -- the object of all keys as compact JSON, and a line feed
  abbrev pub listed_text : Listed D → List ShardId → Bool → List ℕ
  listed_text l broken clean = compact_text (with_keys (all_keys l broken clean)) ++ 10 ∷ []
