-- JSON values (RFC 8259) as the report uses them: numbers, lists and objects.
use Rattle.std.specs.Prelude.{ℕ, List, [], ◌∷◌, Option, Some, None}
use Rattle.serde_json.specs.Data.{Data, null, number, unsigned, array, object, Members, no_members, member}
use Rattle.serde_json.specs.View.{items_of}

-- the JSON number of a natural number
abbrev pub natural : ℕ → Data
natural n = number (unsigned n)

-- the JSON number of a natural number, or null if there is none
abbrev pub natural_or_null : Option ℕ → Data
natural_or_null (Some n) = natural n
natural_or_null None = null

-- the JSON list of some values, in their order
abbrev pub list : List Data → Data
list values = array (items_of values)

-- keys with their values, in their order
abbrev pub object_members : List (List ℕ × Data) → Members
object_members [] = no_members
object_members (m ∷ ms) = member m.0 m.1 (object_members ms)

-- the JSON object with these members
abbrev pub with_keys : List (List ℕ × Data) → Data
with_keys ms = object (object_members ms)
