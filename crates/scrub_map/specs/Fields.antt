-- The fields of a line.
use Rattle.std.specs.Prelude.{◌==◌, ◌&&◌, ◌||◌, ℕ, Bool, List, length, nat_lt, slice_index, filter}
use Rattle.std.specs.List.{list_any, slice_split}
use Rattle.std.specs.Str.Lines.{strip_carriage_return}

-- the byte is a space or a tab
abbrev pub is_field_blank : ℕ → Bool
is_field_blank byte = (byte == 32) || (byte == 9)

-- the parts of a text between its spaces and tabs, one byte or more each
unfoldable pub fields_of : List ℕ → List (List ℕ)
fields_of text = filter (λ part. nat_lt 0 (length part)) (slice_split is_field_blank text)

-- the fields of a line, which may end with a carriage return
abbrev pub line_fields : List ℕ → List (List ℕ)
line_fields line = fields_of (strip_carriage_return line)

-- the field is one of these letters
abbrev pub is_one_of : List ℕ → List ℕ → Bool
is_one_of letters field = (length field == 1) && list_any (λ letter. letter == slice_index field 0) letters
