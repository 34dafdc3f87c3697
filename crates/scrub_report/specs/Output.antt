-- What a writer holds after it was given some bytes, even if it failed.
use Rattle.std.specs.Prelude.{ℕ, List, take, Option}
use Rattle.std.specs.Io.KnownBytes.{Appends}

-- a writer, if it is known what it holds, has what it held before, and after it some first bytes of the text, or none,
-- or all
abbrev pub AppendsFront : Option (List ℕ) → Option (List ℕ) → List ℕ → Type 0
AppendsFront old new text = (count : ℕ) × Appends old new (take count text)
