-- What a writer of this program holds.
use Rattle.std.specs.Prelude.{ℕ, List, Bool, true, false, Option}
use Rattle.std.specs.Io.KnownBytes.{Appends}
use Rattle.scrub_report.specs.Output.{AppendsFront}

-- what a writer held before, and what it holds after, each if it is known
abbrev pub Held : Type 0
Held = Option (List ℕ) × Option (List ℕ)

-- a writer got the whole text, or, if that isn't said, the beginning of it
abbrev pub Gets : Bool → Held → List ℕ → Type 0
Gets true held text = Appends held.0 held.1 text
Gets false held text = AppendsFront held.0 held.1 text
