-- The line of an item: the word for its kind, and its numbers in decimal, with one space between. A UUID is written as in
-- RFC 9562, in lower case.
use Rattle.std.specs.Prelude.{ℕ, List, ◌++◌, codes}
use Rattle.std.specs.Fmt.{decimal}
use Rattle.uuid.specs.Text.{hyphenated_text, lower}
use Rattle.scrub_frame.specs.declared.form.Form.{Form}
use Rattle.scrub_frame.specs.declared.form.Form.TheVariants.{Plain, Sealed}
use Rattle.scrub_scan.specs.declared.item.Item.{Item}
use Rattle.scrub_scan.specs.declared.item.Item.TheVariants.{Chunk, Pad, Torn, Noise, Lost}

-- a space and a text
abbrev pub spaced : List ℕ → List ℕ
spaced text = codes " " ++ text

-- where an item begins and stops, in decimal
abbrev pub places : ℕ → ℕ → List ℕ
places start stop = spaced (decimal start) ++ spaced (decimal stop)

-- the word for a chunk by its form: `chunk`, or `sealed`
abbrev pub chunk_word : Form → List ℕ
chunk_word Plain = codes "chunk"
chunk_word Sealed = codes "sealed"

-- the line of an item: the word for its kind, where it begins and stops, and for a chunk its UUID and its payload's
-- length
abbrev pub line_of : Item → List ℕ
line_of (Chunk form start stop uuid length digest) =
    chunk_word form ++ places start stop ++ spaced (hyphenated_text lower uuid) ++ spaced (decimal length)
line_of (Pad start stop) = codes "pad" ++ places start stop
line_of (Torn start stop) = codes "torn" ++ places start stop
line_of (Noise start stop) = codes "noise" ++ places start stop
line_of (Lost start stop) = codes "lost" ++ places start stop
