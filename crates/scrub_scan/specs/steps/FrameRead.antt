-- Steps of reading the bytes at a place: those of each page are put after those before it.
use Rattle.std.specs.Prelude.{◌≡◌, ◌<◌, ◌≤◌, ◌++◌, ℕ, List, Option, length}
use Rattle.scrub_disk.specs.Image.{AreBytesAt}

-- the list has grown by n bytes, one or more, and these are at p
pub record AppendsBytesAt (at : ℕ → Option ℕ) (p n : ℕ) (old new : List ℕ) : Type 0 where
  pub some : 0 < n
  pub part : List ℕ
  pub count : length part ≡ n
  pub bytes : AreBytesAt at p part
  pub appended : new ≡ old ++ part

-- the list has grown by n bytes, one or more and at most `size`, and these are at p
abbrev pub AppendsAtMost : (ℕ → Option ℕ) → ℕ → ℕ → List ℕ → List ℕ → ℕ → Type 0
AppendsAtMost at p size old new n = (n ≤ size) × AppendsBytesAt at p n old new
