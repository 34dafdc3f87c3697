-- The contents of a superblock: generation, write pointers, retired extents if they are listed, and index runs.
use Rattle.std.specs.Prelude.{ℕ, List, [], Option}
use Rattle.std.specs.Option.{option_map_or, unwrap_or}
use Rattle.scrub_frame.specs.declared.locator.Locator.{Locator}

-- a generation, the write pointers of extents 1, 2 and so on, the list of retired extents if there is one, and the
-- locators of the index runs, newest first
pub record Contents : Type 0 where
  pub generation : ℕ
  pub pointers : List ℕ
  pub retired : Option (List ℕ)
  pub runs : List Locator

-- the kind of record that has these contents: 1 without a list of retired extents, 2 with one
abbrev pub version_of : Contents → ℕ
version_of c = option_map_or (λ _. 2) c.retired 1

-- the retired extents, or none if there is no list
abbrev pub retired_in : Contents → List ℕ
retired_in c = unwrap_or c.retired []
