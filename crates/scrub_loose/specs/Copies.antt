-- Copies as the code keeps them: chunks among which the spares are, and frames among which the loose copies are.
use Rattle.std.specs.Prelude.{◌==◌, ◌&&◌, ◌++◌, ℕ, Bool, List, [], length, if◌then◌else◌}
use Rattle.std.specs.List.{filter}
use Rattle.scrub_scan.specs.declared.standing.Standing.{Standing}
use Rattle.scrub_check.specs.declared.statuses.checked.Checked.{Checked}
use Rattle.scrub_check.specs.Spares.{asks_for_spares, is_copy_of, spares_by}

-- the chunks, the frames, and the crowded extents
pub record CopiesValue : Type 0 where
  pub spares : List Standing
  pub loose : List Standing
  pub crowded : List ℕ

-- the payload of a named locator is gone, by the chunks among which its spares are
abbrev pub is_gone_by : List Standing → Checked → Bool
is_gone_by spares c = asks_for_spares c && length (spares_by spares c) == 0

-- the loose copies of a named locator
abbrev pub loose_by : CopiesValue → Checked → List Standing
loose_by v c = if is_gone_by v.spares c then filter (is_copy_of c.locator) v.loose else []

-- the copies of a named locator: its spares, or its loose copies if it has none
abbrev pub copies_by : CopiesValue → Checked → List Standing
copies_by v c = spares_by v.spares c ++ loose_by v c
